use Rattle.fdo_rules.proofs.Waiting.{credentials, shows_header, next_entry, setup}
use Rattle.fdo_rules.proofs.laws.device_waits.Goals as goal

pub returns : goal.returns
returns c = (credentials, shows_header, next_entry, setup)

use Rattle.fdo_rules.proofs.Waiting.{hello, entry, info, app_start}
use Rattle.fdo_rules.proofs.laws.servers_wait.Goals as goal

pub returns : goal.returns
returns c = (hello, entry, info, app_start)

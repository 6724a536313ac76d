use Rattle.fdo_rules.proofs.Staying.{stays}
use Rattle.fdo_rules.proofs.laws.credential_stays.Goals as goal

pub returns : goal.returns
returns c = stays

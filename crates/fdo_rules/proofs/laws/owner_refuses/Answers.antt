use Rattle.fdo_rules.proofs.Refusing.{refuses}
use Rattle.fdo_rules.proofs.laws.owner_refuses.Goals as goal

pub returns : goal.returns
returns c = refuses

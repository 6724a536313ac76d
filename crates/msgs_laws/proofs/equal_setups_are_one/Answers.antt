use Rattle.msgs_laws.proofs.PayloadsBack.{one_setup}
use Rattle.msgs_laws.proofs.equal_setups_are_one.Goals as goal

pub returns : goal.returns
returns c = one_setup

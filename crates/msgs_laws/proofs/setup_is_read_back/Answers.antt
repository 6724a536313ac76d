use Rattle.msgs_laws.proofs.PayloadsBack.{setup_back}
use Rattle.msgs_laws.proofs.setup_is_read_back.Goals as goal

pub returns : goal.returns
returns c = setup_back

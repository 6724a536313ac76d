use Rattle.msgs_laws.proofs.ClaimsBack.{setup_back}
use Rattle.msgs_laws.proofs.device_claims_are_read_back.Goals as goal

pub returns : goal.returns
returns c = setup_back

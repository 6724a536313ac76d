use Rattle.msgs_laws.proofs.ClaimsBack.{one_setup}
use Rattle.msgs_laws.proofs.equal_device_claims_are_of_one_nonce.Goals as goal

pub returns : goal.returns
returns c = one_setup

use Rattle.msgs_laws.proofs.ClaimsBack.{one_device_proof}
use Rattle.msgs_laws.proofs.equal_device_proofs_claim_the_same.Goals as goal

pub returns : goal.returns
returns c = one_device_proof

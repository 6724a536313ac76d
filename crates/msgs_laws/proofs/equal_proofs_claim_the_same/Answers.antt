use Rattle.msgs_laws.proofs.ClaimsBack.{one_proof}
use Rattle.msgs_laws.proofs.equal_proofs_claim_the_same.Goals as goal

pub returns : goal.returns
returns c = one_proof

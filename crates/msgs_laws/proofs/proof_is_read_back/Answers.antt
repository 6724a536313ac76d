use Rattle.msgs_laws.proofs.ClaimsBack.{proof_back}
use Rattle.msgs_laws.proofs.proof_is_read_back.Goals as goal

pub returns : goal.returns
returns c = proof_back

use Rattle.msgs_laws.proofs.ClaimsBack.{one_owner}
use Rattle.msgs_laws.proofs.equal_owner_claims_are_of_one_key.Goals as goal

pub returns : goal.returns
returns c = one_owner

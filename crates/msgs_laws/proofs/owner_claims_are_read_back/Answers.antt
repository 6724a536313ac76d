use Rattle.msgs_laws.proofs.ClaimsBack.{owner_back}
use Rattle.msgs_laws.proofs.owner_claims_are_read_back.Goals as goal

pub returns : goal.returns
returns c = owner_back

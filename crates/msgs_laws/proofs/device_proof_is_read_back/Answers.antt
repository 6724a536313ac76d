use Rattle.msgs_laws.proofs.ClaimsBack.{device_back}
use Rattle.msgs_laws.proofs.device_proof_is_read_back.Goals as goal

pub returns : goal.returns
returns c = device_back

use Rattle.cbor_core.proofs.SpotLaws.{has_parts}
use Rattle.cbor_core.proofs.laws.spelled_parts.Goals as goal

pub returns : goal.returns
returns c = has_parts

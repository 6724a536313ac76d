use Rattle.cbor_core.proofs.Readings.{equal_norms}
use Rattle.cbor_core.proofs.laws.equal_spellings.Goals as goal

pub returns : goal.returns
returns c = equal_norms

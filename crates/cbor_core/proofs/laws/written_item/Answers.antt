use Rattle.cbor_core.proofs.SpotLaws.{written_spelled}
use Rattle.cbor_core.proofs.laws.written_item.Goals as goal

pub returns : goal.returns
returns c = written_spelled

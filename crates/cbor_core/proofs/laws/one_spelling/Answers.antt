use Rattle.std.proofs.Common.{false}
use Rattle.cbor_core.proofs.Readings.{one_reading}
use Rattle.cbor_core.proofs.laws.one_spelling.Goals as goal

pub returns : goal.returns
returns c = one_reading false

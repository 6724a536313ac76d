use Rattle.std.proofs.Common.{arith}
use Rattle.fdo_msgs.proofs.write.are_bytes.Goals as goal

pub returns : goal.returns
returns c = record { small = omega arith; fits = λ i. omega (arith, c.type_inv.bytes i) }

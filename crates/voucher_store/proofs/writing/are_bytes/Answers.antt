use Rattle.std.proofs.Common.{arith}
use Rattle.voucher_store.proofs.writing.are_bytes.Goals as goal

pub returns : goal.returns
returns c = record { small = omega arith; fits = λ i. omega (arith, c.type_inv.bytes i) }

use Rattle.std.proofs.Common.{refl}
use Rattle.suite_port.proofs.lab_seal.stream_block.Goals as goal

pub returns : goal.returns
returns c = rw (c.hash_four.ensures, c.as_slice.ensures, c.as_slice-2.ensures, c.in_four_bytes-counted.ensures) refl

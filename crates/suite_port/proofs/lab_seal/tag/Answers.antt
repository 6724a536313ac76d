use Rattle.std.proofs.Common.{refl}
use Rattle.suite_port.proofs.lab_seal.tag.Goals as goal

pub returns : goal.returns
returns c = rw (c.copy_from_slice.ensures.after, c.split_at.ensures.front, c.as_slice-3.ensures, c.hash_six-digest.ensures, c.as_slice.ensures, c.as_slice-2.ensures, c.in_eight_bytes-size.ensures) refl

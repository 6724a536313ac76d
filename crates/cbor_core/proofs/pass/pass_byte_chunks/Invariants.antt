use Rattle.std.proofs.Common.{◌≡◌, ◌-◌, length}
use Rattle.cbor_core.specs.declared.head.Major.TheVariants as major
use Rattle.cbor_core.specs.Reading.{open_at}
use Rattle.cbor_core.specs.Passing.{pass_chunk}
use Rattle.cbor_core.proofs.pass.pass_byte_chunks.Given as goal

abbrev pub invariant-loop-turn : goal.invariant-loop-turn
invariant-loop-turn l = open_at (pass_chunk l.total major.Bytes) l.total (length l.bytes - l._turn) tt l.rest ≡ open_at (pass_chunk l.total major.Bytes) l.total (length l.bytes) tt l.bytes

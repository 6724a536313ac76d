use Rattle.std.proofs.Common.{◌≡◌, ◌-◌, [], length}
use Rattle.cbor_core.specs.declared.head.Major.TheVariants as major
use Rattle.cbor_core.specs.Reading.{open_at, chunk_step}
use Rattle.cbor_core.proofs.strings.read_byte_chunks.Given as goal

abbrev pub invariant-loop-turn : goal.invariant-loop-turn
invariant-loop-turn l = open_at (chunk_step l.total major.Bytes) l.total (length l.bytes - l._turn) l.content.items l.rest
    ≡ open_at (chunk_step l.total major.Bytes) l.total (length l.bytes) [] l.bytes

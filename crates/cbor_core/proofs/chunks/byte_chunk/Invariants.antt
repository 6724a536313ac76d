use Rattle.std.proofs.Common.{◌≡◌, ◌-◌}
use Rattle.cbor_core.specs.declared.head.Major.TheVariants as major
use Rattle.cbor_core.specs.Chunks.{chunk_at}
use Rattle.cbor_core.proofs.chunks.byte_chunk.Given as goal

abbrev pub invariant-loop-turn : goal.invariant-loop-turn
invariant-loop-turn l = chunk_at l.total major.Bytes (l.index - l._turn) l.rest ≡ chunk_at l.total major.Bytes l.index l.bytes

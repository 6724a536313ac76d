use Rattle.std.proofs.Common.{◌≡◌, ◌-◌, [], length, string_bytes}
use Rattle.cbor_core.specs.declared.head.Major.TheVariants as major
use Rattle.cbor_core.specs.Reading.{open_at, chunk_step}
use Rattle.cbor_core.proofs.strings.read_text_chunks.Given as goal

abbrev pub invariant-loop-turn : goal.invariant-loop-turn
invariant-loop-turn l = open_at (chunk_step l.total major.Text) l.total (length l.bytes - l._turn) (string_bytes l.content) l.rest
    ≡ open_at (chunk_step l.total major.Text) l.total (length l.bytes) [] l.bytes

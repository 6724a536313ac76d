use Rattle.std.proofs.Common.{length, string_bytes, sym, ◌∙◌}
use Rattle.cbor_core.specs.declared.head.Major.TheVariants as major
use Rattle.cbor_core.specs.Reading.{chunk_step}
use Rattle.cbor_core.proofs.Loops.{open_over, open_ends}
use Rattle.cbor_core.proofs.strings.read_text_chunks.Goals as goal

pub returns-then-is_break : goal.returns-then-is_break
returns-then-is_break c = rw (c.new.ensures, c.split_at.ensures.back) (open_ends (chunk_step c.args.total major.Text) c.args.total (length c.args.bytes.now) c.loop-turn._turn
    (string_bytes c.loop-turn.content) c.loop-turn.rest.now _ c.loop-turn-test.true (sym c.is_break.ensures ∙ c.if-is_break.true) c.loop-turn.invariant)

pub returns : goal.returns
returns c = open_over (chunk_step c.args.total major.Text) c.args.total (length c.args.bytes.now) c.loop-turn._turn (string_bytes c.loop-turn.content) c.loop-turn.rest.now _
    c.loop-turn-test.false c.loop-turn.invariant

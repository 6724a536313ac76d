use Rattle.std.proofs.Common.{None, length, false, refl, sym, ◌∙◌}
use Rattle.cbor_core.specs.Passing.{pass_at, pass_pair}
use Rattle.cbor_core.proofs.Counts.{counted_more, counted_ends, counted_fails, counted_over}
use Rattle.cbor_core.proofs.counting.count_pairs.Goals as goal

pub returns-then-is_break : goal.returns-then-is_break
returns-then-is_break c = counted_ends (pass_pair (pass_at false c.args.total c.args.levels) tt) c.args.total (length c.args.bytes.now) c.loop-turn.turn c.loop-turn.rest.now _ c.loop-turn-test.true (sym c.is_break.ensures ∙ c.if-is_break.true) c.loop-turn.invariant

pub loop-turn-preserved : goal.loop-turn-preserved
loop-turn-preserved c = counted_more (pass_pair (pass_at false c.args.total c.args.levels) tt) c.args.total (length c.args.bytes.now) c.loop-turn.turn c.loop-turn.rest.now c.in-Ok.after.now _ c.loop-turn-test.true (sym c.is_break.ensures ∙ c.if-is_break.false) c.in-Ok.ensures.gives c.loop-turn.invariant

pub returns-in-Err : goal.returns-in-Err
returns-in-Err c = counted_fails (pass_pair (pass_at false c.args.total c.args.levels) tt) c.args.total c.in-Err.field-0 (length c.args.bytes.now) c.loop-turn.turn c.loop-turn.rest.now _ None c.loop-turn-test.true (sym c.is_break.ensures ∙ c.if-is_break.false) (c.in-Err.ensures.exact refl) c.loop-turn.invariant

pub returns : goal.returns
returns c = counted_over (pass_pair (pass_at false c.args.total c.args.levels) tt) c.args.total (length c.args.bytes.now) c.loop-turn.turn c.loop-turn.rest.now _ None c.loop-turn-test.false c.loop-turn.invariant

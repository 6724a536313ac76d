use Rattle.std.proofs.Common.{length, false, sym, ◌∙◌}
use Rattle.std.specs.Prelude.{is_some}
use Rattle.cbor_core.specs.Passing.{pass_step, pass_pair, pass_at}
use Rattle.cbor_core.proofs.Levels.{pass_deeper}
use Rattle.cbor_core.proofs.Loops.{row_fails, open_fails}
use Rattle.cbor_core.proofs.pass.+passing.Goals as goal

pub pass_item-returns-else-levels-eq0-clause-gives : goal.pass_item-returns-else-levels-eq0-clause-gives
pass_item-returns-else-levels-eq0-clause-gives t c = rw (pass_deeper (is_some c.args.alloc) c.args.total c.args.levels c.saturating_sub-place.result c.args.bytes.now c.in_ok-head.head c.in_ok-head.rest.now
    c.if-levels-eq0.false c.saturating_sub-place.ensures c.in_ok-head.ensures.gives) c.pass_inside.ensures.gives

pub pass_items-returns-in-Err-clause-gives : goal.pass_items-returns-in-Err-clause-gives
pass_items-returns-in-Err-clause-gives t c = row_fails (pass_step (pass_at (is_some c.args.alloc) c.args.total c.args.levels)) c.in-Err.fault c.args.n c.loop-turn._turn tt c.loop-turn.rest.now _
    c.loop-turn-test.true c.in-Err.ensures.gives c.loop-turn.invariant

pub pass_open_items-returns-in-Err-clause-gives : goal.pass_open_items-returns-in-Err-clause-gives
pass_open_items-returns-in-Err-clause-gives t c = open_fails (pass_step (pass_at (is_some c.args.alloc) c.args.total c.args.levels)) c.in-Err.fault c.args.total (length c.args.bytes.now) c.loop-turn._turn
    tt c.loop-turn.rest.now _ c.loop-turn-test.true (sym c.is_break.ensures ∙ c.if-is_break.false) c.in-Err.ensures.gives c.loop-turn.invariant

pub pass_keyed-returns-in-Err-clause-gives : goal.pass_keyed-returns-in-Err-clause-gives
pass_keyed-returns-in-Err-clause-gives t c = row_fails (pass_pair (pass_at false c.args.total c.args.levels)) c.in-Err.fault c.args.n c.loop-turn._turn tt c.loop-turn.rest.now _
    c.loop-turn-test.true c.in-Err.ensures.gives c.loop-turn.invariant

pub pass_open_keyed-returns-in-Err-clause-gives : goal.pass_open_keyed-returns-in-Err-clause-gives
pass_open_keyed-returns-in-Err-clause-gives t c = open_fails (pass_pair (pass_at false c.args.total c.args.levels)) c.in-Err.fault c.args.total (length c.args.bytes.now) c.loop-turn._turn
    tt c.loop-turn.rest.now _ c.loop-turn-test.true (sym c.is_break.ensures ∙ c.if-is_break.false) c.in-Err.ensures.gives c.loop-turn.invariant

pub pass_item-returns-else-levels-eq0-clause-exact : goal.pass_item-returns-else-levels-eq0-clause-exact
pass_item-returns-else-levels-eq0-clause-exact t c = λ pure. rw (pass_deeper (is_some c.args.alloc) c.args.total c.args.levels c.saturating_sub-place.result c.args.bytes.now c.in_ok-head.head c.in_ok-head.rest.now
    c.if-levels-eq0.false c.saturating_sub-place.ensures c.in_ok-head.ensures.gives) (c.pass_inside.ensures.exact pure)

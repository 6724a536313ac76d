use Rattle.std.proofs.Common.{length, sym, ◌∙◌}
use Rattle.cbor_core.specs.Reading.{item_step, item_at}
use Rattle.cbor_core.proofs.Levels.{item_deeper}
use Rattle.cbor_core.proofs.Loops.{row_fails, open_fails}
use Rattle.cbor_core.proofs.read.+reading.Goals as goal

pub read_item-returns-else-levels-eq0 : goal.read_item-returns-else-levels-eq0
read_item-returns-else-levels-eq0 t c = rw (item_deeper c.args.strict c.args.total c.args.levels c.saturating_sub-place.result c.args.bytes.now c.in_ok-head.head c.in_ok-head.rest.now
    c.if-levels-eq0.false c.saturating_sub-place.ensures c.in_ok-head.ensures.gives) c.read_content.ensures

pub read_items-returns-in-Err : goal.read_items-returns-in-Err
read_items-returns-in-Err t c = row_fails (item_step (item_at c.args.strict c.args.total c.args.levels)) c.in-Err.fault c.args.n c.loop-turn._turn c.loop-turn.items c.loop-turn.rest.now _
    c.loop-turn-test.true c.in-Err.ensures c.loop-turn.invariant

pub read_open_items-returns-in-Err : goal.read_open_items-returns-in-Err
read_open_items-returns-in-Err t c = open_fails (item_step (item_at c.args.strict c.args.total c.args.levels)) c.in-Err.fault c.args.total (length c.args.bytes.now) c.loop-turn._turn
    c.loop-turn.items c.loop-turn.rest.now _ c.loop-turn-test.true (sym c.is_break.ensures ∙ c.if-is_break.false) c.in-Err.ensures c.loop-turn.invariant

pub next_pair-admit-requires-clause-spelled : goal.next_pair-admit-requires-clause-spelled
next_pair-admit-requires-clause-spelled t c = c.as_received-received.ensures c.args.strict c.args.total c.args.levels c.in_ok-key.key c.saturating_sub-place.ensures c.in_ok-key.ensures

use Rattle.std.proofs.Common.{◌≡◌, ◌-◌, ◌+◌, ◌*◌, [], length, true, false}
use Rattle.std.specs.Prelude.{is_some}
use Rattle.cbor_core.specs.Reading.{row_at, open_at, item_at}
use Rattle.cbor_core.specs.Passing.{pass_step, pass_pair, fresh_step, pass_at}
use Rattle.cbor_core.proofs.pass.+passing.Given as goal

abbrev pub decreases-pass_item : goal.decreases-pass_item
decreases-pass_item l = 6 * l.levels

abbrev pub decreases-pass_two : goal.decreases-pass_two
decreases-pass_two l = 6 * l.levels + 1

abbrev pub decreases-pass_fresh : goal.decreases-pass_fresh
decreases-pass_fresh l = 6 * l.levels + 1

abbrev pub decreases-pass_fresh_pairs : goal.decreases-pass_fresh_pairs
decreases-pass_fresh_pairs l = 6 * l.levels + 2

abbrev pub decreases-pass_fresh_to_break : goal.decreases-pass_fresh_to_break
decreases-pass_fresh_to_break l = 6 * l.levels + 2

abbrev pub decreases-pass_items : goal.decreases-pass_items
decreases-pass_items l = 6 * l.levels + 2

abbrev pub decreases-pass_open_items : goal.decreases-pass_open_items
decreases-pass_open_items l = 6 * l.levels + 2

abbrev pub decreases-pass_keyed : goal.decreases-pass_keyed
decreases-pass_keyed l = 6 * l.levels + 2

abbrev pub decreases-pass_open_keyed : goal.decreases-pass_open_keyed
decreases-pass_open_keyed l = 6 * l.levels + 2

abbrev pub decreases-pass_map : goal.decreases-pass_map
decreases-pass_map l = 6 * l.levels + 3

abbrev pub decreases-pass_open_map : goal.decreases-pass_open_map
decreases-pass_open_map l = 6 * l.levels + 3

abbrev pub decreases-pass_counted : goal.decreases-pass_counted
decreases-pass_counted l = 6 * l.levels + 4

abbrev pub decreases-pass_to_break : goal.decreases-pass_to_break
decreases-pass_to_break l = 6 * l.levels + 4

abbrev pub decreases-pass_inside : goal.decreases-pass_inside
decreases-pass_inside l = 6 * l.levels + 5

abbrev pub invariant-pass_items-loop-turn : goal.invariant-pass_items-loop-turn
invariant-pass_items-loop-turn l = row_at (pass_step (pass_at (is_some l.alloc) l.total l.levels)) (l.n - l._turn) tt l.rest
    ≡ row_at (pass_step (pass_at (is_some l.alloc) l.total l.levels)) l.n tt l.bytes

abbrev pub invariant-pass_open_items-loop-turn : goal.invariant-pass_open_items-loop-turn
invariant-pass_open_items-loop-turn l = open_at (pass_step (pass_at (is_some l.alloc) l.total l.levels)) l.total (length l.bytes - l._turn) tt l.rest
    ≡ open_at (pass_step (pass_at (is_some l.alloc) l.total l.levels)) l.total (length l.bytes) tt l.bytes

abbrev pub invariant-pass_keyed-loop-turn : goal.invariant-pass_keyed-loop-turn
invariant-pass_keyed-loop-turn l = row_at (pass_pair (pass_at false l.total l.levels)) (l.n - l._turn) tt l.rest ≡ row_at (pass_pair (pass_at false l.total l.levels)) l.n tt l.bytes

abbrev pub invariant-pass_open_keyed-loop-turn : goal.invariant-pass_open_keyed-loop-turn
invariant-pass_open_keyed-loop-turn l = open_at (pass_pair (pass_at false l.total l.levels)) l.total (length l.bytes - l._turn) tt l.rest
    ≡ open_at (pass_pair (pass_at false l.total l.levels)) l.total (length l.bytes) tt l.bytes

abbrev pub invariant-pass_fresh_pairs-loop-turn : goal.invariant-pass_fresh_pairs-loop-turn
invariant-pass_fresh_pairs-loop-turn l = row_at (fresh_step l.total (item_at false l.total l.levels) (pass_at true l.total l.levels)) (l.n - l._turn) l.keys.keys l.rest
    ≡ row_at (fresh_step l.total (item_at false l.total l.levels) (pass_at true l.total l.levels)) l.n [] l.bytes

abbrev pub invariant-pass_fresh_to_break-loop-turn : goal.invariant-pass_fresh_to_break-loop-turn
invariant-pass_fresh_to_break-loop-turn l = open_at (fresh_step l.total (item_at false l.total l.levels) (pass_at true l.total l.levels)) l.total (length l.bytes - l._turn) l.keys.keys l.rest
    ≡ open_at (fresh_step l.total (item_at false l.total l.levels) (pass_at true l.total l.levels)) l.total (length l.bytes) [] l.bytes

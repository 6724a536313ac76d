use Rattle.std.proofs.Common.{◌≡◌, ◌-◌, ◌+◌, ◌*◌, [], length}
use Rattle.cbor_core.specs.Keys.{Keeps}
use Rattle.cbor_core.specs.Reading.{row_at, open_at, item_step, pair_step, item_at, key_spellings}
use Rattle.cbor_core.proofs.read.+reading.Given as goal

abbrev pub decreases-read_item : goal.decreases-read_item
decreases-read_item l = 6 * l.levels

abbrev pub decreases-next_item : goal.decreases-next_item
decreases-next_item l = 6 * l.levels + 1

abbrev pub decreases-next_pair : goal.decreases-next_pair
decreases-next_pair l = 6 * l.levels + 1

abbrev pub decreases-read_items : goal.decreases-read_items
decreases-read_items l = 6 * l.levels + 2

abbrev pub decreases-read_open_items : goal.decreases-read_open_items
decreases-read_open_items l = 6 * l.levels + 2

abbrev pub decreases-read_pairs : goal.decreases-read_pairs
decreases-read_pairs l = 6 * l.levels + 2

abbrev pub decreases-read_open_pairs : goal.decreases-read_open_pairs
decreases-read_open_pairs l = 6 * l.levels + 2

abbrev pub decreases-read_sized : goal.decreases-read_sized
decreases-read_sized l = 6 * l.levels + 4

abbrev pub decreases-read_open : goal.decreases-read_open
decreases-read_open l = 6 * l.levels + 4

abbrev pub decreases-read_content : goal.decreases-read_content
decreases-read_content l = 6 * l.levels + 5

abbrev pub invariant-read_items-loop-turn : goal.invariant-read_items-loop-turn
invariant-read_items-loop-turn l = row_at (item_step (item_at l.strict l.total l.levels)) (l.n - l._turn) l.items l.rest
    ≡ row_at (item_step (item_at l.strict l.total l.levels)) l.n [] l.bytes

abbrev pub invariant-read_open_items-loop-turn : goal.invariant-read_open_items-loop-turn
invariant-read_open_items-loop-turn l = open_at (item_step (item_at l.strict l.total l.levels)) l.total (length l.bytes - l._turn) l.items l.rest
    ≡ open_at (item_step (item_at l.strict l.total l.levels)) l.total (length l.bytes) [] l.bytes

abbrev pub invariant-read_pairs-loop-turn : goal.invariant-read_pairs-loop-turn
invariant-read_pairs-loop-turn l = record {
  reads : row_at (pair_step l.strict l.total (item_at l.strict l.total l.levels)) (l.n - l._turn) l.pairs l.rest
      ≡ row_at (pair_step l.strict l.total (item_at l.strict l.total l.levels)) l.n [] l.bytes;
  keys : Keeps l.keys (key_spellings l.pairs);
}

abbrev pub invariant-read_open_pairs-loop-turn : goal.invariant-read_open_pairs-loop-turn
invariant-read_open_pairs-loop-turn l = record {
  reads : open_at (pair_step l.strict l.total (item_at l.strict l.total l.levels)) l.total (length l.bytes - l._turn) l.pairs l.rest
      ≡ open_at (pair_step l.strict l.total (item_at l.strict l.total l.levels)) l.total (length l.bytes) [] l.bytes;
  keys : Keeps l.keys (key_spellings l.pairs);
}

abbrev pub decreases-read_one_pair : goal.decreases-read_one_pair
decreases-read_one_pair l = 6 * l.levels + 1

abbrev pub decreases-read_map : goal.decreases-read_map
decreases-read_map l = 6 * l.levels + 3

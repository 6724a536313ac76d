use Rattle.std.proofs.Common.{◌≡◌, ◌-◌, length, false}
use Rattle.cbor_core.specs.Counting.{count_step}
use Rattle.cbor_core.specs.Passing.{pass_at}
use Rattle.cbor_core.specs.Reading.{open_at}
use Rattle.cbor_core.proofs.counting.count_items.Given as goal

abbrev pub invariant-loop-turn : goal.invariant-loop-turn
invariant-loop-turn l = open_at (count_step (pass_at false l.total l.levels)) l.total (length l.bytes - l.turn) l.turn l.rest ≡ open_at (count_step (pass_at false l.total l.levels)) l.total (length l.bytes) 0 l.bytes

use Rattle.std.proofs.Common.{◌≡◌, ◌≢◌, ◌+◌, ◌≤◌, ◌-◌, length, take, reverse}
use Rattle.std.specs.List.{sum_by}
use Rattle.cbor_core.specs.Head.{head}
use Rattle.service_info.specs.Pairs.{pair_length}
use Rattle.service_info.proofs.packer.count_fitting.Given as goal

abbrev pub invariant-loop-count : goal.invariant-loop-count
invariant-loop-count l = record {
  within : l.count ≤ length l.reversed;
  room : l.room + sum_by pair_length (take l.count (reverse l.reversed)) ≡ l.size;
  head : l.count ≢ 0 → length (head 4 l.count) ≤ l.room;
}

abbrev pub decreases-loop-count : goal.decreases-loop-count
decreases-loop-count l = length l.reversed - l.count

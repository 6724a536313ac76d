use Rattle.std.proofs.Common.{◌≡◌, ◌-◌, ◌≤◌, length}
use Rattle.file_disk.proofs.file_disk.read_front.Given as goal

-- no more was read than there is room for
abbrev pub invariant-loop-count : goal.invariant-loop-count
invariant-loop-count l = record {
  within : l.count ≤ length l.into;
  room : length l.into ≡ length l.fn.into;
}

abbrev pub decreases-loop-count : goal.decreases-loop-count
decreases-loop-count l = length l.into - l.count

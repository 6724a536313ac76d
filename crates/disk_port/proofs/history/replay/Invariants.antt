use Rattle.std.proofs.Common.{◌≡◌, take}
use Rattle.disk_port.specs.Story.{readable}
use Rattle.disk_port.specs.History.{events_of}
use Rattle.disk_port.specs.Picked.{picked}
use Rattle.disk_port.proofs.history.replay.Given as goal

-- both lists are those after the calls so far
abbrev pub invariant-loop-call : goal.invariant-loop-call
invariant-loop-call l = record {
  now : l.now.items ≡ readable l.first (events_of (take l.call-index l.calls));
  left : l.left.items ≡ picked l.pick l.first (events_of (take l.call-index l.calls));
}

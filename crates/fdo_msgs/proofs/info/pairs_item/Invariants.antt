use Rattle.std.proofs.Common.{◌≡◌, map, take}
use Rattle.fdo_msgs.specs.Info.{item_of_pair}
use Rattle.fdo_msgs.proofs.info.pairs_item.Given as goal

abbrev pub invariant-loop-pair : goal.invariant-loop-pair
invariant-loop-pair l = l.parts ≡ map item_of_pair (take l.pair-index l.all)

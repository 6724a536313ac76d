use Rattle.std.proofs.Common.{◌≡◌, length}
use Rattle.cbor_core.specs.Spots.{spot_parts, spots_of}
use Rattle.voucher_chain.specs.Fault.{first_fault}
use Rattle.fdo_msgs.specs.Info.{pair_fault}
use Rattle.fdo_msgs.proofs.info.first_pair_fault.Given as goal

abbrev pub invariant-loop-next : goal.invariant-loop-next
invariant-loop-next l = first_fault pair_fault (spots_of l.next) ≡ first_fault pair_fault (spot_parts l.part.spot)

abbrev pub decreases-loop-next : goal.decreases-loop-next
decreases-loop-next l = length (spots_of l.next)

use Rattle.std.proofs.Common.{◌≡◌, length, map}
use Rattle.cbor_core.specs.Parts.{inner}
use Rattle.cbor_core.specs.Spots.{spot_item, spot_parts, spots_of}
use Rattle.voucher_chain.specs.Fault.{all_in}
use Rattle.voucher_chain.proofs.Alls.{with_front}
use Rattle.fdo_msgs.specs.Info.{pair_in}
use Rattle.fdo_msgs.proofs.info.read_all.Given as goal

abbrev pub invariant-loop-next : goal.invariant-loop-next
invariant-loop-next l = with_front l.all.items (all_in (λ s. pair_in (spot_item s)) (spots_of l.next)) ≡ all_in (λ s. pair_in (spot_item s)) (spot_parts l.part.spot)

abbrev pub decreases-loop-next : goal.decreases-loop-next
decreases-loop-next l = length (spots_of l.next)

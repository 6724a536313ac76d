use Rattle.std.proofs.Common.{◌≡◌, length}
use Rattle.cbor_core.specs.Spots.{spot_parts, spots_of}
use Rattle.voucher_chain.specs.Voucher.{entries_place}
use Rattle.voucher_chain.proofs.voucher.find_entries_fault.Given as goal

abbrev pub invariant-loop-next : goal.invariant-loop-next
invariant-loop-next l = entries_place l.part.spot.at (spots_of l.next) ≡ entries_place l.part.spot.at (spot_parts l.part.spot)

abbrev pub decreases-loop-next : goal.decreases-loop-next
decreases-loop-next l = length (spots_of l.next)

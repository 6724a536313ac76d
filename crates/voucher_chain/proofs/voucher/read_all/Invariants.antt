use Rattle.std.proofs.Common.{◌≡◌, length}
use Rattle.cbor_core.specs.Spots.{spot_parts, spots_of}
use Rattle.voucher_chain.specs.Fault.{all_in}
use Rattle.voucher_chain.specs.Voucher.{entry_inside}
use Rattle.voucher_chain.proofs.Alls.{with_front}
use Rattle.voucher_chain.proofs.voucher.read_all.Given as goal

abbrev pub invariant-loop-next : goal.invariant-loop-next
invariant-loop-next l = with_front l.all.items (all_in entry_inside (spots_of l.next)) ≡ all_in entry_inside (spot_parts l.part.spot)

abbrev pub decreases-loop-next : goal.decreases-loop-next
decreases-loop-next l = length (spots_of l.next)

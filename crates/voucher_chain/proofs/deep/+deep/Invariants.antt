use Rattle.std.proofs.Common.{◌≡◌, length}
use Rattle.cbor_core.specs.Spots.{spot_parts, spots_of}
use Rattle.voucher_chain.specs.Deep.{deep_place}
use Rattle.voucher_chain.proofs.deep.+deep.Given as goal

abbrev pub decreases-find_deep : goal.decreases-find_deep
decreases-find_deep l = l.levels

abbrev pub invariant-loop-next : goal.invariant-loop-next
invariant-loop-next l = deep_place l.fn.levels (spots_of l.next) ≡ deep_place l.fn.levels (spot_parts l.fn.part.spot)

abbrev pub decreases-loop-next : goal.decreases-loop-next
decreases-loop-next l = length (spots_of l.next)

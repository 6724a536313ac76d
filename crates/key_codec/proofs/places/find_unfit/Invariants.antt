use Rattle.std.proofs.Common.{◌≡◌, length}
use Rattle.cbor_core.specs.Spots.{spot_parts, spots_of}
use Rattle.key_codec.specs.Places.{first_unfit}
use Rattle.key_codec.proofs.places.find_unfit.Given as goal

abbrev pub invariant-loop-next : goal.invariant-loop-next
invariant-loop-next l = first_unfit l.fn.body.spot.at (spots_of l.next) ≡ first_unfit l.fn.body.spot.at (spot_parts l.fn.body.spot)

abbrev pub decreases-loop-next : goal.decreases-loop-next
decreases-loop-next l = length (spots_of l.next)

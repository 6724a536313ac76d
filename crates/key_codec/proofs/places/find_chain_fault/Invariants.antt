use Rattle.std.proofs.Common.{◌≡◌, length}
use Rattle.cbor_core.specs.Spots.{spot_parts, spots_of}
use Rattle.key_codec.specs.Places.{first_not_bytes}
use Rattle.key_codec.proofs.places.find_chain_fault.Given as goal

abbrev pub invariant-loop-next : goal.invariant-loop-next
invariant-loop-next l = first_not_bytes l.body.spot.at (spots_of l.next) ≡ first_not_bytes l.body.spot.at (spot_parts l.body.spot)

abbrev pub decreases-loop-next : goal.decreases-loop-next
decreases-loop-next l = length (spots_of l.next)

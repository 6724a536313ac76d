use Rattle.std.proofs.Common.{◌≡◌, length}
use Rattle.cbor_core.specs.Shapes.{labelled_spot}
use Rattle.cbor_core.specs.Spots.{spot_parts, spots_of}
use Rattle.cbor_core.proofs.shapes.find_label.Given as goal

abbrev pub invariant-loop-next : goal.invariant-loop-next
invariant-loop-next l = labelled_spot l.fn.label (spots_of l.next) ≡ labelled_spot l.fn.label (spot_parts l.fn.map.spot)

abbrev pub decreases-loop-next : goal.decreases-loop-next
decreases-loop-next l = length (spots_of l.next)

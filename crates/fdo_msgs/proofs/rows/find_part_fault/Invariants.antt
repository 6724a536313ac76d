use Rattle.std.proofs.Common.{◌≡◌, drop}
use Rattle.cbor_core.specs.Spots.{spot_parts, spots_of}
use Rattle.fdo_msgs.specs.Row.{parts_place}
use Rattle.fdo_msgs.proofs.rows.find_part_fault.Given as goal

abbrev pub invariant-loop-shape : goal.invariant-loop-shape
invariant-loop-shape l = parts_place l.fn.body.spot.at (drop l.shape-index l.shapes) (spots_of l.next) ≡ parts_place l.fn.body.spot.at l.fn.shapes (spot_parts l.fn.body.spot)

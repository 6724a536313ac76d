use Rattle.std.proofs.Common.{to_z-of_z}
use Rattle.cbor_core.proofs.SpotLaws.{none_left}
use Rattle.cbor_core.proofs.shapes.find_label.Goals as goal

pub returns-in_default-after : goal.returns-in_default-after
returns-in_default-after c = rw (to_z-of_z c.ranges.label, c.in-Some.is, none_left c.in-Some.key.later c.after.result c.after.ensures c.in_default-after.is) at c.loop-next.invariant

pub returns : goal.returns
returns c = rw (to_z-of_z c.ranges.label, c.in_default.is) at c.loop-next.invariant

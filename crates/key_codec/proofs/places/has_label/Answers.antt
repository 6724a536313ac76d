use Rattle.std.proofs.Common.{◌∙◌, to_z-of_z}
use Rattle.cbor_core.specs.Shapes.{labelled_at}
use Rattle.cbor_core.specs.Spots.{Standing}
use Rattle.key_codec.proofs.Binds.{some_of_map}
use Rattle.key_codec.proofs.places.has_label.Goals as goal

pub returns : goal.returns
returns c = c.is_some.ensures ∙ some_of_map (λ (p : Standing). p.spot) c.labelled.result (labelled_at c.args.label c.args.map.now.spot) (rw (to_z-of_z c.ranges.label) at c.labelled.ensures.spots)

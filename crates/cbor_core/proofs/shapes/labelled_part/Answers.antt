use Rattle.std.proofs.Common.{sym, ◌∙◌, to_z-of_z}
use Rattle.std.specs.Prelude.{option_map}
use Rattle.cbor_core.proofs.ShapeLaws.{map_at}
use Rattle.cbor_core.proofs.shapes.labelled_part.Goals as goal

pub returns-then-is_map : goal.returns-then-is_map
returns-then-is_map c = map_at c.args.label c.args.map.now.spot (option_map (λ p. p.spot) c.find_label.result) (sym c.is_map.ensures ∙ c.if-is_map.true) (rw (to_z-of_z c.ranges.label) at c.find_label.ensures)

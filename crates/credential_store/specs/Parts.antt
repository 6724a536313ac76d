-- Arrays of seven.
use Rattle.std.specs.Prelude.{List, ◌∷◌, Option, None, option_map, if◌then◌else◌}
use Rattle.cbor_core.specs.declared.item.Item.{out-Item}
use Rattle.cbor_core.specs.Shapes.{is_array, three_of}
use Rattle.cbor_core.specs.Spots.{Spot, spot_item, spot_parts}

abbrev pub seven_of : {A : Type 0} → List A → Option (A × A × A × A × A × A × A)
seven_of (a ∷ b ∷ c ∷ d ∷ rest) = option_map (λ r. (a, b, c, d, r.0, r.1, r.2)) (three_of rest)
seven_of _ = None

abbrev pub seven_spots : Spot → Option (Spot × Spot × Spot × Spot × Spot × Spot × Spot)
seven_spots s = if is_array (out-Item (spot_item s)) then seven_of (spot_parts s) else None

-- An array of seven, part by part.
use Rattle.std.proofs.Common.{◌≡◌, true, ◌∷◌, Some, refl}
use Rattle.cbor_core.specs.declared.item.Item.{out-Item}
use Rattle.cbor_core.specs.Shapes.{is_array, three_of}
use Rattle.cbor_core.specs.Spots.{Spot, Standing, spot_item, spot_parts}
use Rattle.credential_store.specs.Parts.{seven_spots}

pub seven_are : (s : Spot) (a b c d : Standing) (e f g : Spot) → is_array (out-Item (spot_item s)) ≡ true → spot_parts s ≡ a.spot ∷ a.later → a.later ≡ b.spot ∷ b.later → b.later ≡ c.spot ∷ c.later → c.later ≡ d.spot ∷ d.later → Some (e, f, g) ≡ three_of d.later → Some (a.spot, b.spot, c.spot, d.spot, e, f, g) ≡ seven_spots s
seven_are s a b c d e f g is first second third fourth last = rw (is, first, second, third, fourth, ← last) refl

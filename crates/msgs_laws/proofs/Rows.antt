-- The places of the parts of rows of four and of eight.
use Rattle.std.proofs.Common.{◌≡◌, ℕ, List, [], ◌∷◌, true, Option, Some, None, refl, ap}
use Rattle.std.specs.Option.{option_map}
use Rattle.cbor_core.specs.declared.item.Item.{Item, out-Item}
use Rattle.cbor_core.specs.declared.item.Item.TheVariants as items
use Rattle.cbor_core.specs.Shapes.{is_array, two_spots, four_spots}
use Rattle.cbor_core.specs.Spots.{Spot, start, spot_item, spot_raw, spot_parts}
use Rattle.cbor_core.specs.Whole.{whole}
use Rattle.cbor_core.proofs.WholeLaws.{spelled_whole}
use Rattle.voucher_chain.proofs.Places.{Texts, items_of, placed_is, ArePlaced, array_text}
use Rattle.fdo_msgs.specs.Row.{inside}
use Rattle.fdo_msgs.specs.Value.{eight_spots}
use Rattle.fdo_msgs.proofs.RowBack.{RowStands}

pub inside_is : (ps : Texts) → RowStands ps → inside (array_text ps) ≡ Some (start (array_text ps))
inside_is ps r = ap (option_map (λ (x : Item). start (array_text ps))) (spelled_whole (array_text ps) (items.Array (items_of ps)) r.spelled)

pub record Four (a b c d : Item × List ℕ) (s : Spot) : Type 0 where
  pub spots : Spot × Spot × Spot × Spot
  pub is : four_spots s ≡ Some spots
  pub a_item : spot_item spots.0 ≡ a.0
  pub a_raw : spot_raw spots.0 ≡ a.1
  pub b_item : spot_item spots.1 ≡ b.0
  pub b_raw : spot_raw spots.1 ≡ b.1
  pub c_item : spot_item spots.2 ≡ c.0
  pub c_raw : spot_raw spots.2 ≡ c.1
  pub d_item : spot_item spots.3 ≡ d.0
  pub d_raw : spot_raw spots.3 ≡ d.1

four_of_parts : (a b c d : Item × List ℕ) (s : Spot) (ss : List Spot) → is_array (out-Item (spot_item s)) ≡ true → spot_parts s ≡ ss → ArePlaced 15 (a ∷ b ∷ c ∷ d ∷ []) ss → Four a b c d s
four_of_parts a b c d s [] array parts placed = absurd placed
four_of_parts a b c d s (s1 ∷ []) array parts placed = absurd placed.1
four_of_parts a b c d s (s1 ∷ s2 ∷ []) array parts placed = absurd placed.1.1
four_of_parts a b c d s (s1 ∷ s2 ∷ s3 ∷ []) array parts placed = absurd placed.1.1.1
four_of_parts a b c d s (s1 ∷ s2 ∷ s3 ∷ s4 ∷ []) array parts placed = record {
  spots = (s1, s2, s3, s4);
  is = rw (array, parts) refl;
  a_item = (placed_is 15 a.0 a.1 s1 placed.0).item;
  a_raw = (placed_is 15 a.0 a.1 s1 placed.0).raw;
  b_item = (placed_is 15 b.0 b.1 s2 placed.1.0).item;
  b_raw = (placed_is 15 b.0 b.1 s2 placed.1.0).raw;
  c_item = (placed_is 15 c.0 c.1 s3 placed.1.1.0).item;
  c_raw = (placed_is 15 c.0 c.1 s3 placed.1.1.0).raw;
  d_item = (placed_is 15 d.0 d.1 s4 placed.1.1.1.0).item;
  d_raw = (placed_is 15 d.0 d.1 s4 placed.1.1.1.0).raw;
}
four_of_parts a b c d s (s1 ∷ s2 ∷ s3 ∷ s4 ∷ t ∷ ts) array parts placed = absurd placed.1.1.1.1

pub four_stand : (a b c d : Item × List ℕ) → RowStands (a ∷ b ∷ c ∷ d ∷ []) → Four a b c d (start (array_text (a ∷ b ∷ c ∷ d ∷ [])))
four_stand a b c d r = four_of_parts a b c d (start (array_text (a ∷ b ∷ c ∷ d ∷ []))) (spot_parts (start (array_text (a ∷ b ∷ c ∷ d ∷ [])))) r.array refl r.parts

pub record Eight (a b c d e f g h : Item × List ℕ) (s : Spot) : Type 0 where
  pub spots : Spot × Spot × Spot × Spot × Spot × Spot × Spot × Spot
  pub is : eight_spots s ≡ Some spots
  pub a_item : spot_item spots.0 ≡ a.0
  pub a_raw : spot_raw spots.0 ≡ a.1
  pub b_item : spot_item spots.1 ≡ b.0
  pub b_raw : spot_raw spots.1 ≡ b.1
  pub c_item : spot_item spots.2 ≡ c.0
  pub c_raw : spot_raw spots.2 ≡ c.1
  pub d_item : spot_item spots.3 ≡ d.0
  pub d_raw : spot_raw spots.3 ≡ d.1
  pub e_item : spot_item spots.4 ≡ e.0
  pub e_raw : spot_raw spots.4 ≡ e.1
  pub f_item : spot_item spots.5 ≡ f.0
  pub f_raw : spot_raw spots.5 ≡ f.1
  pub g_item : spot_item spots.6 ≡ g.0
  pub g_raw : spot_raw spots.6 ≡ g.1
  pub h_item : spot_item spots.7 ≡ h.0
  pub h_raw : spot_raw spots.7 ≡ h.1

eight_of_parts : (a b c d e f g h : Item × List ℕ) (s : Spot) (ss : List Spot) → is_array (out-Item (spot_item s)) ≡ true → spot_parts s ≡ ss → ArePlaced 15 (a ∷ b ∷ c ∷ d ∷ e ∷ f ∷ g ∷ h ∷ []) ss → Eight a b c d e f g h s
eight_of_parts a b c d e f g h s [] array parts placed = absurd placed
eight_of_parts a b c d e f g h s (s1 ∷ []) array parts placed = absurd placed.1
eight_of_parts a b c d e f g h s (s1 ∷ s2 ∷ []) array parts placed = absurd placed.1.1
eight_of_parts a b c d e f g h s (s1 ∷ s2 ∷ s3 ∷ []) array parts placed = absurd placed.1.1.1
eight_of_parts a b c d e f g h s (s1 ∷ s2 ∷ s3 ∷ s4 ∷ []) array parts placed = absurd placed.1.1.1.1
eight_of_parts a b c d e f g h s (s1 ∷ s2 ∷ s3 ∷ s4 ∷ s5 ∷ []) array parts placed = absurd placed.1.1.1.1.1
eight_of_parts a b c d e f g h s (s1 ∷ s2 ∷ s3 ∷ s4 ∷ s5 ∷ s6 ∷ []) array parts placed = absurd placed.1.1.1.1.1.1
eight_of_parts a b c d e f g h s (s1 ∷ s2 ∷ s3 ∷ s4 ∷ s5 ∷ s6 ∷ s7 ∷ []) array parts placed = absurd placed.1.1.1.1.1.1.1
eight_of_parts a b c d e f g h s (s1 ∷ s2 ∷ s3 ∷ s4 ∷ s5 ∷ s6 ∷ s7 ∷ s8 ∷ []) array parts placed = record {
  spots = (s1, s2, s3, s4, s5, s6, s7, s8);
  is = rw (array, parts) refl;
  a_item = (placed_is 15 a.0 a.1 s1 placed.0).item;
  a_raw = (placed_is 15 a.0 a.1 s1 placed.0).raw;
  b_item = (placed_is 15 b.0 b.1 s2 placed.1.0).item;
  b_raw = (placed_is 15 b.0 b.1 s2 placed.1.0).raw;
  c_item = (placed_is 15 c.0 c.1 s3 placed.1.1.0).item;
  c_raw = (placed_is 15 c.0 c.1 s3 placed.1.1.0).raw;
  d_item = (placed_is 15 d.0 d.1 s4 placed.1.1.1.0).item;
  d_raw = (placed_is 15 d.0 d.1 s4 placed.1.1.1.0).raw;
  e_item = (placed_is 15 e.0 e.1 s5 placed.1.1.1.1.0).item;
  e_raw = (placed_is 15 e.0 e.1 s5 placed.1.1.1.1.0).raw;
  f_item = (placed_is 15 f.0 f.1 s6 placed.1.1.1.1.1.0).item;
  f_raw = (placed_is 15 f.0 f.1 s6 placed.1.1.1.1.1.0).raw;
  g_item = (placed_is 15 g.0 g.1 s7 placed.1.1.1.1.1.1.0).item;
  g_raw = (placed_is 15 g.0 g.1 s7 placed.1.1.1.1.1.1.0).raw;
  h_item = (placed_is 15 h.0 h.1 s8 placed.1.1.1.1.1.1.1.0).item;
  h_raw = (placed_is 15 h.0 h.1 s8 placed.1.1.1.1.1.1.1.0).raw;
}
eight_of_parts a b c d e f g h s (s1 ∷ s2 ∷ s3 ∷ s4 ∷ s5 ∷ s6 ∷ s7 ∷ s8 ∷ t ∷ ts) array parts placed = absurd placed.1.1.1.1.1.1.1.1

pub eight_stand : (a b c d e f g h : Item × List ℕ) → RowStands (a ∷ b ∷ c ∷ d ∷ e ∷ f ∷ g ∷ h ∷ []) → Eight a b c d e f g h (start (array_text (a ∷ b ∷ c ∷ d ∷ e ∷ f ∷ g ∷ h ∷ [])))
eight_stand a b c d e f g h r = eight_of_parts a b c d e f g h (start (array_text (a ∷ b ∷ c ∷ d ∷ e ∷ f ∷ g ∷ h ∷ []))) (spot_parts (start (array_text (a ∷ b ∷ c ∷ d ∷ e ∷ f ∷ g ∷ h ∷ [])))) r.array refl r.parts

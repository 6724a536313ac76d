-- The places of the parts of a row that was written.
use Rattle.std.proofs.Common.{◌≡◌, ℕ, suc, ◌^◌, ◌<◌, List, [], ◌∷◌, ◌++◌, length, true, false, Option, Some, None, refl, sym, ap, subst, ◌∙◌, arith, lit<}
use Rattle.std.proofs.lemmas.List.{append-nil}
use Rattle.cbor_core.specs.declared.item.Item.{Item, out-Item}
use Rattle.cbor_core.specs.declared.item.Item.TheVariants as items
use Rattle.cbor_core.specs.Deterministic.{det}
use Rattle.cbor_core.specs.Norm.{norm, IsFitWithin}
use Rattle.cbor_core.specs.Shapes.{is_array, two_spots, three_spots, five_spots, six_spots}
use Rattle.cbor_core.specs.Spelling.{Spells, SpellsWithin}
use Rattle.cbor_core.specs.Spots.{Spot, start, spot_item, spot_raw, spot_parts}
use Rattle.cbor_core.proofs.Fits.{fit_spells}
use Rattle.cbor_core.proofs.Loose.{loosely}
use Rattle.cbor_core.proofs.SpotLaws.{SpotIs}
use Rattle.voucher_chain.specs.Reading.{IsInMemory}
use Rattle.voucher_chain.proofs.Places.{Placed, placed_is, Texts, items_of, AreSpelled, ArePlaced, array_text, array_spelled, array_parts}
use Rattle.voucher_chain.proofs.Seen.{start_is}
use Rattle.fdo_msgs.specs.Value.{one_spot}

-- an item that is written, one level inside a body
pub det_inside : (x : Item) → IsFitWithin 15 x → SpellsWithin false 15 (norm x) (det x)
det_inside x fit = loosely 15 (norm x) (det x) (fit_spells 15 x fit)

-- a row at the begin of an input
pub record RowStands (ps : Texts) : Type 0 where
  pub spelled : Spells (items.Array (items_of ps)) (array_text ps)
  pub array : is_array (out-Item (spot_item (start (array_text ps)))) ≡ true
  pub parts : ArePlaced 15 ps (spot_parts (start (array_text ps)))

pub row_stands : (ps : Texts) → length ps < 2 ^ 8 → AreSpelled 15 ps → IsInMemory (array_text ps) → RowStands ps
row_stands ps few spelled memory =
    let whole : Spells (items.Array (items_of ps)) (array_text ps) = array_spelled 15 ps few spelled in
    let placed : Placed 16 (items.Array (items_of ps)) (array_text ps) (start (array_text ps)) = record {
      level = refl;
      rest = [];
      bytes = sym (append-nil (array_text ps));
      spelled = whole;
      small = memory.small;
      fits = memory.fits;
    } in
    record {
      spelled = whole;
      array = ap (λ (x : Item). is_array (out-Item x)) (start_is (array_text ps) (items.Array (items_of ps)) whole).item ∙ ap is_array (items.outs-Array (items_of ps));
      parts = array_parts 15 ps (items.Array (items_of ps)) (start (array_text ps)) few spelled placed;
    }

-- ---- the parts by themselves

pub record One (a : Item × List ℕ) (s : Spot) : Type 0 where
  pub spots : Spot
  pub is : one_spot s ≡ Some spots
  pub a_item : spot_item spots ≡ a.0
  pub a_raw : spot_raw spots ≡ a.1

one_of : (a : Item × List ℕ) (s : Spot) (ss : List Spot) → is_array (out-Item (spot_item s)) ≡ true → spot_parts s ≡ ss → ArePlaced 15 (a ∷ []) ss → One a s
one_of a s [] array parts h = absurd h
one_of a s (s1 ∷ []) array parts h = record { spots = s1; is = rw (array, parts) refl; a_item = (placed_is 15 a.0 a.1 s1 h.0).item; a_raw = (placed_is 15 a.0 a.1 s1 h.0).raw }
one_of a s (s1 ∷ t ∷ ts) array parts h = absurd h.1

pub one_stand : (a : Item × List ℕ) → RowStands (a ∷ []) → One a (start (array_text (a ∷ [])))
one_stand a r = one_of a (start (array_text (a ∷ []))) (spot_parts (start (array_text (a ∷ [])))) r.array refl r.parts

pub record Two (a b : Item × List ℕ) (s : Spot) : Type 0 where
  pub spots : Spot × Spot
  pub is : two_spots s ≡ Some spots
  pub a_item : spot_item spots.0 ≡ a.0
  pub a_raw : spot_raw spots.0 ≡ a.1
  pub b_item : spot_item spots.1 ≡ b.0
  pub b_raw : spot_raw spots.1 ≡ b.1

two_of : (a b : Item × List ℕ) (s : Spot) (ss : List Spot) → is_array (out-Item (spot_item s)) ≡ true → spot_parts s ≡ ss → ArePlaced 15 (a ∷ b ∷ []) ss → Two a b s
two_of a b s [] array parts h = absurd h
two_of a b s (s1 ∷ []) array parts h = absurd h.1
two_of a b s (s1 ∷ s2 ∷ []) array parts h = record { spots = (s1, s2); is = rw (array, parts) refl; a_item = (placed_is 15 a.0 a.1 s1 h.0).item; a_raw = (placed_is 15 a.0 a.1 s1 h.0).raw; b_item = (placed_is 15 b.0 b.1 s2 h.1.0).item; b_raw = (placed_is 15 b.0 b.1 s2 h.1.0).raw }
two_of a b s (s1 ∷ s2 ∷ t ∷ ts) array parts h = absurd h.1.1

pub two_stand : (a b : Item × List ℕ) → RowStands (a ∷ b ∷ []) → Two a b (start (array_text (a ∷ b ∷ [])))
two_stand a b r = two_of a b (start (array_text (a ∷ b ∷ []))) (spot_parts (start (array_text (a ∷ b ∷ [])))) r.array refl r.parts

pub record Three (a b c : Item × List ℕ) (s : Spot) : Type 0 where
  pub spots : Spot × Spot × Spot
  pub is : three_spots s ≡ Some spots
  pub a_item : spot_item spots.0 ≡ a.0
  pub a_raw : spot_raw spots.0 ≡ a.1
  pub b_item : spot_item spots.1 ≡ b.0
  pub b_raw : spot_raw spots.1 ≡ b.1
  pub c_item : spot_item spots.2 ≡ c.0
  pub c_raw : spot_raw spots.2 ≡ c.1

three_of : (a b c : Item × List ℕ) (s : Spot) (ss : List Spot) → is_array (out-Item (spot_item s)) ≡ true → spot_parts s ≡ ss → ArePlaced 15 (a ∷ b ∷ c ∷ []) ss → Three a b c s
three_of a b c s [] array parts h = absurd h
three_of a b c s (s1 ∷ []) array parts h = absurd h.1
three_of a b c s (s1 ∷ s2 ∷ []) array parts h = absurd h.1.1
three_of a b c s (s1 ∷ s2 ∷ s3 ∷ []) array parts h = record { spots = (s1, s2, s3); is = rw (array, parts) refl; a_item = (placed_is 15 a.0 a.1 s1 h.0).item; a_raw = (placed_is 15 a.0 a.1 s1 h.0).raw; b_item = (placed_is 15 b.0 b.1 s2 h.1.0).item; b_raw = (placed_is 15 b.0 b.1 s2 h.1.0).raw; c_item = (placed_is 15 c.0 c.1 s3 h.1.1.0).item; c_raw = (placed_is 15 c.0 c.1 s3 h.1.1.0).raw }
three_of a b c s (s1 ∷ s2 ∷ s3 ∷ t ∷ ts) array parts h = absurd h.1.1.1

pub three_stand : (a b c : Item × List ℕ) → RowStands (a ∷ b ∷ c ∷ []) → Three a b c (start (array_text (a ∷ b ∷ c ∷ [])))
three_stand a b c r = three_of a b c (start (array_text (a ∷ b ∷ c ∷ []))) (spot_parts (start (array_text (a ∷ b ∷ c ∷ [])))) r.array refl r.parts

pub record Five (a b c d e : Item × List ℕ) (s : Spot) : Type 0 where
  pub spots : Spot × Spot × Spot × Spot × Spot
  pub is : five_spots s ≡ Some spots
  pub a_item : spot_item spots.0 ≡ a.0
  pub a_raw : spot_raw spots.0 ≡ a.1
  pub b_item : spot_item spots.1 ≡ b.0
  pub b_raw : spot_raw spots.1 ≡ b.1
  pub c_item : spot_item spots.2 ≡ c.0
  pub c_raw : spot_raw spots.2 ≡ c.1
  pub d_item : spot_item spots.3 ≡ d.0
  pub d_raw : spot_raw spots.3 ≡ d.1
  pub e_item : spot_item spots.4 ≡ e.0
  pub e_raw : spot_raw spots.4 ≡ e.1

five_of : (a b c d e : Item × List ℕ) (s : Spot) (ss : List Spot) → is_array (out-Item (spot_item s)) ≡ true → spot_parts s ≡ ss → ArePlaced 15 (a ∷ b ∷ c ∷ d ∷ e ∷ []) ss → Five a b c d e s
five_of a b c d e s [] array parts h = absurd h
five_of a b c d e s (s1 ∷ []) array parts h = absurd h.1
five_of a b c d e s (s1 ∷ s2 ∷ []) array parts h = absurd h.1.1
five_of a b c d e s (s1 ∷ s2 ∷ s3 ∷ []) array parts h = absurd h.1.1.1
five_of a b c d e s (s1 ∷ s2 ∷ s3 ∷ s4 ∷ []) array parts h = absurd h.1.1.1.1
five_of a b c d e s (s1 ∷ s2 ∷ s3 ∷ s4 ∷ s5 ∷ []) array parts h = record { spots = (s1, s2, s3, s4, s5); is = rw (array, parts) refl; a_item = (placed_is 15 a.0 a.1 s1 h.0).item; a_raw = (placed_is 15 a.0 a.1 s1 h.0).raw; b_item = (placed_is 15 b.0 b.1 s2 h.1.0).item; b_raw = (placed_is 15 b.0 b.1 s2 h.1.0).raw; c_item = (placed_is 15 c.0 c.1 s3 h.1.1.0).item; c_raw = (placed_is 15 c.0 c.1 s3 h.1.1.0).raw; d_item = (placed_is 15 d.0 d.1 s4 h.1.1.1.0).item; d_raw = (placed_is 15 d.0 d.1 s4 h.1.1.1.0).raw; e_item = (placed_is 15 e.0 e.1 s5 h.1.1.1.1.0).item; e_raw = (placed_is 15 e.0 e.1 s5 h.1.1.1.1.0).raw }
five_of a b c d e s (s1 ∷ s2 ∷ s3 ∷ s4 ∷ s5 ∷ t ∷ ts) array parts h = absurd h.1.1.1.1.1

pub five_stand : (a b c d e : Item × List ℕ) → RowStands (a ∷ b ∷ c ∷ d ∷ e ∷ []) → Five a b c d e (start (array_text (a ∷ b ∷ c ∷ d ∷ e ∷ [])))
five_stand a b c d e r = five_of a b c d e (start (array_text (a ∷ b ∷ c ∷ d ∷ e ∷ []))) (spot_parts (start (array_text (a ∷ b ∷ c ∷ d ∷ e ∷ [])))) r.array refl r.parts

pub record Six (a b c d e f : Item × List ℕ) (s : Spot) : Type 0 where
  pub spots : Spot × Spot × Spot × Spot × Spot × Spot
  pub is : six_spots s ≡ Some spots
  pub a_item : spot_item spots.0 ≡ a.0
  pub a_raw : spot_raw spots.0 ≡ a.1
  pub b_item : spot_item spots.1 ≡ b.0
  pub b_raw : spot_raw spots.1 ≡ b.1
  pub c_item : spot_item spots.2 ≡ c.0
  pub c_raw : spot_raw spots.2 ≡ c.1
  pub d_item : spot_item spots.3 ≡ d.0
  pub d_raw : spot_raw spots.3 ≡ d.1
  pub e_item : spot_item spots.4 ≡ e.0
  pub e_raw : spot_raw spots.4 ≡ e.1
  pub f_item : spot_item spots.5 ≡ f.0
  pub f_raw : spot_raw spots.5 ≡ f.1

six_of : (a b c d e f : Item × List ℕ) (s : Spot) (ss : List Spot) → is_array (out-Item (spot_item s)) ≡ true → spot_parts s ≡ ss → ArePlaced 15 (a ∷ b ∷ c ∷ d ∷ e ∷ f ∷ []) ss → Six a b c d e f s
six_of a b c d e f s [] array parts h = absurd h
six_of a b c d e f s (s1 ∷ []) array parts h = absurd h.1
six_of a b c d e f s (s1 ∷ s2 ∷ []) array parts h = absurd h.1.1
six_of a b c d e f s (s1 ∷ s2 ∷ s3 ∷ []) array parts h = absurd h.1.1.1
six_of a b c d e f s (s1 ∷ s2 ∷ s3 ∷ s4 ∷ []) array parts h = absurd h.1.1.1.1
six_of a b c d e f s (s1 ∷ s2 ∷ s3 ∷ s4 ∷ s5 ∷ []) array parts h = absurd h.1.1.1.1.1
six_of a b c d e f s (s1 ∷ s2 ∷ s3 ∷ s4 ∷ s5 ∷ s6 ∷ []) array parts h = record { spots = (s1, s2, s3, s4, s5, s6); is = rw (array, parts) refl; a_item = (placed_is 15 a.0 a.1 s1 h.0).item; a_raw = (placed_is 15 a.0 a.1 s1 h.0).raw; b_item = (placed_is 15 b.0 b.1 s2 h.1.0).item; b_raw = (placed_is 15 b.0 b.1 s2 h.1.0).raw; c_item = (placed_is 15 c.0 c.1 s3 h.1.1.0).item; c_raw = (placed_is 15 c.0 c.1 s3 h.1.1.0).raw; d_item = (placed_is 15 d.0 d.1 s4 h.1.1.1.0).item; d_raw = (placed_is 15 d.0 d.1 s4 h.1.1.1.0).raw; e_item = (placed_is 15 e.0 e.1 s5 h.1.1.1.1.0).item; e_raw = (placed_is 15 e.0 e.1 s5 h.1.1.1.1.0).raw; f_item = (placed_is 15 f.0 f.1 s6 h.1.1.1.1.1.0).item; f_raw = (placed_is 15 f.0 f.1 s6 h.1.1.1.1.1.0).raw }
six_of a b c d e f s (s1 ∷ s2 ∷ s3 ∷ s4 ∷ s5 ∷ s6 ∷ t ∷ ts) array parts h = absurd h.1.1.1.1.1.1

pub six_stand : (a b c d e f : Item × List ℕ) → RowStands (a ∷ b ∷ c ∷ d ∷ e ∷ f ∷ []) → Six a b c d e f (start (array_text (a ∷ b ∷ c ∷ d ∷ e ∷ f ∷ [])))
six_stand a b c d e f r = six_of a b c d e f (start (array_text (a ∷ b ∷ c ∷ d ∷ e ∷ f ∷ []))) (spot_parts (start (array_text (a ∷ b ∷ c ∷ d ∷ e ∷ f ∷ [])))) r.array refl r.parts

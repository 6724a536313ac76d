-- Where a row is at fault, part by part.
use Rattle.std.proofs.Common.{◌≡◌, ℕ, zero, suc, ◌+◌, ◌<◌, ◌≤◌, Bool, true, false, List, [], ◌∷◌, length, drop, get_or, Option, Some, None, refl, sym, ap, ◌∙◌, arith}
use Rattle.cbor_core.specs.Spots.{Spot, Standing, first_of, spots_of}
use Rattle.cbor_core.proofs.SpotLaws.{spots_first}
use Rattle.fdo_msgs.specs.declared.shape.Shape.{Shape}
use Rattle.fdo_msgs.specs.Row.{is_shape, place_at, parts_place}

step_at : (shapes : List Shape) (i : ℕ) (d : Shape) → i < length shapes → drop i shapes ≡ get_or shapes i d ∷ drop (i + 1) shapes
step_at [] i d lt = absurd (omega (arith, lt))
step_at (x ∷ xs) zero d lt = refl
step_at (x ∷ xs) (suc i) d lt =
    let more : suc i + 1 ≡ suc (i + 1) = omega arith in
    rw more (step_at xs i d (omega (arith, lt)))

-- the invariant of the loop: `whole` is the row's place
module _ (at : ℕ) (shapes : List Shape) (i : ℕ) (next : Option Standing) (whole : ℕ) (was : parts_place at (drop i shapes) (spots_of next) ≡ whole) where
  pub row_lacks : (d : Shape) → i < length shapes → next ≡ None → at ≡ whole
  unfolding parts_place
  row_lacks d lt none = rw (step_at shapes i d lt, none) at was

  pub row_fails : (d : Shape) (part : Standing) → i < length shapes → next ≡ Some part → is_shape (get_or shapes i d) part.spot ≡ false → place_at (get_or shapes i d) part.spot ≡ whole
  unfolding parts_place
  row_fails d part lt some other = rw (step_at shapes i d lt, some, other) at was

  pub row_more : (d : Shape) (part : Standing) (after : Option Standing) → i < length shapes → next ≡ Some part → is_shape (get_or shapes i d) part.spot ≡ true → after ≡ first_of part.later → parts_place at (drop (i + 1) shapes) (spots_of after) ≡ whole
  unfolding parts_place
  row_more d part after lt some is moved =
      let later : spots_of after ≡ part.later = ap spots_of moved ∙ spots_first part.later in
      ap (λ ss. parts_place at (drop (i + 1) shapes) ss) later ∙ (rw (step_at shapes i d lt, some, is) at was)

  pub row_ends : length shapes ≤ i → at ≡ whole
  unfolding parts_place
  row_ends le = rw (drop_past i shapes le) at was
    where
      drop_past : (i : ℕ) (xs : List Shape) → length xs ≤ i → drop i xs ≡ []
      drop_past zero [] le = refl
      drop_past (suc i) [] le = refl
      drop_past zero (x ∷ xs) le = absurd (omega (arith, le))
      drop_past (suc i) (x ∷ xs) le = drop_past i xs (omega (arith, le))

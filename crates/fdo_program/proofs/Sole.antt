-- A list of one item.
use Rattle.std.proofs.Common.{◌≡◌, ◌<◌, ◌≤◌, List, [], ◌∷◌, length, slice_index_or, sym, ap, arith}

-- the item at its front is all of it
pub sole_item : {A : Type 0} (items : List A) (item : A) → 1 ≤ length items → length items < 2 → item ≡ slice_index_or items 0 item → items ≡ item ∷ []
sole_item [] item some few is = let no : ⊥ = omega (arith, some) in absurd no
sole_item (x ∷ []) item some few is = ap (λ y. y ∷ []) (sym is)
sole_item (x ∷ (y ∷ rest)) item some few is = let no : ⊥ = omega (arith, few) in absurd no

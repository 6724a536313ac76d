-- Places of names that follow one another.
use Rattle.std.proofs.Common.{◌≡◌, ◌≢◌, ℕ, zero, suc, ◌+◌, ◌<◌, ◌≤◌, List, ◌++◌, Bool, true, false, Some, refl, ap, ◌∙◌, arith}
use Rattle.std.proofs.lemmas.Bool.{lt-ltb, ltb-true, ltb-false, eq-eqb, ne_eqb}
use Rattle.std.specs.Prelude.{nat_lt, ◌==◌, ◌&&◌, if◌then◌else◌}
use Rattle.std.specs.List.{range_with_len}
use Rattle.service_info.specs.Devmod.{misplaced}

-- a place that is right, and one that is not
right : {A : Type 0} (a b : Bool) (x y : A) → a ≡ true → b ≡ true → (if a && b then x else y) ≡ x
right a b x y e f = rw (e, f) refl

wrong_left : {A : Type 0} (a b : Bool) (x y : A) → a ≡ false → (if a && b then x else y) ≡ y
wrong_left a b x y e = rw e refl

wrong_right : {A : Type 0} (a b : Bool) (x y : A) → b ≡ false → (if a && b then x else y) ≡ y
wrong_right true b x y e = rw e refl
wrong_right false b x y e = refl

pub placed_on : (count at n : ℕ) (row : List ℕ) → at + n ≤ count → misplaced count at (range_with_len at n ++ row) ≡ misplaced count (at + n) row
placed_on count at zero row h = ap (λ k. misplaced count k row) (omega arith)
placed_on count at (suc n) row h =
    right (nat_lt at count) (at == at) (misplaced count (at + 1) (range_with_len (at + 1) n ++ row)) (Some at) (lt-ltb at count (omega (arith, h))) (eq-eqb at at refl)
    ∙ placed_on count (at + 1) n row (omega (arith, h)) ∙ ap (λ k. misplaced count k row) (omega arith)

pub wrong_start : (count at start n : ℕ) (row : List ℕ) → n ≢ 0 → start ≢ at → misplaced count at (range_with_len start n ++ row) ≡ Some at
wrong_start count at start zero row some differ = absurd (some refl)
wrong_start count at start (suc n) row some differ =
    wrong_right (nat_lt at count) (start == at) (misplaced count (at + 1) (range_with_len (start + 1) n ++ row)) (Some at) (ne_eqb start at differ)

pub too_many : (count at n : ℕ) (row : List ℕ) → at ≤ count → count < at + n → misplaced count at (range_with_len at n ++ row) ≡ Some count
too_many count at zero row h more = let no : ⊥ = omega (arith, h, more) in absurd no
too_many count at (suc n) row h more = by (nat_lt at count) refl (too_many count (at + 1) n row) where
  by : (b : Bool) → nat_lt at count ≡ b → (at + 1 ≤ count → count < at + 1 + n → misplaced count (at + 1) (range_with_len (at + 1) n ++ row) ≡ Some count)
      → misplaced count at (range_with_len at (suc n) ++ row) ≡ Some count
  by true below on =
      right (nat_lt at count) (at == at) (misplaced count (at + 1) (range_with_len (at + 1) n ++ row)) (Some at) below (eq-eqb at at refl)
      ∙ on (omega (arith, ltb-true at count below)) (omega (arith, more))
  by false past on =
      wrong_left (nat_lt at count) (at == at) (misplaced count (at + 1) (range_with_len (at + 1) n ++ row)) (Some at) past
      ∙ ap Some (omega (arith, ltb-false at count past, h))

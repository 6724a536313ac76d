-- Words and lines, which a byte parts.
use Rattle.std.proofs.Common.{◌≡◌, ℕ, ◌+◌, ◌<◌, cond, not, eqb, List, [], ◌∷◌, ◌++◌, Option, Some, None, length, take, drop, suc, refl, sym, ap, subst, inl, inr, arith}
use Rattle.std.specs.Prelude.{position}
use Rattle.std.specs.List.{position_or_len}
use Rattle.std.proofs.lemmas.Bool.Decides.{eqb_tells, leb_tells}
use Rattle.std.proofs.lemmas.List.{take_all}
use Rattle.fdo_msgs.specs.Words.{Lacks}

-- where the first of these bytes stands, or the length
abbrev place : ℕ → List ℕ → ℕ
place mark bytes = position_or_len (λ byte. eqb byte mark) bytes

-- none stands before the first
lacks_before : (mark : ℕ) (bytes : List ℕ) → Lacks mark (take (place mark bytes) bytes)
lacks_before mark [] = tt
lacks_before mark (x ∷ xs) =
    let more : suc (place mark xs) ≡ 1 + place mark xs = omega arith in
    elim (eqb_tells x mark) [
      | inl here ↦ subst (λ b. Lacks mark (take (cond (not b) (1 + place mark xs) 0) (x ∷ xs))) (sym here.0) tt
      | inr other ↦ subst (λ b. Lacks mark (take (cond (not b) (1 + place mark xs) 0) (x ∷ xs))) (sym other.0) (subst (λ k. Lacks mark (take k (x ∷ xs))) more (other.1, lacks_before mark xs))
    ]

-- these bytes are parted by one at a place
abbrev PartedAt : ℕ → List ℕ → ℕ → Type 0
PartedAt mark bytes at = at < length bytes → bytes ≡ take at bytes ++ mark ∷ drop 1 (drop at bytes)

-- the first stands there
mark_at : (mark : ℕ) (bytes : List ℕ) → PartedAt mark bytes (place mark bytes)
mark_at mark [] = λ within. let none : ⊥ = omega (arith, within) in absurd none
mark_at mark (x ∷ xs) =
    let more : suc (place mark xs) ≡ 1 + place mark xs = omega arith in
    elim (eqb_tells x mark) [
      | inl here ↦ subst (λ b. PartedAt mark (x ∷ xs) (cond (not b) (1 + place mark xs) 0)) (sym here.0) (λ _. ap (λ b. b ∷ xs) here.1)
      | inr other ↦ subst (λ b. PartedAt mark (x ∷ xs) (cond (not b) (1 + place mark xs) 0)) (sym other.0) (subst (PartedAt mark (x ∷ xs)) more (λ within. ap (λ rest. x ∷ rest) (mark_at mark xs (omega (arith, within)))))
    ]

-- at the first place found
pub cut_found : (mark at : ℕ) (bytes : List ℕ) → position (λ byte. eqb byte mark) bytes ≡ Some at → (bytes ≡ take at bytes ++ mark ∷ drop 1 (drop at bytes)) × Lacks mark (take at bytes)
cut_found mark at bytes found =
    elim (leb_tells (suc (place mark bytes)) (length bytes)) [
      | inl is ↦
          let same : ◌≡◌ {A = Option ℕ} (Some (place mark bytes)) (Some at) = subst (λ b. cond b (Some (place mark bytes)) None ≡ Some at) is.0 found in
          let equal : place mark bytes ≡ at = cc in
          subst (λ k. (bytes ≡ take k bytes ++ mark ∷ drop 1 (drop k bytes)) × Lacks mark (take k bytes)) equal
          (mark_at mark bytes (omega (arith, is.1)), lacks_before mark bytes)
      | inr other ↦ let none : ◌≡◌ {A = Option ℕ} None (Some at) = subst (λ b. cond b (Some (place mark bytes)) None ≡ Some at) other.0 found in cc
    ]

-- at no place
pub cut_none : (mark : ℕ) (bytes : List ℕ) → position (λ byte. eqb byte mark) bytes ≡ None → Lacks mark bytes
cut_none mark bytes none =
    elim (leb_tells (suc (place mark bytes)) (length bytes)) [
      | inl is ↦ let some : ◌≡◌ {A = Option ℕ} (Some (place mark bytes)) None = subst (λ b. cond b (Some (place mark bytes)) None ≡ None) is.0 none in cc
      | inr other ↦ subst (Lacks mark) (take_all (place mark bytes) bytes (omega (arith, other.1))) (lacks_before mark bytes)
    ]

-- no byte of one list but the first of the other parts them
pub cut_once : (mark : ℕ) (a b c d : List ℕ) → Lacks mark a → Lacks mark c → a ++ mark ∷ b ≡ c ++ mark ∷ d → (a ≡ c) × (b ≡ d)
cut_once mark [] b [] d la lc same = (refl, ap (drop 1) same)
cut_once mark [] b (y ∷ c) d la lc same = let head : mark ≡ y = cc in absurd (lc.0 (sym head))
cut_once mark (x ∷ a) b [] d la lc same = let head : x ≡ mark = cc in absurd (la.0 head)
cut_once mark (x ∷ a) b (y ∷ c) d la lc same =
    let head : x ≡ y = cc in
    let rest = cut_once mark a b c d la.1 lc.1 (ap (drop 1) same) in
    (cc, rest.1)

-- what a byte parts does not lack it
pub not_lacking : (mark : ℕ) (front rest : List ℕ) → Lacks mark (front ++ mark ∷ rest) → ⊥
not_lacking mark [] rest lacks = lacks.0 refl
not_lacking mark (x ∷ front) rest lacks = not_lacking mark front rest lacks.1

pub lacks_both : (mark : ℕ) (a b : List ℕ) → Lacks mark a → Lacks mark b → Lacks mark (a ++ b)
lacks_both mark [] b la lb = lb
lacks_both mark (x ∷ a) b la lb = (la.0, lacks_both mark a b la.1 lb)

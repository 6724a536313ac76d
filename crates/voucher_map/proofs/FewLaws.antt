-- Chains that are kept are short.
use Rattle.std.proofs.Common.{◌≡◌, inl, inr, ℕ, ◌≤◌, List, [], ◌∷◌, length, true, false, Option, Some, None, if◌then◌else◌, refl, ap, sym, ◌∙◌, subst}
use Rattle.std.specs.List.{AllByRecursion}
use Rattle.std.proofs.lemmas.Bool.{cases_Bool}
use Rattle.voucher_map.specs.Map.{names, entry_of, HasFew, AllHaveFew}
use Rattle.voucher_map.specs.declared.kept.Kept.{Kept}
use Rattle.voucher_map.proofs.EntryLaws.{at_true, at_false}

pub entry_few : (guid : List ℕ) (entry : Kept) (entries : List Kept) → entry_of guid entries ≡ Some entry → AllHaveFew entries → HasFew entry
entry_few guid entry [] is few = let no : ⊥ = cc in absurd no
entry_few guid entry (e ∷ entries) is few = elim (cases_Bool (names guid e)) [
  | inl named ↦ subst HasFew (some_same e entry (sym (at_true (names guid e) (Some e) (entry_of guid entries) named) ∙ is)) few.0
  | inr other ↦ entry_few guid entry entries (sym (at_false (names guid e) (Some e) (entry_of guid entries) other) ∙ is) few.1
]
  where
    some_same : (a b : Kept) → Some a ≡ Some b → a ≡ b
    some_same a b is = cc

-- One entry among the others.
use Rattle.std.proofs.Common.{◌≡◌, inl, inr, ℕ, List, [], ◌∷◌, ◌++◌, Bool, true, false, if◌then◌else◌, Some, None, refl, ap, sym, ◌∙◌, subst}
use Rattle.std.proofs.lemmas.Bool.{cases_Bool, false≢true}
use Rattle.voucher_map.specs.Map.{names, entry_of, set_entry, put_entry}
use Rattle.voucher_map.specs.Laws.{DifferInOne, ChangesOneAlone, AddsOneLast}
use Rattle.voucher_map.specs.declared.kept.Kept.{Kept}

pub at_true : {A : Type 0} → (b : Bool) (x y : A) → b ≡ true → (if b then x else y) ≡ x
at_true true x y is = refl
at_true false x y is = absurd (false≢true is)

pub at_false : {A : Type 0} → (b : Bool) (x y : A) → b ≡ false → (if b then x else y) ≡ y
at_false true x y is = absurd (false≢true (sym is))
at_false false x y is = refl

module _ (guid : List ℕ) (new : Kept) where
  -- the first that is named, or a later one
  here : (old : Kept) (entries after : List Kept) → names guid old ≡ true → after ≡ new ∷ entries → DifferInOne guid old new (old ∷ entries) after
  here old entries after named is = record { front = []; back = entries; was = refl; is = is; named = named; first = refl }

  later : (old e : Kept) (entries after after' : List Kept) → names guid e ≡ false → after' ≡ e ∷ after → DifferInOne guid old new entries after → DifferInOne guid old new (e ∷ entries) after'
  later old e entries after after' other is d = record {
    front = e ∷ d.front;
    back = d.back;
    was = ap (λ es. e ∷ es) d.was;
    is = is ∙ ap (λ es. e ∷ es) d.is;
    named = d.named;
    first = at_false (names guid e) (Some e) (entry_of guid d.front) other ∙ d.first;
  }

  some_same : (a b : Kept) → Some a ≡ Some b → a ≡ b
  some_same a b is = cc

  set_differs : (old : Kept) (entries : List Kept) → entry_of guid entries ≡ Some old → DifferInOne guid old new entries (set_entry guid new entries)
  set_differs old [] is = let no : None ≡ Some old = is in cc
  set_differs old (e ∷ entries) is = elim (cases_Bool (names guid e)) [
    | inl named ↦
        let same : e ≡ old = some_same e old (sym (at_true (names guid e) (Some e) (entry_of guid entries) named) ∙ is) in
        subst (λ k. DifferInOne guid k new (e ∷ entries) (set_entry guid new (e ∷ entries))) same (here e entries (set_entry guid new (e ∷ entries)) named (at_true (names guid e) (new ∷ entries) (e ∷ set_entry guid new entries) named))
    | inr other ↦
        later old e entries (set_entry guid new entries) (set_entry guid new (e ∷ entries)) other (at_false (names guid e) (new ∷ entries) (e ∷ set_entry guid new entries) other)
        (set_differs old entries (sym (at_false (names guid e) (Some e) (entry_of guid entries) other) ∙ is))
  ]

  put_differs : (old : Kept) (entries : List Kept) → entry_of guid entries ≡ Some old → DifferInOne guid old new entries (put_entry guid new entries)
  put_differs old [] is = let no : None ≡ Some old = is in cc
  put_differs old (e ∷ entries) is = elim (cases_Bool (names guid e)) [
    | inl named ↦
        let same : e ≡ old = some_same e old (sym (at_true (names guid e) (Some e) (entry_of guid entries) named) ∙ is) in
        subst (λ k. DifferInOne guid k new (e ∷ entries) (put_entry guid new (e ∷ entries))) same (here e entries (put_entry guid new (e ∷ entries)) named (at_true (names guid e) (new ∷ entries) (e ∷ put_entry guid new entries) named))
    | inr other ↦
        later old e entries (put_entry guid new entries) (put_entry guid new (e ∷ entries)) other (at_false (names guid e) (new ∷ entries) (e ∷ put_entry guid new entries) other)
        (put_differs old entries (sym (at_false (names guid e) (Some e) (entry_of guid entries) other) ∙ is))
  ]

  pub put_last : (entries : List Kept) → entry_of guid entries ≡ None → put_entry guid new entries ≡ entries ++ new ∷ []
  put_last [] is = refl
  put_last (e ∷ entries) is = elim (cases_Bool (names guid e)) [
    | inl named ↦ let no : Some e ≡ None = sym (at_true (names guid e) (Some e) (entry_of guid entries) named) ∙ is in cc
    | inr other ↦ at_false (names guid e) (new ∷ entries) (e ∷ put_entry guid new entries) other
        ∙ ap (λ es. e ∷ es) (put_last entries (sym (at_false (names guid e) (Some e) (entry_of guid entries) other) ∙ is))
  ]

  pub set_none : (entries : List Kept) → entry_of guid entries ≡ None → set_entry guid new entries ≡ entries
  set_none [] is = refl
  set_none (e ∷ entries) is = elim (cases_Bool (names guid e)) [
    | inl named ↦ let no : Some e ≡ None = sym (at_true (names guid e) (Some e) (entry_of guid entries) named) ∙ is in cc
    | inr other ↦ at_false (names guid e) (new ∷ entries) (e ∷ set_entry guid new entries) other
        ∙ ap (λ es. e ∷ es) (set_none entries (sym (at_false (names guid e) (Some e) (entry_of guid entries) other) ∙ is))
  ]

pub changes_one : ChangesOneAlone
changes_one guid old new entries is = (set_differs guid new old entries is, put_differs guid new old entries is)

pub adds_last : AddsOneLast
adds_last guid new entries is = (put_last guid new entries is, set_none guid new entries is)

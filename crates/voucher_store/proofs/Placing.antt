-- An entry in the place of the one that a GUID names.
use Rattle.std.proofs.Common.{◌≡◌, inl, inr, ℕ, zero, suc, List, [], ◌∷◌, ◌++◌, if◌then◌else◌, Option, Some, None, option_map, refl, ap, sym, ◌∙◌, subst}
use Rattle.std.specs.Prelude.{slice_set, slice_index_or}
use Rattle.std.proofs.lemmas.Bool.{cases_Bool}
use Rattle.voucher_chain.specs.declared.voucher.Voucher.{Voucher}
use Rattle.voucher_map.specs.Map.{names, entry_of, set_entry, put_entry, held_in, candidate_set_in, candidate_set, promoted_in, promoted}
use Rattle.voucher_map.specs.declared.kept.Kept.{Kept}
use Rattle.voucher_map.specs.declared.kept.Kept.TheVariants as kept
use Rattle.voucher_map.proofs.EntryLaws.{at_true, at_false, put_last}
use Rattle.voucher_store.specs.Places.{place_of, candidate_given, promoted_entry}

-- one place further
pub record Further (o : Option ℕ) (at : ℕ) : Type 0 where
  pub before : ℕ
  pub is : at ≡ suc before
  pub was : o ≡ Some before

further : (o : Option ℕ) (at : ℕ) → option_map suc o ≡ Some at → Further o at
further (Some k) at is = record { before = k; is = sym (cc is); was = refl }
further None at is = let no : None ≡ Some at = is in absurd (cc no)

module _ (guid : List ℕ) where
  -- what stands there
  pub entry_at : (entries : List Kept) (at : ℕ) (d : Kept) → place_of guid entries ≡ Some at → entry_of guid entries ≡ Some (slice_index_or entries at d)
  entry_at [] at d is = absurd (cc is)
  entry_at (e ∷ entries) at d is = elim (cases_Bool (names guid e)) [
    | inl named ↦
        let zero_is : 0 ≡ at = cc (at_true (names guid e) (Some 0) (option_map suc (place_of guid entries)) named, is) in
        subst (λ n. (if names guid e then Some e else entry_of guid entries) ≡ Some (slice_index_or (e ∷ entries) n d)) zero_is (at_true (names guid e) (Some e) (entry_of guid entries) named)
    | inr other ↦
        let f = further (place_of guid entries) at (sym (at_false (names guid e) (Some 0) (option_map suc (place_of guid entries)) other) ∙ is) in
        subst (λ n. (if names guid e then Some e else entry_of guid entries) ≡ Some (slice_index_or (e ∷ entries) n d)) (sym f.is) (at_false (names guid e) (Some e) (entry_of guid entries) other ∙ entry_at entries f.before d f.was)
  ]

  pub entry_nowhere : (entries : List Kept) → place_of guid entries ≡ None → entry_of guid entries ≡ None
  entry_nowhere [] is = refl
  entry_nowhere (e ∷ entries) is = elim (cases_Bool (names guid e)) [
    | inl named ↦ absurd (cc (at_true (names guid e) (Some 0) (option_map suc (place_of guid entries)) named, is))
    | inr other ↦ at_false (names guid e) (Some e) (entry_of guid entries) other ∙ entry_nowhere entries (none (place_of guid entries) (sym (at_false (names guid e) (Some 0) (option_map suc (place_of guid entries)) other) ∙ is))
  ]
    where
      none : (o : Option ℕ) → option_map suc o ≡ None → o ≡ None
      none None is = refl
      none (Some k) is = absurd (cc is)

  -- another in its place
  pub set_at : (entries : List Kept) (new : Kept) (at : ℕ) → place_of guid entries ≡ Some at → slice_set entries at new ≡ set_entry guid new entries
  set_at [] new at is = absurd (cc is)
  set_at (e ∷ entries) new at is = elim (cases_Bool (names guid e)) [
    | inl named ↦
        let zero_is : 0 ≡ at = cc (at_true (names guid e) (Some 0) (option_map suc (place_of guid entries)) named, is) in
        subst (λ n. slice_set (e ∷ entries) n new ≡ set_entry guid new (e ∷ entries)) zero_is (sym (at_true (names guid e) (new ∷ entries) (e ∷ set_entry guid new entries) named))
    | inr other ↦
        let f = further (place_of guid entries) at (sym (at_false (names guid e) (Some 0) (option_map suc (place_of guid entries)) other) ∙ is) in
        subst (λ n. slice_set (e ∷ entries) n new ≡ set_entry guid new (e ∷ entries)) (sym f.is) (ap (λ es. e ∷ es) (set_at entries new f.before f.was) ∙ sym (at_false (names guid e) (new ∷ entries) (e ∷ set_entry guid new entries) other))
  ]

  pub put_at : (entries : List Kept) (new : Kept) (at : ℕ) → place_of guid entries ≡ Some at → slice_set entries at new ≡ put_entry guid new entries
  put_at [] new at is = absurd (cc is)
  put_at (e ∷ entries) new at is = elim (cases_Bool (names guid e)) [
    | inl named ↦
        let zero_is : 0 ≡ at = cc (at_true (names guid e) (Some 0) (option_map suc (place_of guid entries)) named, is) in
        subst (λ n. slice_set (e ∷ entries) n new ≡ put_entry guid new (e ∷ entries)) zero_is (sym (at_true (names guid e) (new ∷ entries) (e ∷ put_entry guid new entries) named))
    | inr other ↦
        let f = further (place_of guid entries) at (sym (at_false (names guid e) (Some 0) (option_map suc (place_of guid entries)) other) ∙ is) in
        subst (λ n. slice_set (e ∷ entries) n new ≡ put_entry guid new (e ∷ entries)) (sym f.is) (ap (λ es. e ∷ es) (put_at entries new f.before f.was) ∙ sym (at_false (names guid e) (new ∷ entries) (e ∷ put_entry guid new entries) other))
  ]

  pub put_behind : (entries : List Kept) (new : Kept) → place_of guid entries ≡ None → entries ++ new ∷ [] ≡ put_entry guid new entries
  put_behind entries new is = sym (put_last guid new entries (entry_nowhere entries is))

  pub set_nowhere : (entries : List Kept) (new : Kept) → place_of guid entries ≡ None → entries ≡ set_entry guid new entries
  set_nowhere entries new is = sym (nowhere entries is)
    where
      open_none : (o : Option ℕ) → option_map suc o ≡ None → o ≡ None
      open_none None is = refl
      open_none (Some k) is = absurd (cc is)

      nowhere : (entries : List Kept) → place_of guid entries ≡ None → set_entry guid new entries ≡ entries
      nowhere [] is = refl
      nowhere (e ∷ entries) is = elim (cases_Bool (names guid e)) [
        | inl named ↦ absurd (cc (at_true (names guid e) (Some 0) (option_map suc (place_of guid entries)) named, is))
        | inr other ↦ at_false (names guid e) (new ∷ entries) (e ∷ set_entry guid new entries) other
            ∙ ap (λ es. e ∷ es) (nowhere entries (open_none (place_of guid entries) (sym (at_false (names guid e) (Some 0) (option_map suc (place_of guid entries)) other) ∙ is)))
      ]

  -- the same in its place
  set_same : (entries : List Kept) (at : ℕ) (d : Kept) → slice_set entries at (slice_index_or entries at d) ≡ entries
  set_same [] at d = refl
  set_same (e ∷ entries) zero d = refl
  set_same (e ∷ entries) (suc at) d = ap (λ es. e ∷ es) (set_same entries at d)

  -- a candidate more
  pub give_at : (entries : List Kept) (voucher : Voucher) (at : ℕ) (d : Kept) → place_of guid entries ≡ Some at → slice_set entries at (candidate_given voucher (slice_index_or entries at d)) ≡ candidate_set guid voucher entries
  give_at entries voucher at d is = by (slice_index_or entries at d) refl
    where
      by : (e : Kept) → slice_index_or entries at d ≡ e → slice_set entries at (candidate_given voucher e) ≡ candidate_set guid voucher entries
      by (kept.Held base candidate) e_is =
          set_at entries (kept.Held base (Some voucher)) at is
          ∙ sym (ap (λ o. candidate_set_in guid voucher entries (held_in o)) (entry_at entries at d is ∙ ap Some e_is))
      by (kept.Sent v) e_is =
          ap (slice_set entries at) (sym e_is) ∙ set_same entries at d
          ∙ sym (ap (λ o. candidate_set_in guid voucher entries (held_in o)) (entry_at entries at d is ∙ ap Some e_is))

  pub give_nowhere : (entries : List Kept) (voucher : Voucher) → place_of guid entries ≡ None → entries ≡ candidate_set guid voucher entries
  give_nowhere entries voucher is = sym (ap (λ o. candidate_set_in guid voucher entries (held_in o)) (entry_nowhere entries is))

  -- a candidate as the base
  pub promote_at : (entries : List Kept) (at : ℕ) (d : Kept) → place_of guid entries ≡ Some at → slice_set entries at (promoted_entry (slice_index_or entries at d)) ≡ promoted guid entries
  promote_at entries at d is = by (slice_index_or entries at d) refl
    where
      by : (e : Kept) → slice_index_or entries at d ≡ e → slice_set entries at (promoted_entry e) ≡ promoted guid entries
      by (kept.Held base (Some candidate)) e_is =
          set_at entries (kept.Held candidate None) at is
          ∙ sym (ap (λ o. promoted_in guid entries (held_in o)) (entry_at entries at d is ∙ ap Some e_is))
      by (kept.Held base None) e_is =
          ap (slice_set entries at) (sym e_is) ∙ set_same entries at d
          ∙ sym (ap (λ o. promoted_in guid entries (held_in o)) (entry_at entries at d is ∙ ap Some e_is))
      by (kept.Sent v) e_is =
          ap (slice_set entries at) (sym e_is) ∙ set_same entries at d
          ∙ sym (ap (λ o. promoted_in guid entries (held_in o)) (entry_at entries at d is ∙ ap Some e_is))

  pub promote_nowhere : (entries : List Kept) → place_of guid entries ≡ None → entries ≡ promoted guid entries
  promote_nowhere entries is = sym (ap (λ o. promoted_in guid entries (held_in o)) (entry_nowhere entries is))

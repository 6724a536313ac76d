-- A gate that is closed or opened, and what stands behind it.
use Rattle.std.proofs.Common.{◌≡◌, ◌⊎◌, inl, inr, ℕ, zero, suc, ◌+◌, ◌^◌, ◌≤◌, ◌<◌, List, [], ◌∷◌, ◌++◌, length, take, drop, min, Bool, true, false, Option, None, Some, refl, ap, sym, ◌∙◌, subst, arith, append_assoc, length-append}
use Rattle.std.proofs.lemmas.Bool.{cases_eq, false≢true}
use Rattle.std.proofs.lemmas.Bool.Decides.{nat_tests}
use Rattle.disk_port.specs.Crash.{Torn}
use Rattle.disk_port.specs.Slots.{slot, is_shut, payload}
use Rattle.disk_port.proofs.OneSlot.{closed_gate, no_slot, slot_cases, whole_fits, payload_length}
use Rattle.journal.specs.Areas.{area}
use Rattle.journal.specs.Changing.{snapshot}
use Rattle.journal.proofs.AreaLaws.{no_area}

pub snapshot_length : (g : ℕ) (body : List ℕ) → length (snapshot g body) ≡ 13 + length body
unfolding snapshot
snapshot_length g body = omega (arith, length-append (payload g body) (0 ∷ []), payload_length g body)

pub snapshot_is : (g : ℕ) (body r : List ℕ) → snapshot g body ++ r ≡ payload g body ++ (0 ∷ r)
unfolding snapshot
snapshot_is g body r = append_assoc (payload g body) (0 ∷ []) r

module _ (base most : ℕ) where
  -- no area is open there, however many of the bytes are in its room
  abbrev pub Closed : List ℕ → Type 0
  Closed c = (n : ℕ) → area base most (take n c) ≡ None

  short_closed : (c : List ℕ) → length c ≤ 1 → slot most c ≡ None
  short_closed c short = elim (slot_cases most c) [
    | inl none ↦ none
    | inr is_open ↦ absurd (omega (arith, short, (whole_fits most is_open.behind is_open.whole).1, ap length is_open.is))
  ]

  closed_short : (c : List ℕ) → length c ≤ 1 → Closed c
  closed_short c short n = no_area base most (take n c) (short_closed (take n c) (omega (arith, shorter n c, short)))
    where
      shorter : (n : ℕ) (c : List ℕ) → length (take n c) ≤ length c
      shorter zero c = omega arith
      shorter (suc n) [] = omega arith
      shorter (suc n) (g ∷ c) = omega (arith, shorter n c)

  gate_closed : (g : ℕ) (b : List ℕ) → (g ≡ 1 → ⊥) → Closed (g ∷ b)
  gate_closed g b closed zero = no_area base most [] (no_slot most)
  gate_closed g b closed (suc n) = no_area base most (g ∷ take n b) (closed_gate most g (take n b) closed)

  -- a gate that does not stand shut is torn: all is as it was or closed
  pub gate_torn : (x c : List ℕ) → is_shut x ≡ false → Torn 0 1 x c → (c ≡ x) ⊎ Closed c
  gate_torn x [] shut torn = inr (closed_short [] (omega arith))
  gate_torn [] (g ∷ b) shut torn = inr (closed_short (g ∷ b) (omega (arith, ap length (alone g b torn.after))))
    where
      alone : (g : ℕ) (b : List ℕ) → b ≡ [] → b ≡ []
      alone g b none = none
  gate_torn (h ∷ d) (g ∷ b) shut torn = elim (cases_eq h 1) [
    | inl was_open ↦ elim (cases_eq g 1) [
      | inl is_open ↦ inl (torn_same g h b d is_open was_open torn.after)
      | inr closed ↦ inr (gate_closed g b closed)
    ]
    | inr was_closed ↦ absurd (false≢true (sym shut ∙ shut_gate h d was_closed))
  ]
    where
      torn_same : (g h : ℕ) (b d : List ℕ) → g ≡ 1 → h ≡ 1 → b ≡ d → g ∷ b ≡ h ∷ d
      torn_same g h b d is was same = cc

      shut_gate : (h : ℕ) (d : List ℕ) → (h ≡ 1 → ⊥) → is_shut (h ∷ d) ≡ true
      shut_gate h d closed = grind (arith, nat_tests)

  -- a gate that stands shut stays so whatever is torn behind it
  pub behind_torn : (n : ℕ) (x c : List ℕ) → is_shut x ≡ true → Torn 1 n x c → Closed c
  behind_torn n x [] shut torn = closed_short [] (omega arith)
  behind_torn n [] (g ∷ b) shut torn = absurd (false≢true shut)
  behind_torn n (h ∷ d) (g ∷ b) shut torn = elim (cases_eq g 1) [
    | inl is_open ↦ absurd (false≢true (ap is_shut (gate g b h d torn.before is_open) ∙ shut))
    | inr closed ↦ gate_closed g b closed
  ]
    where
      gate : (g : ℕ) (b : List ℕ) (h : ℕ) (d : List ℕ) → take (min 1 (length (h ∷ d))) (g ∷ b) ≡ take (min 1 (length (h ∷ d))) (h ∷ d) → g ≡ 1 → 1 ∷ d ≡ h ∷ d
      gate g b h d same is_open =
          let one : min 1 (length (h ∷ d)) ≡ 1 = omega arith in
          let front : g ∷ [] ≡ h ∷ [] = subst (λ n. take n (g ∷ b) ≡ take n (h ∷ d)) one same in
          cc

  -- its opening is torn: all stands behind an open gate, or it is closed
  pub opening_torn : (gate : ℕ) (t c : List ℕ) → Torn 0 1 (gate ∷ t) c → (c ≡ 1 ∷ t) ⊎ Closed c
  opening_torn gate t [] torn = inr (closed_short [] (omega arith))
  opening_torn gate t (h ∷ b) torn = elim (cases_eq h 1) [
    | inl is_open ↦ inl (whole h b is_open torn.after)
    | inr closed ↦ inr (gate_closed h b closed)
  ]
    where
      whole : (h : ℕ) (b : List ℕ) → h ≡ 1 → b ≡ t → h ∷ b ≡ 1 ∷ t
      whole h b is_open same = cc

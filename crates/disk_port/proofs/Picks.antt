-- Which of two slots counts.
use Rattle.std.proofs.Common.{◌≡◌, ◌⊎◌, inl, inr, ℕ, ◌^◌, ◌<◌, List, true, false, Option, None, Some, refl, ap, sym, ◌∙◌, subst, arith}
use Rattle.std.proofs.lemmas.Bool.{cases_Bool}
use Rattle.std.proofs.lemmas.Bool.Decides.{nat_tests}
use Rattle.disk_port.specs.Slots.{generation_after, is_newer, standing, newest, other, next_side, next_generation}
use Rattle.disk_port.specs.declared.side.Side.{Side}
use Rattle.disk_port.specs.declared.side.Side.TheVariants.{First, Second}

abbrev pub Slot : Type 0
Slot = Option (ℕ × List ℕ)

abbrev pub on : Side → Slot → Slot → Slot
on First f s = f
on Second f s = s

first≢second : {X : Type 0} → First ≡ Second → X
first≢second is = let no : ⊥ = cc in absurd no

-- the one after is newer
pub after_newer : (g : ℕ) → generation_after g < 2 ^ 64 → is_newer (generation_after g) g ≡ true
unfolding is_newer
after_newer g small = grind (arith, nat_tests)

pub after_not_older : (g : ℕ) → generation_after g < 2 ^ 64 → is_newer g (generation_after g) ≡ false
unfolding is_newer
after_not_older g small = grind (arith, nat_tests)

-- one of two open slots counts
both : (f s : ℕ × List ℕ) → ((is_newer s.0 f.0 ≡ true) × (newest (Some f) (Some s) ≡ Some (standing Second s))) ⊎ ((is_newer s.0 f.0 ≡ false) × (newest (Some f) (Some s) ≡ Some (standing First f)))
both f s = elim (cases_Bool (is_newer s.0 f.0)) [
  | inl later ↦ inl (later, rw later refl)
  | inr sooner ↦ inr (sooner, rw sooner refl)
]

-- the second slot is changed only where the first one is open
pub first_open : (f s : Slot) → Second ≡ next_side (newest f s) → (x : ℕ × List ℕ) × (f ≡ Some x)
first_open None None side = first≢second (sym side)
first_open None (Some s) side = first≢second (sym side)
first_open (Some f) s side = (f, refl)

-- where the slot that counts stays, and the other one stays or is closed, the same counts
pub same_counts : (side : Side) (f s f' s' : Slot) → side ≡ next_side (newest f s) → on (other side) f' s' ≡ on (other side) f s → (on side f' s' ≡ on side f s) ⊎ (on side f' s' ≡ None) → newest f' s' ≡ newest f s
same_counts First f s f' s' side others (inl same) = ap (λ x. newest x s') same ∙ ap (newest f) others
same_counts Second f s f' s' side others (inl same) = ap (λ x. newest x s') others ∙ ap (newest f) same
same_counts First f s f' s' side others (inr closed) = ap (λ x. newest x s') closed ∙ ap (newest None) others ∙ second f s side
  where
    second : (f s : Slot) → First ≡ next_side (newest f s) → newest None s ≡ newest f s
    second None s side = refl
    second (Some f) None side = first≢second side
    second (Some f) (Some s) side = elim (both f s) [
      | inl later ↦ sym later.1
      | inr sooner ↦ first≢second (side ∙ ap next_side sooner.1)
    ]
same_counts Second f s f' s' side others (inr closed) = ap (λ x. newest x s') others ∙ ap (newest f) closed ∙ first f s side
  where
    first : (f s : Slot) → Second ≡ next_side (newest f s) → newest f None ≡ newest f s
    first None None side = refl
    first None (Some s) side = first≢second (sym side)
    first (Some f) None side = refl
    first (Some f) (Some s) side = elim (both f s) [
      | inl later ↦ first≢second (sym (side ∙ ap next_side later.1))
      | inr sooner ↦ sym sooner.1
    ]

-- where it is open anew in the next generation, it counts
pub new_counts : (side : Side) (f s f' s' : Slot) (g : ℕ) (body : List ℕ) → side ≡ next_side (newest f s) → g ≡ next_generation (newest f s) → g < 2 ^ 64 → on (other side) f' s' ≡ on (other side) f s → on side f' s' ≡ Some (g, body) → newest f' s' ≡ Some (record { side = side; generation = g; body = body })
new_counts First f s f' s' g body side next small others new = ap (λ x. newest x s') new ∙ ap (newest (Some (g, body))) others ∙ first f s side next
  where
    older : (s : ℕ × List ℕ) → g ≡ generation_after s.0 → newest (Some (g, body)) (Some s) ≡ Some (standing First (g, body))
    older s is =
        let no : is_newer s.0 g ≡ false = subst (λ n. is_newer s.0 n ≡ false) (sym is) (after_not_older s.0 (subst (λ n. n < 2 ^ 64) is small)) in
        rw no refl

    first : (f s : Slot) → First ≡ next_side (newest f s) → g ≡ next_generation (newest f s) → newest (Some (g, body)) s ≡ Some (record { side = First; generation = g; body = body })
    first f None side next = refl
    first None (Some s) side next = older s next
    first (Some f) (Some s) side next = elim (both f s) [
      | inl later ↦ older s (next ∙ ap next_generation later.1)
      | inr sooner ↦ first≢second (side ∙ ap next_side sooner.1)
    ]
new_counts Second f s f' s' g body side next small others new = ap (λ x. newest x s') others ∙ ap (newest f) new ∙ second f s side next
  where
    newer : (f : ℕ × List ℕ) → g ≡ generation_after f.0 → newest (Some f) (Some (g, body)) ≡ Some (standing Second (g, body))
    newer f is =
        let later : is_newer g f.0 ≡ true = subst (λ n. is_newer n f.0 ≡ true) (sym is) (after_newer f.0 (subst (λ n. n < 2 ^ 64) is small)) in
        rw later refl

    second : (f s : Slot) → Second ≡ next_side (newest f s) → g ≡ next_generation (newest f s) → newest f (Some (g, body)) ≡ Some (record { side = Second; generation = g; body = body })
    second None None side next = first≢second (sym side)
    second None (Some s) side next = first≢second (sym side)
    second (Some f) None side next = newer f next
    second (Some f) (Some s) side next = elim (both f s) [
      | inl later ↦ first≢second (sym (side ∙ ap next_side later.1))
      | inr sooner ↦ newer f (next ∙ ap next_generation sooner.1)
    ]

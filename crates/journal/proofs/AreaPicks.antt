-- Which of two areas counts.
use Rattle.std.proofs.Common.{◌≡◌, ◌⊎◌, inl, inr, ℕ, ◌^◌, ◌<◌, List, true, false, Option, None, Some, refl, ap, sym, ◌∙◌, subst}
use Rattle.std.proofs.lemmas.Bool.{cases_Bool}
use Rattle.disk_port.specs.Slots.{generation_after, is_newer, other}
use Rattle.disk_port.specs.declared.side.Side.{Side}
use Rattle.disk_port.specs.declared.side.Side.TheVariants.{First, Second}
use Rattle.disk_port.proofs.Picks.{after_newer, after_not_older}
use Rattle.journal.specs.Areas.{Area, Standing, held, newest, next_side, next_generation}

abbrev pub on : Side → Option Area → Option Area → Option Area
on First f s = f
on Second f s = s

first≢second : {X : Type 0} → First ≡ Second → X
first≢second is = let no : ⊥ = cc in absurd no

-- one of two open areas counts
both : (f s : Area) → ((is_newer s.generation f.generation ≡ true) × (newest (Some f) (Some s) ≡ Some (held Second s))) ⊎ ((is_newer s.generation f.generation ≡ false) × (newest (Some f) (Some s) ≡ Some (held First f)))
both f s = elim (cases_Bool (is_newer s.generation f.generation)) [
  | inl later ↦ inl (later, rw later refl)
  | inr sooner ↦ inr (sooner, rw sooner refl)
]

standing_same : (a b : Standing) → Some a ≡ Some b → a ≡ b
standing_same a b is = cc

no_standing : {X : Type 0} (a : Standing) → None ≡ Some a → X
no_standing a is = let no : ⊥ = cc in absurd no

-- the second area is changed only where the first one counts
pub first_counts : (f s : Option Area) → Second ≡ next_side (newest f s) → (x : Area) × (f ≡ Some x) × (newest f s ≡ Some (held First x))
first_counts None None side = first≢second (sym side)
first_counts None (Some s) side = first≢second (sym side)
first_counts (Some f) None side = (f, refl, refl)
first_counts (Some f) (Some s) side = elim (both f s) [
  | inl later ↦ first≢second (sym (side ∙ ap next_side later.1))
  | inr sooner ↦ (f, refl, sooner.1)
]

-- the one that counts stands there
pub counts : (f s : Option Area) (standing : Standing) → newest f s ≡ Some standing → on standing.side f s ≡ Some standing.area
counts None None standing is = no_standing standing is
counts None (Some s) standing is = ap (λ (st : Standing). on st.side None (Some s)) (sym (standing_same (held Second s) standing is)) ∙ ap (λ (st : Standing). Some st.area) (standing_same (held Second s) standing is)
counts (Some f) None standing is = ap (λ (st : Standing). on st.side (Some f) None) (sym (standing_same (held First f) standing is)) ∙ ap (λ (st : Standing). Some st.area) (standing_same (held First f) standing is)
counts (Some f) (Some s) standing is = elim (both f s) [
  | inl later ↦
      let same = standing_same (held Second s) standing (sym later.1 ∙ is) in
      ap (λ (st : Standing). on st.side (Some f) (Some s)) (sym same) ∙ ap (λ (st : Standing). Some st.area) same
  | inr sooner ↦
      let same = standing_same (held First f) standing (sym sooner.1 ∙ is) in
      ap (λ (st : Standing). on st.side (Some f) (Some s)) (sym same) ∙ ap (λ (st : Standing). Some st.area) same
]

-- where the one that counts keeps its generation, and the other one stays, it still counts
pub still_counts : (f s f' s' : Option Area) (standing : Standing) (a : Area) → newest f s ≡ Some standing → a.generation ≡ standing.area.generation → on (other standing.side) f' s' ≡ on (other standing.side) f s → on standing.side f' s' ≡ Some a → newest f' s' ≡ Some (held standing.side a)
still_counts f s f' s' standing a is generation others own = by_side standing.side standing.area is generation others own
  where
    second : (f : Option Area) (b : Area) → newest f (Some b) ≡ Some (held Second b) → a.generation ≡ b.generation → newest f (Some a) ≡ Some (held Second a)
    second None b is generation = refl
    second (Some f) b is generation = elim (both f b) [
      | inl later ↦ let now : is_newer a.generation f.generation ≡ true = subst (λ n. is_newer n f.generation ≡ true) (sym generation) later.0 in rw now refl
      | inr sooner ↦ first≢second (ap (λ (st : Standing). st.side) (standing_same (held First f) (held Second b) (sym sooner.1 ∙ is)))
    ]

    first : (s : Option Area) (b : Area) → newest (Some b) s ≡ Some (held First b) → a.generation ≡ b.generation → newest (Some a) s ≡ Some (held First a)
    first None b is generation = refl
    first (Some s) b is generation = elim (both b s) [
      | inl later ↦ first≢second (sym (ap (λ (st : Standing). st.side) (standing_same (held Second s) (held First b) (sym later.1 ∙ is))))
      | inr sooner ↦ let now : is_newer s.generation a.generation ≡ false = subst (λ n. is_newer s.generation n ≡ false) (sym generation) sooner.0 in rw now refl
    ]

    by_side : (side : Side) (b : Area) → newest f s ≡ Some (held side b) → a.generation ≡ b.generation → on (other side) f' s' ≡ on (other side) f s → on side f' s' ≡ Some a → newest f' s' ≡ Some (held side a)
    by_side First b is generation others own =
        ap (λ x. newest x s') own ∙ ap (newest (Some a)) others
        ∙ first s b (sym (ap (λ x. newest x s) (counts f s (held First b) is)) ∙ is) generation
    by_side Second b is generation others own =
        ap (λ x. newest x s') others ∙ ap (newest f) own
        ∙ second f b (sym (ap (newest f) (counts f s (held Second b) is)) ∙ is) generation

-- where the area that counts stays, and the other one stays or is closed, the same counts
pub same_counts : (side : Side) (f s f' s' : Option Area) → side ≡ next_side (newest f s) → on (other side) f' s' ≡ on (other side) f s → (on side f' s' ≡ on side f s) ⊎ (on side f' s' ≡ None) → newest f' s' ≡ newest f s
same_counts First f s f' s' side others (inl same) = ap (λ x. newest x s') same ∙ ap (newest f) others
same_counts Second f s f' s' side others (inl same) = ap (λ x. newest x s') others ∙ ap (newest f) same
same_counts First f s f' s' side others (inr closed) = ap (λ x. newest x s') closed ∙ ap (newest None) others ∙ second f s side
  where
    second : (f s : Option Area) → First ≡ next_side (newest f s) → newest None s ≡ newest f s
    second None s side = refl
    second (Some f) None side = first≢second side
    second (Some f) (Some s) side = elim (both f s) [
      | inl later ↦ sym later.1
      | inr sooner ↦ first≢second (side ∙ ap next_side sooner.1)
    ]
same_counts Second f s f' s' side others (inr closed) = ap (λ x. newest x s') others ∙ ap (newest f) closed ∙ first f s side
  where
    first : (f s : Option Area) → Second ≡ next_side (newest f s) → newest f None ≡ newest f s
    first None None side = refl
    first None (Some s) side = first≢second (sym side)
    first (Some f) None side = refl
    first (Some f) (Some s) side = elim (both f s) [
      | inl later ↦ first≢second (sym (side ∙ ap next_side later.1))
      | inr sooner ↦ sym sooner.1
    ]

-- where it is open anew in the next generation, it counts
pub new_counts : (side : Side) (f s f' s' : Option Area) (n : Area) → side ≡ next_side (newest f s) → n.generation ≡ next_generation (newest f s) → n.generation < 2 ^ 64 → on (other side) f' s' ≡ on (other side) f s → on side f' s' ≡ Some n → newest f' s' ≡ Some (held side n)
new_counts First f s f' s' n side next small others new = ap (λ x. newest x s') new ∙ ap (newest (Some n)) others ∙ first f s side next
  where
    older : (s : Area) → n.generation ≡ generation_after s.generation → newest (Some n) (Some s) ≡ Some (held First n)
    older s is =
        let no : is_newer s.generation n.generation ≡ false = subst (λ g. is_newer s.generation g ≡ false) (sym is) (after_not_older s.generation (subst (λ g. g < 2 ^ 64) is small)) in
        rw no refl

    first : (f s : Option Area) → First ≡ next_side (newest f s) → n.generation ≡ next_generation (newest f s) → newest (Some n) s ≡ Some (held First n)
    first f None side next = refl
    first None (Some s) side next = older s next
    first (Some f) (Some s) side next = elim (both f s) [
      | inl later ↦ older s (next ∙ ap next_generation later.1)
      | inr sooner ↦ first≢second (side ∙ ap next_side sooner.1)
    ]
new_counts Second f s f' s' n side next small others new = ap (λ x. newest x s') others ∙ ap (newest f) new ∙ second f s side next
  where
    newer : (f : Area) → n.generation ≡ generation_after f.generation → newest (Some f) (Some n) ≡ Some (held Second n)
    newer f is =
        let later : is_newer n.generation f.generation ≡ true = subst (λ g. is_newer g f.generation ≡ true) (sym is) (after_newer f.generation (subst (λ g. g < 2 ^ 64) is small)) in
        rw later refl

    second : (f s : Option Area) → Second ≡ next_side (newest f s) → n.generation ≡ next_generation (newest f s) → newest f (Some n) ≡ Some (held Second n)
    second None None side next = first≢second (sym side)
    second None (Some s) side next = first≢second (sym side)
    second (Some f) None side next = newer f next
    second (Some f) (Some s) side next = elim (both f s) [
      | inl later ↦ first≢second (sym (side ∙ ap next_side later.1))
      | inr sooner ↦ newer f (next ∙ ap next_generation sooner.1)
    ]

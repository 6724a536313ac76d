-- An area in a file, under writes that are cut short.
use Rattle.std.proofs.Common.{◌≡◌, ◌⊎◌, inl, inr, ℕ, zero, suc, ◌+◌, ◌-◌, ◌^◌, ◌≤◌, ◌<◌, List, [], ◌∷◌, ◌++◌, length, take, drop, get_or, min, Bool, true, false, Option, None, Some, refl, ap, sym, ◌∙◌, subst, arith, append_assoc, length-append, length-drop}
use Rattle.std.proofs.lemmas.List.{append-nil, take-take, take_all, drop-take, drop-drop, drop_at, drop_more, take-append-le, take-append-drop, length-take-le}
use Rattle.std.proofs.Math.Seq.{take-append-add}
use Rattle.std.proofs.lemmas.Bool.{cases_eq, cases_lt, false≢true}
use Rattle.std.proofs.lemmas.Bool.Decides.{nat_tests}
use Rattle.disk_port.specs.Crash.{Torn}
use Rattle.disk_port.specs.Story.{put}
use Rattle.disk_port.specs.Slots.{slot, is_shut, other, payload}
use Rattle.disk_port.specs.declared.side.Side.{Side}
use Rattle.disk_port.specs.declared.side.Side.TheVariants.{First, Second}
use Rattle.disk_port.proofs.OneSlot.{open_gate, closed_gate, no_slot, slot_cases, whole_fits, IsOpen}
use Rattle.disk_port.proofs.TwoSlots.{torn_before, torn_behind, torn_gate}
use Rattle.disk_port.proofs.Written.{drop_put, take_put, length_put}
use Rattle.journal.specs.Records.{framed, is_one}
use Rattle.journal.specs.Areas.{Area, area, area_at, base_of, AreApart}
use Rattle.journal.specs.Changing.{with_body}
use Rattle.journal.specs.declared.areas.Areas.{Areas}
use Rattle.journal.proofs.AreaLaws.{AreaFront, area_front, same_front, more_front, no_area}

-- ---- lists

-- the front of a window
pub take_window : (b n room : ℕ) (c d : List ℕ) → n ≤ room → take (b + n) c ≡ take (b + n) d → take n (take room (drop b c)) ≡ take n (take room (drop b d))
take_window b n room c d within same =
    take-take n room (drop b c) within ∙ sym (drop-take b n c) ∙ ap (drop b) same ∙ drop-take b n d ∙ sym (take-take n room (drop b d) within)

pub gate_of_front : (n : ℕ) (x c : List ℕ) → take (suc n) c ≡ take (suc n) x → is_shut c ≡ is_shut x
gate_of_front n [] [] same = refl
gate_of_front n [] (g ∷ c) same = let no : ⊥ = cc in absurd no
gate_of_front n (h ∷ x) [] same = let no : ⊥ = cc in absurd no
gate_of_front n (h ∷ x) (g ∷ c) same = ap (λ (l : List ℕ). is_shut (take 1 l)) same

one_or_not : (g : ℕ) (r : List ℕ) → is_one (g ∷ r) ≡ false → g ≡ 1 → ⊥
one_or_not g r not is = false≢true (sym not ∙ ap (λ g. is_one (g ∷ r)) is)

-- ---- an area that is open

module _ (areas : Areas) (side : Side) (d : List ℕ) (a : Area) (is : area_at areas side d ≡ Some a) where
  abbrev pub base : ℕ
  base = base_of areas side

  pub its_front : AreaFront base areas.most (take areas.room (drop base d)) a
  its_front = area_front base areas.most (take areas.room (drop base d)) a is

  abbrev pub o : ℕ
  o = length its_front.pre

  -- where the next gate stands
  pub inside : (o < areas.room) × (base + o < length d)
  inside =
      let whole = ap length its_front.is in
      let sum = length-append its_front.pre its_front.rest in
      let bound = length_window areas.room (drop base d) in
      (omega (arith, whole, sum, its_front.some, bound.0), omega (arith, whole, sum, its_front.some, bound.1, length-drop base d))
    where
      length_window : (n : ℕ) (y : List ℕ) → (length (take n y) ≤ n) × (length (take n y) ≤ length y)
      length_window zero y = (omega arith, omega arith)
      length_window (suc n) [] = (omega arith, omega arith)
      length_window (suc n) (x ∷ y) = (omega (arith, (length_window n y).0), omega (arith, (length_window n y).1))

  -- bytes that agree up to the next gate
  pub joined : (c : List ℕ) → take (base + o) c ≡ take (base + o) d → take areas.room (drop base c) ≡ its_front.pre ++ take (areas.room - o) (drop (base + o) c)
  joined c same =
      let y : List ℕ = take areas.room (drop base c) in
      let m : ℕ = areas.room - o in
      let room : areas.room ≡ o + m = omega (arith, inside.0) in
      let front : take o y ≡ its_front.pre =
      take_window base o areas.room c d (omega (arith, inside.0)) same ∙ ap (take o) its_front.is ∙ take-append-le o its_front.pre its_front.rest (omega arith) ∙ take_all o its_front.pre (omega arith) in
      let back : drop o y ≡ take m (drop (base + o) c) =
      ap (λ n. drop o (take n (drop base c))) room ∙ drop-take o m (drop base c) ∙ ap (take m) (drop-drop o base c) in
      sym (take-append-drop o y) ∙ ap (λ l. l ++ drop o y) front ∙ ap (λ l. its_front.pre ++ l) back

  -- bytes that agree up to it and at it, where it is not 1
  pub same_gate : (c : List ℕ) → a.one ≡ false → take (base + suc o) c ≡ take (base + suc o) d → area_at areas side c ≡ Some a
  same_gate c not same = by_rest its_front.rest refl
    where
      by_rest : (rest : List ℕ) → rest ≡ its_front.rest → area_at areas side c ≡ Some a
      by_rest [] rest_is = absurd (omega (arith, its_front.some, ap length rest_is))
      by_rest (g ∷ r) rest_is =
          let y : List ℕ = take areas.room (drop base c) in
          let whole : take areas.room (drop base d) ≡ (its_front.pre ++ g ∷ []) ++ r =
          its_front.is ∙ ap (λ l. its_front.pre ++ l) (sym rest_is) ∙ sym (append_assoc its_front.pre (g ∷ []) r) in
          let long : length (its_front.pre ++ g ∷ []) ≡ suc o = omega (arith, length-append its_front.pre (g ∷ [])) in
          let front : take (suc o) y ≡ its_front.pre ++ g ∷ [] =
          take_window base (suc o) areas.room c d (omega (arith, inside.0)) same ∙ ap (take (suc o)) whole
          ∙ take-append-le (suc o) (its_front.pre ++ g ∷ []) r (omega (arith, long)) ∙ take_all (suc o) (its_front.pre ++ g ∷ []) (omega (arith, long)) in
          let all : y ≡ its_front.pre ++ (g ∷ drop (suc o) y) =
          sym (take-append-drop (suc o) y) ∙ ap (λ l. l ++ drop (suc o) y) front ∙ append_assoc its_front.pre (g ∷ []) (drop (suc o) y) in
          ap (area base areas.most) all
          ∙ same_front base areas.most (take areas.room (drop base d)) a its_front g (drop (suc o) y) (one_or_not g r (ap is_one rest_is ∙ sym its_front.one ∙ not))
          ∙ ap (λ b. Some (record { generation = a.generation; bodies = a.bodies; place = a.place; one = b })) (sym not)

  -- another gate stands there, and bytes behind it
  pub closed_there : (g : ℕ) (c r : List ℕ) → a.one ≡ false → (g ≡ 1 → ⊥) → take (base + o) c ≡ take (base + o) d → drop (base + o) c ≡ g ∷ r → area_at areas side c ≡ Some a
  closed_there g c r not closed same behind =
      let m : ℕ = areas.room - suc o in
      let room : areas.room - o ≡ suc m = omega (arith, inside.0) in
      ap (area base areas.most) (joined c same ∙ ap (λ n. its_front.pre ++ take n (drop (base + o) c)) room ∙ ap (λ l. its_front.pre ++ take (suc m) l) behind)
      ∙ same_front base areas.most (take areas.room (drop base d)) a its_front g (take m r) closed
      ∙ ap (λ b. Some (record { generation = a.generation; bodies = a.bodies; place = a.place; one = b })) (sym not)

  pub record_there : (c body r : List ℕ) → length body < 2 ^ 32 → o + suc (length (framed body)) ≤ areas.room → take (base + o) c ≡ take (base + o) d → drop (base + o) c ≡ 1 ∷ (framed body ++ r) → area_at areas side c ≡ Some (with_body body a)
  record_there c body r short within same behind =
      let k : ℕ = areas.room - (o + suc (length (framed body))) in
      let room : areas.room - o ≡ suc (length (framed body) + k) = omega (arith, within) in
      ap (area base areas.most)
      (joined c same ∙ ap (λ n. its_front.pre ++ take n (drop (base + o) c)) room ∙ ap (λ l. its_front.pre ++ take (suc (length (framed body) + k)) l) behind
      ∙ ap (λ l. its_front.pre ++ (1 ∷ l)) (take-append-add (framed body) r k))
      ∙ more_front base areas.most (take areas.room (drop base d)) a its_front body (take k r) short

  -- its own gate is open
  pub own_gate : is_shut (drop base d) ≡ false
  own_gate = shut_window areas.room (drop base d) (omega (arith, inside.0)) ∙ open_gate areas.most (take areas.room (drop base d)) its_front.open_slot
    where
      shut_window : (n : ℕ) (y : List ℕ) → 0 < n → is_shut y ≡ is_shut (take n y)
      shut_window zero y some = absurd (omega arith)
      shut_window (suc n) [] some = refl
      shut_window (suc n) (g ∷ y) some = refl

-- ---- the other area

-- the first one fills its room, or ends at a gate that is not 1
abbrev pub IsKept : Areas → List ℕ → Type 0
IsKept areas d = (areas.room ≤ length d) ⊎ ((a : Area) × (area_at areas First d ≡ Some a) × (a.one ≡ false))

module _ (areas : Areas) where
  -- writes within one area keep the other
  pub other_stays : (side : Side) (at n : ℕ) (d c : List ℕ) → base_of areas side ≤ at → at + n ≤ base_of areas side + areas.room → (side ≡ Second → IsKept areas d) → Torn at n d c → area_at areas (other side) c ≡ area_at areas (other side) d
  other_stays First at n d c from to kept torn = ap (λ l. area areas.room areas.most (take areas.room l)) (torn_behind areas.room at n d c (omega (arith, to)) torn)
  other_stays Second at n d c from to kept torn = elim (kept refl) [
    | inl long ↦ ap (area 0 areas.most) (torn_before areas.room at n d c from long torn)
    | inr x ↦
        let within = inside areas First d x.0 x.1 in
        same_gate areas First d x.0 x.1 c x.2 (torn_before (base_of areas First + suc (o areas First d x.0 x.1)) at n d c (omega (arith, within.0, from)) (omega (arith, within.1)) torn) ∙ sym x.1
  ]

  -- and its gate
  pub gate_stays : (side : Side) (at n : ℕ) (d c : List ℕ) → base_of areas side ≤ at → at + n ≤ base_of areas side + areas.room → 0 < areas.room → (side ≡ Second → 0 < length d) → Torn at n d c → is_shut (drop (base_of areas (other side)) c) ≡ is_shut (drop (base_of areas (other side)) d)
  gate_stays First at n d c from to some kept torn = ap is_shut (torn_behind areas.room at n d c (omega (arith, to)) torn)
  gate_stays Second at n d c from to some kept torn = gate_of_front 0 d c (torn_before 1 at n d c (omega (arith, from, some)) (omega (arith, kept refl)) torn)

-- One area, seen from its gate on.
use Rattle.std.proofs.Common.{◌≡◌, ◌⊎◌, inl, inr, ℕ, zero, suc, ◌+◌, ◌^◌, ◌≤◌, ◌<◌, List, [], ◌∷◌, ◌++◌, length, take, drop, min, Bool, true, false, Option, None, Some, refl, ap, sym, ◌∙◌, subst, arith, append_assoc, length-append, length-drop}
use Rattle.std.proofs.lemmas.List.{drop_at, take-append-le, drop-append-le, take-append-drop, length-take-le, take_all}
use Rattle.std.proofs.lemmas.Bool.{cases_eq}
use Rattle.std.proofs.lemmas.Bool.Decides.{nat_tests}
use Rattle.disk_port.specs.Crash.{Torn}
use Rattle.disk_port.specs.Slots.{slot, body_length, content, payload, is_shut}
use Rattle.disk_port.proofs.OneSlot.{IsOpen, slot_cases, open_is, whole_fits, stays_open, closed_gate, no_slot, payload_length, new_slot, open_gate}
use Rattle.journal.specs.Records.{record_at, is_one, walk, framed}
use Rattle.journal.specs.Areas.{Area, area_of, behind_slot, area_with, area}
use Rattle.journal.proofs.RecordLaws.{closed_record, framed_record, framed_length, Reads, size, Found, found, Front, front, walk_is, reads_few}

none_area : {X : Type 0} (a : Area) → None ≡ Some a → X
none_area a is = let no : ⊥ = cc in absurd no

some_area : (a b : Area) → Some a ≡ Some b → a ≡ b
some_area a b is = cc

pub no_area : (base most : ℕ) (x : List ℕ) → slot most x ≡ None → area base most x ≡ None
unfolding area
no_area base most x none = ap (area_with base x) none

behind_some : (base : ℕ) (s : ℕ × List ℕ) (t : List ℕ) → 0 < length t → behind_slot base s t ≡ Some (area_of s (walk (length t) (base + (13 + length s.1)) t))
behind_some base s [] some = absurd (omega arith)
behind_some base s (g ∷ r) some = refl

area_is : (base most : ℕ) (x : List ℕ) (s : ℕ × List ℕ) → slot most x ≡ Some s → area base most x ≡ behind_slot base s (drop (13 + length s.1) x)
unfolding area
area_is base most x s is = ap (area_with base x) is

-- what stands before the first gate of a record that is not open, and what may follow it
pub record AreaFront (base most : ℕ) (x : List ℕ) (a : Area) : Type 0 where
  pub pre : List ℕ
  pub rest : List ℕ
  pub is : x ≡ pre ++ rest
  pub some : 0 < length rest
  pub gate : 0 < length pre
  pub place : a.place ≡ base + length pre
  pub one : a.one ≡ is_one rest
  pub none : record_at rest ≡ None
  pub again : (cs : List (List ℕ)) (more z : List ℕ) → 0 < length more → Reads cs more z → area base most (pre ++ more) ≡ Some (record { generation = a.generation; bodies = a.bodies ++ cs; place = a.place + size cs; one = is_one z })
  pub open_slot : IsOpen most x

module _ (base most : ℕ) where
  from_open : (x : List ℕ) (a : Area) (is_open : IsOpen most x) (s : ℕ × List ℕ) (n : ℕ) (t : List ℕ) → s ≡ content is_open.behind → n ≡ 13 + length s.1 → t ≡ drop n x → 0 < length t → a ≡ area_of s (walk (length t) (base + (13 + length s.1)) t) → AreaFront base most x a
  from_open x a is_open s n t s_is n_is t_is some a_is =
      let fits = whole_fits most is_open.behind is_open.whole in
      let long : length s.1 ≡ body_length is_open.behind =
      ap (λ (s : ℕ × List ℕ). length s.1) s_is ∙ length-take-le (body_length is_open.behind) (drop 12 is_open.behind) (omega (arith, fits.1, length-drop 12 is_open.behind)) in
      let head : List ℕ = take n x in
      let head_long : length head ≡ n = length-take-le n x (omega (arith, n_is, long, fits.1, ap length is_open.is)) in
      let whole : x ≡ head ++ t = sym (take-append-drop n x) ∙ ap (λ l. head ++ l) (sym t_is) in
      let r : Found t = found (length t) t (omega arith) in
      let f : Front r.bodies t r.rest = front r.bodies t r.rest r.reads in
      let walked : walk (length t) (base + (13 + length s.1)) t ≡ record { bodies = r.bodies; place = base + (13 + length s.1) + size r.bodies; one = is_one r.rest } =
      walk_is r.bodies (length t) (base + (13 + length s.1)) t r.rest (reads_few r.bodies t r.rest r.reads) r.reads in
      let a_whole : a ≡ area_of s (record { bodies = r.bodies; place = base + (13 + length s.1) + size r.bodies; one = is_one r.rest }) = a_is ∙ ap (area_of s) walked in
      let pre_long : length (head ++ f.pre) ≡ n + size r.bodies = omega (arith, head_long, f.long, length-append head f.pre) in
      record {
        pre = head ++ f.pre;
        rest = r.rest;
        is = whole ∙ ap (λ l. head ++ l) f.is ∙ sym (append_assoc head f.pre r.rest);
        some = f.some some;
        gate = omega (arith, pre_long, n_is);
        place = ap (λ (a : Area). a.place) a_whole ∙ placed base (length s.1) (size r.bodies) n n_is ∙ ap (λ l. base + l) (sym pre_long);
        one = ap (λ (a : Area). a.one) a_whole;
        none = f.none;
        again = λ cs more z some_more reads.
            let y : List ℕ = f.pre ++ more in
            let y_some : 0 < length y = omega (arith, some_more, length-append f.pre more) in
            let same : take n (head ++ y) ≡ take n x = take-append-le n head y (omega (arith, head_long)) ∙ take_all n head (omega (arith, head_long)) in
            let slot_same : slot most (head ++ y) ≡ Some s =
            stays_open most x (head ++ y) (12 + body_length is_open.behind) is_open refl (subst (λ k. take k (head ++ y) ≡ take k x) (lengths n (length s.1) (body_length is_open.behind) n_is long) same)
            ∙ open_is most x is_open ∙ ap Some (sym s_is) in
            let later : drop (13 + length s.1) (head ++ y) ≡ y = drop_at head y (13 + length s.1) (head_long ∙ n_is) in
            let all : Reads (r.bodies ++ cs) y z = f.again cs more z some_more reads in
            ap (area base most) (append_assoc head f.pre more)
            ∙ area_is base most (head ++ y) s slot_same ∙ ap (behind_slot base s) later ∙ behind_some base s y y_some
            ∙ ap (λ w. Some (area_of s w)) (walk_is (r.bodies ++ cs) (length y) (base + (13 + length s.1)) y z (reads_few (r.bodies ++ cs) y z all) all)
            ∙ ap (λ p. Some (record { generation = s.0; bodies = s.1 ∷ (r.bodies ++ cs); place = p; one = is_one z })) (sizes (base + (13 + length s.1)) r.bodies cs)
            ∙ sym (ap (λ (a : Area). Some (record { generation = a.generation; bodies = a.bodies ++ cs; place = a.place + size cs; one = is_one z })) a_whole);
        open_slot = is_open;
      }
    where
      placed : (base l k n : ℕ) → n ≡ 13 + l → base + (13 + l) + k ≡ base + (n + k)
      placed base l k n is = omega (arith, is)

      lengths : (n l k : ℕ) → n ≡ 13 + l → l ≡ k → n ≡ suc (12 + k)
      lengths n l k is same = omega (arith, is, same)

      all_sizes : (bs cs : List (List ℕ)) → size (bs ++ cs) ≡ size bs + size cs
      all_sizes [] cs = omega arith
      all_sizes (b ∷ bs) cs = omega (arith, all_sizes bs cs)

      sizes : (p : ℕ) (bs cs : List (List ℕ)) → p + size (bs ++ cs) ≡ p + size bs + size cs
      sizes p bs cs = omega (arith, all_sizes bs cs)

  pub area_front : (x : List ℕ) (a : Area) → area base most x ≡ Some a → AreaFront base most x a
  area_front x a is = elim (slot_cases most x) [
    | inl none ↦ none_area a (sym (no_area base most x none) ∙ is)
    | inr is_open ↦ by_rest is_open (content is_open.behind) refl (drop (13 + length (content is_open.behind).1) x) refl (sym (area_is base most x (content is_open.behind) (open_is most x is_open)) ∙ is)
  ]
    where
      by_rest : (is_open : IsOpen most x) (s : ℕ × List ℕ) → s ≡ content is_open.behind → (t : List ℕ) → t ≡ drop (13 + length s.1) x → behind_slot base s t ≡ Some a → AreaFront base most x a
      by_rest is_open s s_is [] t_is is = none_area a is
      by_rest is_open s s_is (g ∷ r) t_is is = from_open x a is_open s (13 + length s.1) (g ∷ r) s_is refl t_is (omega arith) (some_area a (area_of s (walk (length (g ∷ r)) (base + (13 + length s.1)) (g ∷ r))) (sym is))

  -- the gate behind the records is not 1: whatever follows it, the area stays
  pub same_front : (x : List ℕ) (a : Area) (f : AreaFront base most x a) (g : ℕ) (r : List ℕ) → (g ≡ 1 → ⊥) → area base most (f.pre ++ (g ∷ r)) ≡ Some (record a { one = false })
  same_front x a f g r closed =
      f.again [] (g ∷ r) (g ∷ r) (omega arith) (refl, closed_record g r closed)
      ∙ ap (λ b. Some (record { generation = a.generation; bodies = a.bodies ++ []; place = a.place + 0; one = b })) (not_one g closed)
      ∙ ap (λ p. Some (record { generation = a.generation; bodies = a.bodies ++ []; place = p; one = false })) (nothing a.place)
      ∙ ap (λ bs. Some (record { generation = a.generation; bodies = bs; place = a.place; one = false })) (append_nil a.bodies)
    where
      not_one : (g : ℕ) → (g ≡ 1 → ⊥) → is_one (g ∷ []) ≡ false
      not_one g closed = grind (arith, nat_tests)

      nothing : (p : ℕ) → p + 0 ≡ p
      nothing p = omega arith

      append_nil : (xs : List (List ℕ)) → xs ++ [] ≡ xs
      append_nil [] = refl
      append_nil (x ∷ xs) = ap (λ l. x ∷ l) (append_nil xs)

  -- one more record stands there
  pub more_front : (x : List ℕ) (a : Area) (f : AreaFront base most x a) (body r : List ℕ) → length body < 2 ^ 32 → area base most (f.pre ++ (1 ∷ (framed body ++ r))) ≡ Some (record { generation = a.generation; bodies = a.bodies ++ body ∷ []; place = a.place + (5 + length body); one = false })
  more_front x a f body r short =
      f.again (body ∷ []) (1 ∷ (framed body ++ r)) (0 ∷ r) (omega arith) (0 ∷ r, framed_record body r short, (refl, closed_record 0 r (λ is. omega (arith, is))))
      ∙ ap (λ p. Some (record { generation = a.generation; bodies = a.bodies ++ body ∷ []; place = p; one = false })) (one_size a.place (length body))
    where
      one_size : (p n : ℕ) → p + (5 + n + 0) ≡ p + (5 + n)
      one_size p n = omega arith

  -- a snapshot that is written
  pub fresh_area : (g : ℕ) (body r : List ℕ) → g < 2 ^ 64 → length body < 2 ^ 32 → length body ≤ most → area base most (1 ∷ (payload g body ++ (0 ∷ r))) ≡ Some (record { generation = g; bodies = body ∷ []; place = base + (13 + length body); one = false })
  fresh_area g body r small short within =
      area_is base most (1 ∷ (payload g body ++ (0 ∷ r))) (g, body) (new_slot most g body (0 ∷ r) small short within)
      ∙ ap (behind_slot base (g, body)) (drop_at (1 ∷ payload g body) (0 ∷ r) (13 + length body) (omega (arith, payload_length g body)))
      ∙ ap (λ w. Some (area_of (g, body) w)) (walk_is [] (length (0 ∷ r)) (base + (13 + length body)) (0 ∷ r) (0 ∷ r) (omega arith) (refl, closed_record 0 r (λ is. omega (arith, is))))
      ∙ ap (λ p. Some (record { generation = g; bodies = body ∷ []; place = p; one = false })) (nothing (base + (13 + length body)))
    where
      nothing : (p : ℕ) → p + 0 ≡ p
      nothing p = omega arith

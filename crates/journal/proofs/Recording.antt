-- One more record, call by call.
use Rattle.std.proofs.Common.{◌≡◌, ◌⊎◌, inl, inr, ℕ, suc, ◌+◌, ◌-◌, ◌^◌, ◌≤◌, ◌<◌, List, [], ◌∷◌, ◌++◌, length, take, drop, get_or, min, Bool, true, false, Option, None, Some, Result, Ok, Err, refl, ap, sym, ◌∙◌, subst, arith, length-append, length-drop}
use Rattle.std.proofs.lemmas.List.{drop_more, take-take}
use Rattle.std.proofs.lemmas.Bool.{cases_eq, false≢true}
use Rattle.fdo_ports.specs.declared.failed.Failed.{Failed}
use Rattle.disk_port.specs.Crash.{Torn}
use Rattle.disk_port.specs.Story.{Story, put, seen, with_events}
use Rattle.disk_port.specs.Told.{Told, IfTold}
use Rattle.disk_port.specs.Gated.{gated, Gates, MayLeave, gate_closed, gate_filled}
use Rattle.disk_port.specs.Slots.{is_shut, other}
use Rattle.disk_port.specs.declared.side.Side.{Side}
use Rattle.disk_port.specs.declared.side.Side.TheVariants.{First, Second}
use Rattle.disk_port.proofs.Stepping.{steps_map}
use Rattle.disk_port.proofs.TwoSlots.{torn_before, opened_is}
use Rattle.disk_port.proofs.Written.{put_torn, drop_put, take_put, length_put}
use Rattle.journal.specs.Records.{framed}
use Rattle.journal.specs.Areas.{Area, Standing, held, area_at, base_of, stands, newest, cursor, cursor_at, change_to, next_side, next_generation, AreApart}
use Rattle.journal.specs.Changing.{with_body, recorded, cursor_after_record}
use Rattle.disk_port.specs.Moments.{Steps}
use Rattle.journal.specs.declared.areas.Areas.{Areas}
use Rattle.journal.specs.declared.cursor.Cursor.{Cursor}
use Rattle.journal.proofs.RecordLaws.{framed_length}
use Rattle.journal.proofs.AreaPicks.{counts, still_counts}
use Rattle.journal.proofs.FileLaws.{its_front, o, inside, same_gate, closed_there, record_there, own_gate, IsKept, other_stays, gate_stays}

-- it has room with the gate behind it: the place is where the journal of an area goes on
pub record MayAppend (areas : Areas) (standing : Standing) (body : List ℕ) (image : List ℕ) : Type 0 where
  pub stands_for : stands areas image ≡ Some standing
  pub ready : standing.area.one ≡ false
  pub room : standing.area.place + (6 + length body) ≤ base_of areas standing.side + areas.room

abbrev pub IsOneOf : Areas → Standing → List ℕ → List ℕ → Type 0
IsOneOf areas standing body c = (stands areas c ≡ Some standing) ⊎ (stands areas c ≡ Some (recorded body standing))

-- at each moment a crash leaves what stands for the bodies before the change, or for these and one more
abbrev pub AppendsTo : {T E : Type 0} → Areas → Standing → List ℕ → Result T E → Story → Story → Type 0
AppendsTo areas standing body result old new =
    Steps (IsOneOf areas standing body) (gated standing.area.place true (framed body)) result old new

module _ (areas : Areas) (standing : Standing) (body d : List ℕ) (may : MayAppend areas standing body d) (short : length body < 2 ^ 32) where
  abbrev side : Side
  side = standing.side

  abbrev base : ℕ
  base = base_of areas side

  by_side : (side : Side) (a : Area) → standing ≡ held side a → area_at areas side d ≡ Some a
  by_side First a is = ap (λ (st : Standing). area_at areas st.side d) (sym is) ∙ own is
    where
      own : standing ≡ held First a → area_at areas standing.side d ≡ Some a
      own is = by (counts (area_at areas First d) (area_at areas Second d) (held First a) (may.stands_for ∙ ap Some is))
        where
          by : area_at areas First d ≡ Some a → area_at areas standing.side d ≡ Some a
          by at = ap (λ (st : Standing). area_at areas st.side d) is ∙ at
  by_side Second a is = counts (area_at areas First d) (area_at areas Second d) (held Second a) (may.stands_for ∙ ap Some is)

  there : area_at areas side d ≡ Some standing.area
  there = by_side standing.side standing.area refl

  abbrev f : ℕ
  f = o areas side d standing.area there

  abbrev p : ℕ
  p = standing.area.place

  p_is : p ≡ base + f
  p_is = (its_front areas side d standing.area there).place

  within : (f < areas.room) × (base + f < length d)
  within = inside areas side d standing.area there

  long : length (framed body) ≡ 5 + length body
  long = framed_length body

  -- the first area fills its room where the second one is written
  second_kept : (side : Side) (n : ℕ) → base_of areas side + n < length d → side ≡ Second → areas.room ≤ length d
  second_kept First n within is = let no : ⊥ = cc in absurd no
  second_kept Second n within is = omega (arith, within)

  others : (c : List ℕ) (at n : ℕ) (m : List ℕ) → base ≤ at → at + n ≤ base + areas.room → length d ≤ length m → Torn at n m c → area_at areas (other side) c ≡ area_at areas (other side) m
  others c at n m from to longer torn = other_stays areas side at n m c from to (λ is. inl (omega (arith, longer, second_kept side f within.1 is))) torn

  -- what is read after the first write
  abbrev d₁ : List ℕ
  d₁ = put (p + 1) (framed body) d

  others_filling : (c : List ℕ) → Torn (p + 1) (length (framed body)) d c → area_at areas (other side) c ≡ area_at areas (other side) d
  others_filling c torn = others c (p + 1) (length (framed body)) d (omega (arith, p_is)) (omega (arith, long, may.room)) (omega arith) torn

  others_opening : (c : List ℕ) → Torn p 1 d₁ c → area_at areas (other side) c ≡ area_at areas (other side) d
  others_opening c torn =
      others c p 1 d₁ (omega (arith, p_is)) (omega (arith, may.room)) (omega (arith, length_put (p + 1) (framed body) d)) torn
      ∙ others_filling d₁ (put_torn (p + 1) (framed body) d)

  on_sides : (c : List ℕ) (a : Area) → a.generation ≡ standing.area.generation → area_at areas (other side) c ≡ area_at areas (other side) d → area_at areas side c ≡ Some a → stands areas c ≡ Some (held side a)
  on_sides c a generation others own = by standing.side standing.area refl generation others own
    where
      by : (side : Side) (b : Area) → held side b ≡ standing → a.generation ≡ b.generation → area_at areas (other side) c ≡ area_at areas (other side) d → area_at areas side c ≡ Some a → stands areas c ≡ Some (held side a)
      by First b is generation others own = still_counts (area_at areas First d) (area_at areas Second d) (area_at areas First c) (area_at areas Second c) (held First b) a (may.stands_for ∙ ap Some (sym is)) generation others own
      by Second b is generation others own = still_counts (area_at areas First d) (area_at areas Second d) (area_at areas First c) (area_at areas Second c) (held Second b) a (may.stands_for ∙ ap Some (sym is)) generation others own

  same : (c : List ℕ) → area_at areas (other side) c ≡ area_at areas (other side) d → area_at areas side c ≡ Some standing.area → stands areas c ≡ Some standing
  same c others own = on_sides c standing.area refl others own

  more : (c : List ℕ) → area_at areas (other side) c ≡ area_at areas (other side) d → area_at areas side c ≡ Some (with_body body standing.area) → stands areas c ≡ Some (recorded body standing)
  more c others own = on_sides c (with_body body standing.area) refl others own

  -- behind the gate stands what was written, whatever became of the gate
  take_d₁ : (n : ℕ) → n ≡ p → take n d₁ ≡ take n d
  take_d₁ n is = take_put (p + 1) (framed body) d n (omega (arith, is)) (omega (arith, is, p_is, within.1))

  own_opened : (c r : List ℕ) → take (base + f) c ≡ take (base + f) d → drop (base + f) c ≡ 1 ∷ (framed body ++ r) → area_at areas side c ≡ Some (with_body body standing.area)
  own_opened c r front behind = record_there areas side d standing.area there c body r short (omega (arith, long, p_is, may.room)) front behind

  opening_leaves : (c : List ℕ) → Torn p 1 d₁ c → IsOneOf areas standing body c
  opening_leaves c torn = by_gate (get_or c (base + f) 0) refl
    where
      front : take (base + f) c ≡ take (base + f) d
      front = torn_before (base + f) p 1 d₁ c (omega (arith, p_is)) (omega (arith, p_is, within.1, length_put (p + 1) (framed body) d)) torn ∙ take_d₁ (base + f) (sym p_is)

      r : List ℕ
      r = drop (p + 1 + length (framed body)) d

      behind : drop (base + f) c ≡ get_or c (base + f) 0 ∷ (framed body ++ r)
      behind =
          drop_more c (base + f) 0 (omega (arith, within.1, torn.no_shorter, length_put (p + 1) (framed body) d))
          ∙ ap (λ n. get_or c (base + f) 0 ∷ drop n c) (ap (λ n. n + 1) (sym p_is)) ∙ ap (λ l. get_or c (base + f) 0 ∷ l) (torn.after ∙ drop_put (p + 1) (framed body) d)

      by_gate : (g : ℕ) → g ≡ get_or c (base + f) 0 → IsOneOf areas standing body c
      by_gate g g_is = elim (cases_eq g 1) [
        | inl one ↦ inr (more c (others_opening c torn) (own_opened c r front (behind ∙ ap (λ g. g ∷ (framed body ++ r)) (sym g_is ∙ one))))
        | inr closed ↦ inl (same c (others_opening c torn) (closed_there areas side d standing.area there g c (framed body ++ r) may.ready closed front (behind ∙ ap (λ g. g ∷ (framed body ++ r)) (sym g_is))))
      ]

  pub append_leaves : (c : List ℕ) → MayLeave p true (framed body) d c → IsOneOf areas standing body c
  append_leaves c (inl torn) = absurd (false≢true (sym torn.0))
  append_leaves c (inr (inl torn)) =
      inl (same c (others_filling c torn) (same_gate areas side d standing.area there c may.ready
      (torn_before (base + suc f) (p + 1) (length (framed body)) d c (omega (arith, p_is)) (omega (arith, within.1)) torn)))
  append_leaves c (inr (inr torn)) = opening_leaves c torn

  -- the file after it
  abbrev pub after : List ℕ
  after = put p (1 ∷ []) d₁

  after_torn : Torn p 1 d₁ after
  after_torn = put_torn p (1 ∷ []) d₁

  after_own : area_at areas side after ≡ Some (with_body body standing.area)
  after_own =
      own_opened after (drop (p + 1 + length (framed body)) d)
      (torn_before (base + f) p 1 d₁ after (omega (arith, p_is)) (omega (arith, p_is, within.1, length_put (p + 1) (framed body) d)) after_torn ∙ take_d₁ (base + f) (sym p_is))
      (ap (λ n. drop n after) (sym p_is) ∙ opened_is p (framed body) d)

  pub after_stands : stands areas after ≡ Some (recorded body standing)
  after_stands = more after (others_opening after after_torn) after_own

  after_gate : is_shut (drop (base_of areas (other side)) after) ≡ is_shut (drop (base_of areas (other side)) d)
  after_gate =
      gate_stays areas side p 1 d₁ after (omega (arith, p_is)) (omega (arith, may.room)) (omega (arith, within.0)) (λ is. omega (arith, within.1, length_put (p + 1) (framed body) d)) after_torn
      ∙ gate_stays areas side (p + 1) (length (framed body)) d d₁ (omega (arith, p_is)) (omega (arith, long, may.room)) (omega (arith, within.0)) (λ is. omega (arith, within.1)) (put_torn (p + 1) (framed body) d)

  its_gate : is_shut (drop base after) ≡ is_shut (drop base d)
  its_gate = own_gate areas side after (with_body body standing.area) after_own ∙ sym (own_gate areas side d standing.area there)

  other_other : (side : Side) → other (other side) ≡ side
  other_other First = refl
  other_other Second = refl

  pub after_cursor : cursor areas after ≡ cursor_after_record body p (cursor areas d)
  after_cursor =
      ap (λ st. cursor_at areas st after) after_stands
      ∙ ap (λ b. goes b (is_shut (drop (base_of areas (other (other side))) after))) after_gate
      ∙ ap (λ s. goes (is_shut (drop (base_of areas (other side)) d)) (is_shut (drop (base_of areas s) after))) (other_other side)
      ∙ ap (λ b. goes (is_shut (drop (base_of areas (other side)) d)) b) its_gate
      ∙ ap (λ s. goes (is_shut (drop (base_of areas (other side)) d)) (is_shut (drop (base_of areas s) d))) (sym (other_other side))
      ∙ sym (ap (λ st. cursor_after_record body p (cursor_at areas st d)) may.stands_for)
    where
      goes : Bool → Bool → Cursor
      goes shut other_shut = record {
        next = record { side = other side; generation = next_generation (Some standing); shut = shut; other_shut = other_shut };
        place = Some (p + (5 + length body));
      }

seen_gated : (s : Story) (at : ℕ) (bytes : List ℕ) → seen (with_events (gated at true bytes) s) ≡ put at (1 ∷ []) (gate_filled at true bytes (seen s))
seen_gated s at bytes = refl

-- as the disk tells it
module _ (areas : Areas) (standing : Standing) (body : List ℕ) (short : length body < 2 ^ 32) where
  abbrev pub May : Option Story → Type 0
  May told = IfTold (λ s. MayAppend areas standing body (seen s)) told

  pub append_told : (o o' : Option Story) (at : ℕ) (bytes : List ℕ) (r : Result (Unit {0}) Failed) → May o → at ≡ standing.area.place → bytes ≡ framed body → Told (Gates at true bytes r) o o' → Told (AppendsTo areas standing body r) o o'
  append_told None o' at bytes r may at_is bytes_is told = told
  append_told (Some s) o' at bytes r may at_is bytes_is told =
      let gates : Gates standing.area.place true (framed body) r s told.0 = subst (λ b. Gates standing.area.place true b r s told.0) bytes_is (subst (λ n. Gates n true bytes r s told.0) at_is told.2) in (
        told.0,
        told.1,
        steps_map (MayLeave standing.area.place true (framed body) (seen s)) (IsOneOf areas standing body) (gated standing.area.place true (framed body)) r s told.0
            (append_leaves areas standing body (seen s) may short) gates,
      )

  pub append_done : (o o' : Option Story) (at : ℕ) (bytes : List ℕ) (u : Unit {0}) → May o → at ≡ standing.area.place → bytes ≡ framed body → Told (Gates {T = Unit {0}} {E = Failed} at true bytes (Ok u)) o o' →
      IfTold (λ s'. (stands areas (seen s') ≡ Some (recorded body standing)) × IfTold (λ s. cursor areas (seen s') ≡ cursor_after_record body standing.area.place (cursor areas (seen s))) o) o'
  append_done None o' at bytes u may at_is bytes_is told = subst (IfTold (λ s'. (stands areas (seen s') ≡ Some (recorded body standing)) × Unit {0})) (sym told) tt
  append_done (Some s) o' at bytes u may at_is bytes_is told =
      let story : told.0 ≡ with_events (gated standing.area.place true (framed body)) s = told.2.done ∙ ap (λ b. with_events (gated at true b) s) bytes_is ∙ ap (λ n. with_events (gated n true (framed body)) s) at_is in
      let seen_is = ap seen story ∙ seen_gated s standing.area.place (framed body) in
      subst (IfTold (λ s'. (stands areas (seen s') ≡ Some (recorded body standing)) × (cursor areas (seen s') ≡ cursor_after_record body standing.area.place (cursor areas (seen s))))) (sym told.1)
      (subst (λ i. (stands areas i ≡ Some (recorded body standing)) × (cursor areas i ≡ cursor_after_record body standing.area.place (cursor areas (seen s)))) (sym seen_is)
      (after_stands areas standing body (seen s) may short, after_cursor areas standing body (seen s) may short))

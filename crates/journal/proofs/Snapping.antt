-- A snapshot in the other area, call by call.
use Rattle.std.proofs.Common.{◌≡◌, ◌⊎◌, inl, inr, ℕ, suc, ◌+◌, ◌-◌, ◌^◌, ◌≤◌, ◌<◌, List, [], ◌∷◌, ◌++◌, length, take, drop, get_or, min, Bool, true, false, Option, None, Some, Result, Ok, Err, refl, ap, sym, ◌∙◌, subst, arith, length-append, length-drop}
use Rattle.std.proofs.Math.Seq.{take-append-add}
use Rattle.fdo_ports.specs.declared.failed.Failed.{Failed}
use Rattle.disk_port.specs.Crash.{Torn}
use Rattle.disk_port.specs.Story.{Story, put, seen, with_events}
use Rattle.disk_port.specs.Told.{Told, IfTold}
use Rattle.disk_port.specs.Gated.{gated, Gates, MayLeave, gate_closed, gate_filled}
use Rattle.disk_port.specs.Slots.{is_shut, other, payload, change_after, generation_after}
use Rattle.disk_port.specs.declared.side.Side.{Side}
use Rattle.disk_port.specs.declared.side.Side.TheVariants.{First, Second}
use Rattle.disk_port.specs.declared.next_change.NextChange.{NextChange}
use Rattle.disk_port.proofs.Stepping.{steps_map}
use Rattle.disk_port.proofs.TwoSlots.{torn_drop, torn_gate, closed_shut, closed_torn, filled_is, opened_is}
use Rattle.disk_port.proofs.Written.{put_torn, drop_put, length_put}
use Rattle.journal.specs.Areas.{Area, Standing, held, area, area_at, base_of, stands, newest, cursor, cursor_at, next_side, next_generation, AreApart, IsReady}
use Rattle.journal.specs.Changing.{fresh, snapshot, IsSameOrFresh, Rewrites, cursor_after_snapshot}
use Rattle.journal.specs.declared.areas.Areas.{Areas}
use Rattle.journal.specs.declared.cursor.Cursor.{Cursor}
use Rattle.journal.proofs.AreaLaws.{fresh_area}
use Rattle.journal.proofs.AreaPicks.{first_counts, same_counts, new_counts}
use Rattle.journal.proofs.FileLaws.{own_gate, inside, IsKept, other_stays, gate_stays}
use Rattle.journal.proofs.Closing.{snapshot_length, snapshot_is, Closed, gate_torn, behind_torn, opening_torn}

module _ (areas : Areas) (apart : AreApart areas) (d : List ℕ) (change : NextChange) (body : List ℕ) (is : change ≡ (cursor areas d).next) (ready : IsReady (stands areas d)) (small : change.generation < 2 ^ 64) (short : length body < 2 ^ 32) (within : length body ≤ areas.most) where
  abbrev base : ℕ
  base = base_of areas change.side

  abbrev bytes : List ℕ
  bytes = snapshot change.generation body

  long : length bytes ≡ 13 + length body
  long = snapshot_length change.generation body

  side_is : change.side ≡ next_side (stands areas d)
  side_is = ap (λ (n : NextChange). n.side) is

  shut_is : change.shut ≡ is_shut (drop base d)
  shut_is = ap (λ (n : NextChange). n.shut) is ∙ ap (λ side. is_shut (drop (base_of areas side) d)) (sym side_is)

  abbrev Keeps : List ℕ → Type 0
  Keeps c = area_at areas (other change.side) c ≡ area_at areas (other change.side) d

  first : change.side ≡ Second → (a : Area) × (area_at areas First d ≡ Some a) × (a.one ≡ false)
  first second =
      let x = first_counts (area_at areas First d) (area_at areas Second d) (sym second ∙ side_is) in
      (x.0, x.1, subst IsReady x.2 ready)

  first_of : (m : List ℕ) → Keeps m → change.side ≡ Second → (a : Area) × (area_at areas First m ≡ Some a) × (a.one ≡ false)
  first_of m keeps second =
      let x = first second in
      (x.0, subst (λ side. area_at areas (other side) m ≡ area_at areas (other side) d) second keeps ∙ x.1, x.2)

  keeps_then : (at n : ℕ) (m c : List ℕ) → base ≤ at → at + n ≤ base + areas.room → Keeps m → Torn at n m c → Keeps c
  keeps_then at n m c from to keeps torn = other_stays areas change.side at n m c from to (λ second. inr (first_of m keeps second)) torn ∙ keeps

  some_room : 1 ≤ areas.room
  some_room = omega (arith, apart)

  keeps_closed : Keeps (gate_closed base change.shut d)
  keeps_closed = keeps_then base 1 d (gate_closed base change.shut d) (omega arith) (omega (arith, some_room)) refl (closed_torn base change.shut d)

  keeps_filling : (c : List ℕ) → Torn (base + 1) (length bytes) (gate_closed base change.shut d) c → Keeps c
  keeps_filling c torn = keeps_then (base + 1) (length bytes) (gate_closed base change.shut d) c (omega arith) (omega (arith, long, within, apart)) keeps_closed torn

  keeps_filled : Keeps (gate_filled base change.shut bytes d)
  keeps_filled = keeps_filling (gate_filled base change.shut bytes d) (put_torn (base + 1) bytes (gate_closed base change.shut d))

  keeps_opening : (c : List ℕ) → Torn base 1 (gate_filled base change.shut bytes d) c → Keeps c
  keeps_opening c torn = keeps_then base 1 (gate_filled base change.shut bytes d) c (omega arith) (omega (arith, some_room)) keeps_filled torn

  same : (c : List ℕ) → Keeps c → (area_at areas change.side c ≡ area_at areas change.side d) ⊎ (area_at areas change.side c ≡ None) → IsSameOrFresh areas change body d c
  same c keeps own = inl (by_side change.side side_is keeps own)
    where
      by_side : (side : Side) → side ≡ next_side (stands areas d) → area_at areas (other side) c ≡ area_at areas (other side) d → (area_at areas side c ≡ area_at areas side d) ⊎ (area_at areas side c ≡ None) → stands areas c ≡ stands areas d
      by_side First side keeps own = same_counts First (area_at areas First d) (area_at areas Second d) (area_at areas First c) (area_at areas Second c) side keeps own
      by_side Second side keeps own = same_counts Second (area_at areas First d) (area_at areas Second d) (area_at areas First c) (area_at areas Second c) side keeps own

  abbrev a : Area
  a = (fresh areas change body).area

  new : (c : List ℕ) → Keeps c → area_at areas change.side c ≡ Some a → stands areas c ≡ Some (fresh areas change body)
  new c keeps own = by_side change.side side_is (ap (λ (n : NextChange). n.generation) is) keeps own
    where
      by_side : (side : Side) → side ≡ next_side (stands areas d) → change.generation ≡ next_generation (stands areas d) → area_at areas (other side) c ≡ area_at areas (other side) d → area_at areas side c ≡ Some a → stands areas c ≡ Some (held side a)
      by_side First side next keeps own = new_counts First (area_at areas First d) (area_at areas Second d) (area_at areas First c) (area_at areas Second c) a side next small keeps own
      by_side Second side next keeps own = new_counts Second (area_at areas First d) (area_at areas Second d) (area_at areas First c) (area_at areas Second c) a side next small keeps own

  -- behind an open gate stands what was written
  own_new : (c r : List ℕ) → drop base c ≡ 1 ∷ (bytes ++ r) → area_at areas change.side c ≡ Some a
  own_new c r behind =
      let k : ℕ = areas.room - suc (length bytes) in
      let room : areas.room ≡ suc (length bytes + k) = omega (arith, long, within, apart) in
      ap (λ l. area base areas.most (take areas.room l)) behind ∙ ap (λ n. area base areas.most (take n (1 ∷ (bytes ++ r)))) room
      ∙ ap (λ l. area base areas.most (1 ∷ l)) (take-append-add bytes r k ∙ snapshot_is change.generation body (take k r))
      ∙ fresh_area base areas.most change.generation body (take k r) small short within

  -- what a crash in it may leave
  pub snapshot_leaves : (c : List ℕ) → MayLeave base change.shut bytes d c → IsSameOrFresh areas change body d c
  snapshot_leaves c (inl torn) =
      same c (keeps_then base 1 d c (omega arith) (omega (arith, some_room)) refl torn.1)
      (elim (gate_torn base areas.most (drop base d) (drop base c) (sym shut_is ∙ torn.0) (torn_gate base 1 d c torn.1)) [
        | inl as_it_was ↦ inl (ap (λ l. area base areas.most (take areas.room l)) as_it_was)
        | inr closed ↦ inr (closed areas.room)
      ])
  snapshot_leaves c (inr (inl torn)) =
      same c (keeps_filling c torn)
      (inr (behind_torn base areas.most (length bytes) (drop base (gate_closed base change.shut d)) (drop base c) (closed_shut base change.shut d shut_is)
      (torn_drop base 1 (length bytes) (gate_closed base change.shut d) c torn) areas.room))
  snapshot_leaves c (inr (inr torn)) =
      elim (opening_torn base areas.most (get_or (gate_filled base change.shut bytes d) base 0) (bytes ++ drop (base + 1 + length bytes) (gate_closed base change.shut d)) (drop base c)
      (subst (λ x. Torn 0 1 x (drop base c)) (filled_is base bytes (gate_closed base change.shut d)) (torn_gate base 1 (gate_filled base change.shut bytes d) c torn))) [
        | inl is_new ↦ inr (new c (keeps_opening c torn) (own_new c (drop (base + 1 + length bytes) (gate_closed base change.shut d)) is_new))
        | inr closed ↦ same c (keeps_opening c torn) (inr (closed areas.room))
      ]

  -- the file after it
  abbrev pub after : List ℕ
  after = put base (1 ∷ []) (gate_filled base change.shut bytes d)

  after_torn : Torn base 1 (gate_filled base change.shut bytes d) after
  after_torn = put_torn base (1 ∷ []) (gate_filled base change.shut bytes d)

  after_own : area_at areas change.side after ≡ Some a
  after_own = own_new after (drop (base + 1 + length bytes) (gate_closed base change.shut d)) (opened_is base bytes (gate_closed base change.shut d))

  pub after_stands : stands areas after ≡ Some (fresh areas change body)
  after_stands = new after (keeps_opening after after_torn) after_own

  some_bytes : (m : List ℕ) → Keeps m → change.side ≡ Second → 0 < length m
  some_bytes m keeps second =
      let x = first_of m keeps second in
      omega (arith, (inside areas First m x.0 x.1).1)

  gate_then : (at n : ℕ) (m c : List ℕ) → base ≤ at → at + n ≤ base + areas.room → Keeps m → Torn at n m c → is_shut (drop (base_of areas (other change.side)) c) ≡ is_shut (drop (base_of areas (other change.side)) m)
  gate_then at n m c from to keeps torn = gate_stays areas change.side at n m c from to (omega (arith, some_room)) (some_bytes m keeps) torn

  after_gate : is_shut (drop (base_of areas (other change.side)) after) ≡ change.other_shut
  after_gate =
      gate_then base 1 (gate_filled base change.shut bytes d) after (omega arith) (omega (arith, some_room)) keeps_filled after_torn
      ∙ gate_then (base + 1) (length bytes) (gate_closed base change.shut d) (gate_filled base change.shut bytes d) (omega arith) (omega (arith, long, within, apart)) keeps_closed (put_torn (base + 1) bytes (gate_closed base change.shut d))
      ∙ gate_then base 1 d (gate_closed base change.shut d) (omega arith) (omega (arith, some_room)) refl (closed_torn base change.shut d)
      ∙ ap (λ side. is_shut (drop (base_of areas (other side)) d)) side_is ∙ sym (ap (λ (n : NextChange). n.other_shut) is)

  own_open : is_shut (drop base after) ≡ false
  own_open = own_gate areas change.side after a after_own

  other_other : (side : Side) → other (other side) ≡ side
  other_other First = refl
  other_other Second = refl

  pub after_cursor : cursor areas after ≡ record { next = change_after change; place = Some (base + (13 + length body)) }
  after_cursor =
      ap (λ st. cursor_at areas st after) after_stands
      ∙ ap (λ b. goes b (is_shut (drop (base_of areas (other (other change.side))) after))) after_gate
      ∙ ap (λ side. goes change.other_shut (is_shut (drop (base_of areas side) after))) (other_other change.side)
      ∙ ap (goes change.other_shut) own_open
    where
      goes : Bool → Bool → Cursor
      goes shut other_shut = record {
        next = record { side = other change.side; generation = generation_after change.generation; shut = shut; other_shut = other_shut };
        place = Some (base + (13 + length body));
      }

seen_gated : (s : Story) (at : ℕ) (shut : Bool) (bytes : List ℕ) → seen (with_events (gated at shut bytes) s) ≡ put at (1 ∷ []) (gate_filled at shut bytes (seen s))
seen_gated s at true bytes = refl
seen_gated s at false bytes = refl

-- as the disk tells it
module _ (areas : Areas) (now : Cursor) (body bytes : List ℕ) (apart : AreApart areas) (bytes_is : bytes ≡ snapshot now.next.generation body) (small : now.next.generation < 2 ^ 64) (short : length body < 2 ^ 32) (within : length body ≤ areas.most) where
  abbrev pub May : Option Story → Type 0
  May told = IfTold (λ s. (now ≡ cursor areas (seen s)) × IsReady (stands areas (seen s))) told

  pub rewrite_told : (o o' : Option Story) (r : Result (Unit {0}) Failed) → May o → Told (Gates (base_of areas now.next.side) now.next.shut bytes r) o o' → Told (Rewrites areas now.next body r) o o'
  rewrite_told None o' r may told = told
  rewrite_told (Some s) o' r may told =
      let gates : Gates (base_of areas now.next.side) now.next.shut (snapshot now.next.generation body) r s told.0 = subst (λ b. Gates (base_of areas now.next.side) now.next.shut b r s told.0) bytes_is told.2 in (
        told.0,
        told.1,
        steps_map (MayLeave (base_of areas now.next.side) now.next.shut (snapshot now.next.generation body) (seen s)) (IsSameOrFresh areas now.next body (seen s))
            (gated (base_of areas now.next.side) now.next.shut (snapshot now.next.generation body)) r s told.0
            (snapshot_leaves areas apart (seen s) now.next body (ap (λ (c : Cursor). c.next) may.0) may.1 small short within) gates,
      )

  pub rewrite_done : (o o' : Option Story) (u : Unit {0}) → May o → Told (Gates {T = Unit {0}} {E = Failed} (base_of areas now.next.side) now.next.shut bytes (Ok u)) o o' →
      IfTold (λ s. (stands areas (seen s) ≡ Some (fresh areas now.next body)) × (cursor areas (seen s) ≡ cursor_after_snapshot areas body now)) o'
  rewrite_done None o' u may told = subst (IfTold (λ s. (stands areas (seen s) ≡ Some (fresh areas now.next body)) × (cursor areas (seen s) ≡ cursor_after_snapshot areas body now))) (sym told) tt
  rewrite_done (Some s) o' u may told =
      let story : told.0 ≡ with_events (gated (base_of areas now.next.side) now.next.shut (snapshot now.next.generation body)) s = told.2.done ∙ ap (λ b. with_events (gated (base_of areas now.next.side) now.next.shut b) s) bytes_is in
      let seen_is = ap seen story ∙ seen_gated s (base_of areas now.next.side) now.next.shut (snapshot now.next.generation body) in
      let next = ap (λ (c : Cursor). c.next) may.0 in
      subst (IfTold (λ s. (stands areas (seen s) ≡ Some (fresh areas now.next body)) × (cursor areas (seen s) ≡ cursor_after_snapshot areas body now))) (sym told.1)
      (subst (λ i. (stands areas i ≡ Some (fresh areas now.next body)) × (cursor areas i ≡ cursor_after_snapshot areas body now)) (sym seen_is)
      (after_stands areas apart (seen s) now.next body next may.1 small short within, after_cursor areas apart (seen s) now.next body next may.1 small short within))

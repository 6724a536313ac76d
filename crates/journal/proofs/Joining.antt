-- The two changes, from where the journal goes on.
use Rattle.std.proofs.Common.{◌≡◌, ◌⊎◌, inl, inr, ℕ, ◌+◌, ◌^◌, ◌≤◌, ◌<◌, List, length, true, Option, None, Some, Result, Ok, Err, OnOk, IsTrue, refl, ap, sym, ◌∙◌, subst, option_map}
use Rattle.fdo_ports.specs.declared.failed.Failed.{Failed}
use Rattle.disk_port.specs.Story.{Event, Story, seen, with_events}
use Rattle.disk_port.specs.Told.{Told, IfTold, rests}
use Rattle.disk_port.specs.Moments.{Steps}
use Rattle.disk_port.specs.Gated.{gated, Gates, MayLeave}
use Rattle.disk_port.specs.Slots.{other}
use Rattle.disk_port.specs.declared.side.Side.{Side}
use Rattle.disk_port.specs.declared.side.Side.TheVariants.{First, Second}
use Rattle.disk_port.proofs.Stepping.{steps_map}
use Rattle.journal.specs.Records.{framed}
use Rattle.journal.specs.Areas.{Area, Standing, base_of, stands, cursor, cursor_at, next_place, AreApart, IsReady}
use Rattle.journal.specs.Changing.{recorded, fresh, snapshot, one_more, IsCurrent, HasRoom, HasMore, IsFresh, IsSameOrMore, IsSameOrFresh, Appends, Rewrites, cursor_after_record, cursor_after_snapshot}
use Rattle.journal.specs.declared.areas.Areas.{Areas}
use Rattle.journal.specs.declared.cursor.Cursor.{Cursor}
use Rattle.journal.proofs.Recording.{MayAppend, IsOneOf, append_told, append_done}
use Rattle.journal.proofs.Snapping.{rewrite_told, rewrite_done}

-- an answer with the next cursor in it
told_ok : (P : Story → List ℕ → Type 0) (events : Story → List Event) (o o' : Option Story) (u : Unit {0}) (next : Cursor) → Told (λ s s'. Steps {T = Unit {0}} {E = Failed} (P s) (events s) (Ok u) s s') o o' → Told (λ s s'. Steps {T = Cursor} {E = Failed} (P s) (events s) (Ok next) s s') o o'
told_ok P events None o' u next told = told
told_ok P events (Some s) o' u next told = (told.0, told.1, record { moments = told.2.moments; done = told.2.done })

told_err : (P : Story → List ℕ → Type 0) (events : Story → List Event) (o o' : Option Story) (e : Failed) → Told (λ s s'. Steps {T = Unit {0}} {E = Failed} (P s) (events s) (Err e) s s') o o' → Told (λ s s'. Steps {T = Cursor} {E = Failed} (P s) (events s) (Err e) s s') o o'
told_err P events None o' e told = told
told_err P events (Some s) o' e told = (told.0, told.1, record { moments = told.2.moments; done = tt })

module _ (areas : Areas) (now : Cursor) (place : ℕ) (body : List ℕ) (at : now.place ≡ Some place) (room : HasRoom areas now place body) (short : length body < 2 ^ 32) where
  pub record There (d : List ℕ) : Type 0 where
    pub standing : Standing
    pub is_at : place ≡ standing.area.place
    pub may : MayAppend areas standing body d

  there : (d : List ℕ) (o : Option Standing) → stands areas d ≡ o → now ≡ cursor_at areas o d → IsReady o → There d
  there d None is now_is ready = let no : None ≡ Some place = sym (ap (λ (c : Cursor). c.place) now_is) ∙ at in absent no
    where
      absent : {X : Type 0} → ◌≡◌ {A = Option ℕ} None (Some place) → X
      absent is = let no : ⊥ = cc in absurd no
  there d (Some standing) is now_is ready =
      let same : Some place ≡ Some standing.area.place = sym at ∙ ap (λ (c : Cursor). c.place) now_is in
      let place_is : place ≡ standing.area.place = some_same place standing.area.place same in
      let side_is : now.next.side ≡ other standing.side = ap (λ (c : Cursor). c.next.side) now_is in
      let base_is : base_of areas (other now.next.side) ≡ base_of areas standing.side = ap (λ s. base_of areas (other s)) side_is ∙ ap (base_of areas) (other_other standing.side) in
      record {
        standing = standing;
        is_at = place_is;
        may = record { stands_for = is; ready = ready; room = subst (λ b. standing.area.place + (6 + length body) ≤ b + areas.room) base_is (subst (λ p. p + (6 + length body) ≤ base_of areas (other now.next.side) + areas.room) place_is room) };
      }
    where
      some_same : (a b : ℕ) → Some a ≡ Some b → a ≡ b
      some_same a b is = cc

      other_other : (side : Side) → other (other side) ≡ side
      other_other First = refl
      other_other Second = refl

  here : (s : Story) → IsCurrent areas now s → There (seen s)
  here s current = there (seen s) (stands areas (seen s)) refl current.is current.ready

  record_told : (o o' : Option Story) (bytes : List ℕ) (r : Result (Unit {0}) Failed) → IfTold (IsCurrent areas now) o → bytes ≡ framed body → Told (Gates place true bytes r) o o' → Told (Appends areas place body r) o o'
  record_told None o' bytes r current bytes_is told = told
  record_told (Some s) o' bytes r current bytes_is told =
      let h = here s current in
      let t = append_told areas h.standing body short (Some s) o' place bytes r h.may h.is_at bytes_is told in
      let steps = subst (λ p. Steps (IsOneOf areas h.standing body) (gated p true (framed body)) r s t.0) (sym h.is_at) t.2 in
      (t.0, t.1, steps_map (IsOneOf areas h.standing body) (IsSameOrMore areas body (seen s)) (gated place true (framed body)) r s t.0 (either h.standing (seen s) h.may) steps)
    where
      either : (st : Standing) (d : List ℕ) → MayAppend areas st body d → (c : List ℕ) → IsOneOf areas st body c → IsSameOrMore areas body d c
      either st d may c (inl same) = inl (same ∙ sym may.stands_for)
      either st d may c (inr more) = inr (more ∙ sym (ap (one_more body) may.stands_for))

  pub record_made : (o o' : Option Story) (bytes : List ℕ) (u : Unit {0}) (next : Cursor) → IfTold (IsCurrent areas now) o → bytes ≡ framed body → Told (Gates {T = Unit {0}} {E = Failed} place true bytes (Ok u)) o o' → Told (Appends {T = Cursor} {E = Failed} areas place body (Ok next)) o o'
  record_made o o' bytes u next current bytes_is told = told_ok (λ s. IsSameOrMore areas body (seen s)) (λ s. gated place true (framed body)) o o' u next (record_told o o' bytes (Ok u) current bytes_is told)

  pub record_failed : (o o' : Option Story) (bytes : List ℕ) (e : Failed) → IfTold (IsCurrent areas now) o → bytes ≡ framed body → Told (Gates {T = Unit {0}} {E = Failed} place true bytes (Err e)) o o' → Told (Appends {T = Cursor} {E = Failed} areas place body (Err e)) o o'
  record_failed o o' bytes e current bytes_is told = told_err (λ s. IsSameOrMore areas body (seen s)) (λ s. gated place true (framed body)) o o' e (record_told o o' bytes (Err e) current bytes_is told)

  pub record_more : (o o' : Option Story) (bytes : List ℕ) (u : Unit {0}) → IfTold (IsCurrent areas now) o → bytes ≡ framed body → Told (Gates {T = Unit {0}} {E = Failed} place true bytes (Ok u)) o o' → Told (HasMore areas body) o o'
  record_more None o' bytes u current bytes_is told = told
  record_more (Some s) o' bytes u current bytes_is told =
      let h = here s current in
      let d = append_done areas h.standing body short (Some s) o' place bytes u h.may h.is_at bytes_is told in
      (told.0, told.1, (subst (IfTold (λ s'. (stands areas (seen s') ≡ Some (recorded body h.standing)) × (cursor areas (seen s') ≡ cursor_after_record body h.standing.area.place (cursor areas (seen s))))) told.1 d).0 ∙ sym (ap (one_more body) h.may.stands_for))

  pub record_current : (o o' : Option Story) (bytes : List ℕ) (u : Unit {0}) → IfTold (IsCurrent areas now) o → bytes ≡ framed body → Told (Gates {T = Unit {0}} {E = Failed} place true bytes (Ok u)) o o' → IfTold (IsCurrent areas (cursor_after_record body place now)) o'
  record_current None o' bytes u current bytes_is told = subst (IfTold (IsCurrent areas (cursor_after_record body place now))) (sym told) tt
  record_current (Some s) o' bytes u current bytes_is told =
      let h = here s current in
      let d = subst (IfTold (λ s'. (stands areas (seen s') ≡ Some (recorded body h.standing)) × (cursor areas (seen s') ≡ cursor_after_record body h.standing.area.place (cursor areas (seen s))))) told.1
      (append_done areas h.standing body short (Some s) o' place bytes u h.may h.is_at bytes_is told) in
      subst (IfTold (IsCurrent areas (cursor_after_record body place now))) (sym told.1)
      (record {
        is = ap (cursor_after_record body place) current.is ∙ ap (λ p. cursor_after_record body p (cursor areas (seen s))) h.is_at ∙ sym d.1;
        ready = subst IsReady (sym d.0) refl;
      })

module _ (areas : Areas) (now : Cursor) (body bytes : List ℕ) (apart : AreApart areas) (bytes_is : bytes ≡ snapshot now.next.generation body) (small : now.next.generation < 2 ^ 64) (short : length body < 2 ^ 32) (within : length body ≤ areas.most) where
  may : (o : Option Story) → IfTold (IsCurrent areas now) o → IfTold (λ s. (now ≡ cursor areas (seen s)) × IsReady (stands areas (seen s))) o
  may None current = tt
  may (Some s) current = (current.is, current.ready)

  snapshot_told : (o o' : Option Story) (r : Result (Unit {0}) Failed) → IfTold (IsCurrent areas now) o → Told (Gates (base_of areas now.next.side) now.next.shut bytes r) o o' → Told (Rewrites areas now.next body r) o o'
  snapshot_told o o' r current told = rewrite_told areas now body bytes apart bytes_is small short within o o' r (may o current) told

  pub snapshot_made : (o o' : Option Story) (u : Unit {0}) (next : Cursor) → IfTold (IsCurrent areas now) o → Told (Gates {T = Unit {0}} {E = Failed} (base_of areas now.next.side) now.next.shut bytes (Ok u)) o o' → Told (Rewrites {T = Cursor} {E = Failed} areas now.next body (Ok next)) o o'
  snapshot_made o o' u next current told = told_ok (λ s. IsSameOrFresh areas now.next body (seen s)) (λ s. gated (base_of areas now.next.side) now.next.shut (snapshot now.next.generation body)) o o' u next (snapshot_told o o' (Ok u) current told)

  pub snapshot_failed : (o o' : Option Story) (e : Failed) → IfTold (IsCurrent areas now) o → Told (Gates {T = Unit {0}} {E = Failed} (base_of areas now.next.side) now.next.shut bytes (Err e)) o o' → Told (Rewrites {T = Cursor} {E = Failed} areas now.next body (Err e)) o o'
  snapshot_failed o o' e current told = told_err (λ s. IsSameOrFresh areas now.next body (seen s)) (λ s. gated (base_of areas now.next.side) now.next.shut (snapshot now.next.generation body)) o o' e (snapshot_told o o' (Err e) current told)

  both : (o o' : Option Story) (u : Unit {0}) → IfTold (IsCurrent areas now) o → Told (Gates {T = Unit {0}} {E = Failed} (base_of areas now.next.side) now.next.shut bytes (Ok u)) o o' → IfTold (λ s. (stands areas (seen s) ≡ Some (fresh areas now.next body)) × (cursor areas (seen s) ≡ cursor_after_snapshot areas body now)) o'
  both o o' u current told = rewrite_done areas now body bytes apart bytes_is small short within o o' u (may o current) told

  parts : (o : Option Story) → IfTold (λ s. (stands areas (seen s) ≡ Some (fresh areas now.next body)) × (cursor areas (seen s) ≡ cursor_after_snapshot areas body now)) o → IfTold (IsFresh areas now.next body) o × IfTold (IsCurrent areas (cursor_after_snapshot areas body now)) o
  parts None d = (tt, tt)
  parts (Some s) d = (record { is_fresh = d.0 }, record { is = sym d.1; ready = subst IsReady (sym d.0) refl })

  pub snapshot_stands : (o o' : Option Story) (u : Unit {0}) → IfTold (IsCurrent areas now) o → Told (Gates {T = Unit {0}} {E = Failed} (base_of areas now.next.side) now.next.shut bytes (Ok u)) o o' → IfTold (IsFresh areas now.next body) o'
  snapshot_stands o o' u current told = (parts o' (both o o' u current told)).0

  pub snapshot_current : (o o' : Option Story) (u : Unit {0}) → IfTold (IsCurrent areas now) o → Told (Gates {T = Unit {0}} {E = Failed} (base_of areas now.next.side) now.next.shut bytes (Ok u)) o o' → IfTold (IsCurrent areas (cursor_after_snapshot areas body now)) o'
  snapshot_current o o' u current told = (parts o' (both o o' u current told)).1

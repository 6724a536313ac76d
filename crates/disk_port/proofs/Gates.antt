-- The calls of a gated change, one after another.
use Rattle.std.proofs.Common.{◌≡◌, ◌⊎◌, inl, inr, ℕ, ◌+◌, List, [], ◌∷◌, length, Bool, true, false, IsTrue, Option, None, Some, Result, Ok, Err, OnOk, refl, ap, sym, ◌∙◌, subst}
use Rattle.std.proofs.lemmas.Bool.{false≢true}
use Rattle.fdo_ports.specs.declared.failed.Failed.{Failed}
use Rattle.disk_port.specs.Story.{Wrote, Tore, Synced, Story, seen, with_events, is_synced, put}
use Rattle.disk_port.specs.Crash.{Torn, Leaves}
use Rattle.disk_port.specs.Told.{Told, rests, Writes, Syncs}
use Rattle.disk_port.specs.Moments.{Moments}
use Rattle.disk_port.specs.Gated.{put_down, PutsDown, closing, opening, Closes, Opens, Gates, gate_closed, MayLeave}
use Rattle.disk_port.proofs.Written.{put_torn, torn_same}
use Rattle.disk_port.proofs.Stepping.{only, moments_none, moments_one, moments_map, steps_map, steps_then}

module _ (s : Story) (at : ℕ) (piece : List ℕ) (rest : is_synced s.events ≡ true) where
  now : (c : List ℕ) → Leaves s.image s.events c → Torn at (length piece) (seen s) c
  now c left = subst (Torn at (length piece) (seen s)) (sym (only s.image s.events c rest left)) (torn_same at (length piece) (seen s))

  torn : (c d : List ℕ) → Leaves s.image s.events d → Torn at (length piece) d c → Torn at (length piece) (seen s) c
  torn c d left cut = subst (λ d. Torn at (length piece) d c) (only s.image s.events d rest left) cut

  wrote : Moments (Torn at (length piece) (seen s)) s (with_events (Wrote at piece ∷ []) s)
  wrote = moments_one (Torn at (length piece) (seen s)) (Wrote at piece) s now (λ c left. torn c left.0 left.1 left.2)

  done : (c : List ℕ) → c ≡ put at piece (seen s) → Torn at (length piece) (seen s) c
  done c is = subst (Torn at (length piece) (seen s)) (sym is) (put_torn at piece (seen s))

  synced : Moments (Torn at (length piece) (seen s)) s (with_events (put_down at piece) s)
  synced = record {
    image = refl;
    more = put_down at piece;
    events = refl;
    always = (done, (λ c left. torn c left.0 left.1 left.2, now));
  }

  tore : (left : List ℕ) → Torn at (length piece) (seen s) left → Moments (Torn at (length piece) (seen s)) s (with_events (Tore at (length piece) left ∷ []) s)
  tore left cut = moments_one (Torn at (length piece) (seen s)) (Tore at (length piece) left) s now (λ c l. elim l [
    | inl is ↦ subst (Torn at (length piece) (seen s)) (sym is) cut
    | inr d ↦ torn c d.0 d.1 d.2
  ])

  write_failed : (e : Failed) (s' : Story) → Writes {T = Unit {0}} {E = Failed} at piece (Err e) s s' → Moments (Torn at (length piece) (seen s)) s s'
  write_failed e s' (inl same) = subst (Moments (Torn at (length piece) (seen s)) s) (sym same) (moments_none (Torn at (length piece) (seen s)) s now)
  write_failed e s' (inr (inl is)) = subst (Moments (Torn at (length piece) (seen s)) s) (sym is) wrote
  write_failed e s' (inr (inr is)) = subst (Moments (Torn at (length piece) (seen s)) s) (sym is.2) (tore is.0 is.1)

  sync_failed : (u : Unit {0}) (e : Failed) (s₁ s₂ : Story) → Writes {T = Unit {0}} {E = Failed} at piece (Ok u) s s₁ → Syncs {T = Unit {0}} {E = Failed} (Err e) s₁ s₂ → Moments (Torn at (length piece) (seen s)) s s₂
  sync_failed u e s₁ s₂ w (inl same) = subst (Moments (Torn at (length piece) (seen s)) s) (sym (same ∙ w)) wrote
  sync_failed u e s₁ s₂ w (inr is) = subst (Moments (Torn at (length piece) (seen s)) s) (sym (is ∙ ap (with_events (Synced ∷ [])) w)) synced

  put_synced : (u : Unit {0}) (r : Result (Unit {0}) Failed) (s₁ s₂ : Story) → Writes {T = Unit {0}} {E = Failed} at piece (Ok u) s s₁ → Syncs r s₁ s₂ → PutsDown at piece r s s₂
  put_synced u (Ok v) s₁ s₂ w is =
      let whole : s₂ ≡ with_events (put_down at piece) s = is ∙ ap (with_events (Synced ∷ [])) w in
      record { moments = subst (Moments (Torn at (length piece) (seen s)) s) (sym whole) synced; done = whole }
  put_synced u (Err e) s₁ s₂ w is = record { moments = sync_failed u e s₁ s₂ w is; done = tt }

pub put_down_failed : (o o₁ : Option Story) (at : ℕ) (piece : List ℕ) (e : Failed) → IsTrue (rests o) → Told (Writes {T = Unit {0}} {E = Failed} at piece (Err e)) o o₁ → Told (PutsDown {T = Unit {0}} {E = Failed} at piece (Err e)) o o₁
put_down_failed None o₁ at piece e rest w = w
put_down_failed (Some s) o₁ at piece e rest w = (w.0, w.1, record { moments = write_failed s at piece rest e w.0 w.2; done = tt })

pub put_down_done : (o o₁ o₂ : Option Story) (at : ℕ) (piece : List ℕ) (u : Unit {0}) (r : Result (Unit {0}) Failed) → IsTrue (rests o) → Told (Writes {T = Unit {0}} {E = Failed} at piece (Ok u)) o o₁ → Told (Syncs r) o₁ o₂ → Told (PutsDown at piece r) o o₂
put_down_done None o₁ o₂ at piece u r rest w y = subst (λ o. Told (Syncs r) o o₂) w y
put_down_done (Some s) o₁ o₂ at piece u r rest w y =
    let z : Told (Syncs r) (Some w.0) o₂ = subst (λ o. Told (Syncs r) o o₂) w.1 y in
    (z.0, z.1, put_synced s at piece rest u r w.0 z.0 w.2 z.2)

pub put_down_rests : (o o' : Option Story) (at : ℕ) (piece : List ℕ) (r : Result (Unit {0}) Failed) → Told (PutsDown at piece r) o o' → OnOk r (IsTrue (rests o'))
put_down_rests o o' at piece (Err e) told = tt
put_down_rests None o' at piece (Ok u) told = subst (λ o. IsTrue (rests o)) (sym told) refl
put_down_rests (Some s) o' at piece (Ok u) told = subst (λ o. IsTrue (rests o)) (sym (told.1 ∙ ap Some told.2.done)) refl

-- closing
closed_story : (s : Story) (at : ℕ) → is_synced s.events ≡ true → Closes {T = Unit {0}} {E = Failed} at true (Ok tt) s s
closed_story s at rest = record {
  moments = moments_none (λ c. (c ≡ seen s) ⊎ ((true ≡ false) × Torn at 1 (seen s) c)) s (λ c left. inl (only s.image s.events c rest left));
  done = refl;
}

pub closed_already : (o : Option Story) (at : ℕ) (shut : Bool) → shut ≡ true → IsTrue (rests o) → Told (Closes {T = Unit {0}} {E = Failed} at shut (Ok tt)) o o
closed_already None at shut is rest = refl
closed_already (Some s) at true is rest = (s, refl, closed_story s at rest)
closed_already (Some s) at false is rest = absurd (false≢true is)

pub closes_now : (o o' : Option Story) (at : ℕ) (shut : Bool) (r : Result (Unit {0}) Failed) → shut ≡ false → Told (PutsDown at (0 ∷ []) r) o o' → Told (Closes at shut r) o o'
closes_now None o' at shut r is told = told
closes_now (Some s) o' at true r is told = absurd (false≢true (sym is))
closes_now (Some s) o' at false r is told =
    (told.0, told.1, steps_map (Torn at 1 (seen s)) (λ c. (c ≡ seen s) ⊎ ((false ≡ false) × Torn at 1 (seen s) c)) (put_down at (0 ∷ [])) r s told.0 (λ c torn. inr (refl, torn)) told.2)

pub closes_rests : (o o' : Option Story) (at : ℕ) (shut : Bool) (r : Result (Unit {0}) Failed) → IsTrue (rests o) → Told (Closes at shut r) o o' → OnOk r (IsTrue (rests o'))
closes_rests o o' at shut (Err e) rest told = tt
closes_rests None o' at shut (Ok u) rest told = subst (λ o. IsTrue (rests o)) (sym told) refl
closes_rests (Some s) o' at true (Ok u) rest told = subst (λ o. IsTrue (rests o)) (sym (told.1 ∙ ap Some told.2.done)) rest
closes_rests (Some s) o' at false (Ok u) rest told = subst (λ o. IsTrue (rests o)) (sym (told.1 ∙ ap Some told.2.done)) refl

-- opening
abbrev Opening : ℕ → List ℕ → List ℕ → List ℕ → Type 0
Opening at bytes before c = Torn (at + 1) (length bytes) before c ⊎ Torn at 1 (put (at + 1) bytes before) c

pub fill_failed : (o o' : Option Story) (at : ℕ) (bytes : List ℕ) (e : Failed) → Told (PutsDown {T = Unit {0}} {E = Failed} (at + 1) bytes (Err e)) o o' → Told (Opens {T = Unit {0}} {E = Failed} at bytes (Err e)) o o'
fill_failed None o' at bytes e told = told
fill_failed (Some s) o' at bytes e told = (
  told.0,
  told.1,
  record {
    moments = moments_map (Torn (at + 1) (length bytes) (seen s)) (Opening at bytes (seen s)) s told.0 (λ c torn. inl torn) told.2.moments;
    done = tt;
  },
)

opened_story : (s m n : Story) (at : ℕ) (bytes : List ℕ) (r : Result (Unit {0}) Failed) → PutsDown {T = Unit {0}} {E = Failed} (at + 1) bytes (Ok tt) s m → PutsDown at (1 ∷ []) r m n → Opens at bytes r s n
opened_story s m n at bytes r first second =
    let is : seen m ≡ put (at + 1) bytes (seen s) = ap seen first.done in
    steps_then (Opening at bytes (seen s)) (put_down (at + 1) bytes) (put_down at (1 ∷ [])) tt r s m n
    (steps_map (Torn (at + 1) (length bytes) (seen s)) (Opening at bytes (seen s)) (put_down (at + 1) bytes) (Ok tt) s m (λ c torn. inl torn) first)
    (steps_map (Torn at 1 (seen m)) (Opening at bytes (seen s)) (put_down at (1 ∷ [])) r m n (λ c torn. inr (subst (λ d. Torn at 1 d c) is torn)) second)

pub fill_opened : (o o₁ o₂ : Option Story) (at : ℕ) (bytes : List ℕ) (r : Result (Unit {0}) Failed) → Told (PutsDown {T = Unit {0}} {E = Failed} (at + 1) bytes (Ok tt)) o o₁ → Told (PutsDown at (1 ∷ []) r) o₁ o₂ → Told (Opens at bytes r) o o₂
fill_opened None o₁ o₂ at bytes r first second = subst (λ o. Told (PutsDown at (1 ∷ []) r) o o₂) first second
fill_opened (Some s) o₁ o₂ at bytes r first second =
    let z : Told (PutsDown at (1 ∷ []) r) (Some first.0) o₂ = subst (λ o. Told (PutsDown at (1 ∷ []) r) o o₂) first.1 second in
    (z.0, z.1, opened_story s first.0 z.0 at bytes r first.2 z.2)

-- both
closing_leaves : (at : ℕ) (shut : Bool) (bytes before c : List ℕ) → (c ≡ before) ⊎ ((shut ≡ false) × Torn at 1 before c) → MayLeave at shut bytes before c
closing_leaves at shut bytes before c (inr torn) = inl torn
closing_leaves at true bytes before c (inl is) = inr (inl (subst (Torn (at + 1) (length bytes) before) (sym is) (torn_same (at + 1) (length bytes) before)))
closing_leaves at false bytes before c (inl is) = inl (refl, subst (Torn at 1 before) (sym is) (torn_same at 1 before))

pub close_failed : (o o' : Option Story) (at : ℕ) (shut : Bool) (bytes : List ℕ) (e : Failed) → Told (Closes {T = Unit {0}} {E = Failed} at shut (Err e)) o o' → Told (Gates {T = Unit {0}} {E = Failed} at shut bytes (Err e)) o o'
close_failed None o' at shut bytes e told = told
close_failed (Some s) o' at shut bytes e told = (
  told.0,
  told.1,
  record {
    moments = moments_map (λ c. (c ≡ seen s) ⊎ ((shut ≡ false) × Torn at 1 (seen s) c)) (MayLeave at shut bytes (seen s)) s told.0 (closing_leaves at shut bytes (seen s)) told.2.moments;
    done = tt;
  },
)

seen_closed : (s m : Story) (at : ℕ) (shut : Bool) → m ≡ with_events (closing at shut) s → seen m ≡ gate_closed at shut (seen s)
seen_closed s m at true is = ap seen is
seen_closed s m at false is = ap seen is

gated_story : (s m n : Story) (at : ℕ) (shut : Bool) (bytes : List ℕ) (r : Result (Unit {0}) Failed) → Closes {T = Unit {0}} {E = Failed} at shut (Ok tt) s m → Opens at bytes r m n → Gates at shut bytes r s n
gated_story s m n at shut bytes r first second =
    let is : seen m ≡ gate_closed at shut (seen s) = seen_closed s m at shut first.done in
    steps_then (MayLeave at shut bytes (seen s)) (closing at shut) (opening at bytes) tt r s m n
    (steps_map (λ c. (c ≡ seen s) ⊎ ((shut ≡ false) × Torn at 1 (seen s) c)) (MayLeave at shut bytes (seen s)) (closing at shut) (Ok tt) s m (closing_leaves at shut bytes (seen s)) first)
    (steps_map (Opening at bytes (seen m)) (MayLeave at shut bytes (seen s)) (opening at bytes) r m n (λ c torn. inr (subst (λ d. Opening at bytes d c) is torn)) second)

pub closed_opened : (o o₁ o₂ : Option Story) (at : ℕ) (shut : Bool) (bytes : List ℕ) (r : Result (Unit {0}) Failed) → Told (Closes {T = Unit {0}} {E = Failed} at shut (Ok tt)) o o₁ → Told (Opens at bytes r) o₁ o₂ → Told (Gates at shut bytes r) o o₂
closed_opened None o₁ o₂ at shut bytes r first second = subst (λ o. Told (Opens at bytes r) o o₂) first second
closed_opened (Some s) o₁ o₂ at shut bytes r first second =
    let z : Told (Opens at bytes r) (Some first.0) o₂ = subst (λ o. Told (Opens at bytes r) o o₂) first.1 second in
    (z.0, z.1, gated_story s first.0 z.0 at shut bytes r first.2 z.2)

pub gates_rest : (o o' : Option Story) (at : ℕ) (shut : Bool) (bytes : List ℕ) (r : Result (Unit {0}) Failed) → Told (Gates at shut bytes r) o o' → OnOk r (IsTrue (rests o'))
gates_rest o o' at shut bytes (Err e) told = tt
gates_rest None o' at shut bytes (Ok u) told = subst (λ o. IsTrue (rests o)) (sym told) refl
gates_rest (Some s) o' at shut bytes (Ok u) told = subst (λ o. IsTrue (rests o)) (sym (told.1 ∙ ap Some told.2.done)) refl

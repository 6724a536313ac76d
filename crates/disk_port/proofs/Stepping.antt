-- From moment to moment.
use Rattle.std.proofs.Common.{◌≡◌, ℕ, List, [], ◌∷◌, ◌++◌, true, Result, Ok, Err, refl, ap, sym, ◌∙◌, subst, append_assoc}
use Rattle.disk_port.specs.Story.{Event, Wrote, Tore, Synced, Story, readable, with_events, is_synced}
use Rattle.disk_port.specs.Crash.{Leaves}
use Rattle.disk_port.specs.Moments.{Always, Moments, Steps}

-- at rest, a crash leaves what is read
pub only : (image : List ℕ) (events : List Event) (c : List ℕ) → is_synced events ≡ true → Leaves image events c → c ≡ readable image events
only image [] c rest left = left
only image (Wrote at piece ∷ events) c rest left = cc
only image (Tore at n piece ∷ events) c rest left = cc
only image (Synced ∷ events) c rest left = left

always_map : (P Q : List ℕ → Type 0) (image : List ℕ) (events more : List Event) → ((c : List ℕ) → P c → Q c) → Always P image events more → Always Q image events more
always_map P Q image events [] to all = λ c left. to c (all c left)
always_map P Q image events (event ∷ more) to all = (λ c left. to c (all.0 c left), always_map P Q image events more to all.1)

always_then : (P : List ℕ → Type 0) (image : List ℕ) (events first second : List Event) → Always P image events first → Always P image (first ++ events) second → Always P image events (second ++ first)
always_then P image events first [] a b = a
always_then P image events first (event ∷ second) a b = (
  subst (λ es. (c : List ℕ) → Leaves image (event ∷ es) c → P c) (sym (append_assoc second first events)) b.0,
  always_then P image events first second a b.1,
)

pub moments_map : (P Q : List ℕ → Type 0) (s s' : Story) → ((c : List ℕ) → P c → Q c) → Moments P s s' → Moments Q s s'
moments_map P Q s s' to m = record {
  image = m.image;
  more = m.more;
  events = m.events;
  always = always_map P Q s.image s.events m.more to m.always;
}

pub moments_then : (P : List ℕ → Type 0) (s m n : Story) → Moments P s m → Moments P m n → Moments P s n
moments_then P s m n a b = record {
  image = b.image ∙ a.image;
  more = b.more ++ a.more;
  events = b.events ∙ ap (λ es. b.more ++ es) a.events ∙ sym (append_assoc b.more a.more s.events);
  always = always_then P s.image s.events a.more b.more a.always
      (subst (λ es. Always P s.image es b.more) a.events (subst (λ image. Always P image m.events b.more) a.image b.always));
}

-- nothing came
pub moments_none : (P : List ℕ → Type 0) (s : Story) → ((c : List ℕ) → Leaves s.image s.events c → P c) → Moments P s s
moments_none P s now = record { image = refl; more = []; events = refl; always = now }

-- one event came
pub moments_one : (P : List ℕ → Type 0) (event : Event) (s : Story) → ((c : List ℕ) → Leaves s.image s.events c → P c) → ((c : List ℕ) → Leaves s.image (event ∷ s.events) c → P c) → Moments P s (with_events (event ∷ []) s)
moments_one P event s now later = record { image = refl; more = event ∷ []; events = refl; always = (later, now) }

module _ {T E : Type 0} where
  pub steps_map : (P Q : List ℕ → Type 0) (events : List Event) (r : Result T E) (s s' : Story) → ((c : List ℕ) → P c → Q c) → Steps P events r s s' → Steps Q events r s s'
  steps_map P Q events r s s' to st = record { moments = moments_map P Q s s' to st.moments; done = st.done }

  -- a call that failed ends the steps
  pub steps_failed : (P : List ℕ → Type 0) (events more : List Event) (e : E) (s s' : Story) → Steps {T = T} {E = E} P events (Err e) s s' → Steps {T = T} {E = E} P more (Err e) s s'
  steps_failed P events more e s s' st = record { moments = st.moments; done = tt }

  pub steps_then : (P : List ℕ → Type 0) (first second : List Event) (u : T) (r : Result T E) (s m n : Story) → Steps {T = T} {E = E} P first (Ok u) s m → Steps P second r m n → Steps P (second ++ first) r s n
  steps_then P first second u (Ok v) s m n a b = record {
    moments = moments_then P s m n a.moments b.moments;
    done = b.done ∙ ap (with_events second) a.done ∙ ap (λ es. record s { events = es }) (sym (append_assoc second first s.events));
  }
  steps_then P first second u (Err e) s m n a b = record { moments = moments_then P s m n a.moments b.moments; done = tt }

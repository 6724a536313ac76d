-- What holds of all that a crash may leave at each moment from an earlier story to a later one.
use Rattle.std.specs.Prelude.{◌≡◌, ℕ, List, [], ◌∷◌, ◌++◌, Result, OnOk}
use Rattle.disk_port.specs.Story.{Event, Story, with_events}
use Rattle.disk_port.specs.Crash.{Leaves}

-- of each that it may leave before further events and after each of them
abbrev pub Always : (List ℕ → Type 0) → List ℕ → List Event → List Event → Type 0
Always P image events [] = (c : List ℕ) → Leaves image events c → P c
Always P image events (event ∷ more) = ((c : List ℕ) → Leaves image (event ∷ (more ++ events)) c → P c) × Always P image events more

pub record Moments (P : List ℕ → Type 0) (old new : Story) : Type 0 where
  pub image : new.image ≡ old.image
  pub more : List Event
  pub events : new.events ≡ more ++ old.events
  pub always : Always P old.image old.events more

-- a crash at any moment of a call leaves what has P, and where the call is done, just these events came
pub record Steps {T E : Type 0} (P : List ℕ → Type 0) (events : List Event) (result : Result T E) (old new : Story) : Type 0 where
  pub moments : Moments P old new
  pub done : OnOk result (new ≡ with_events events old)

-- What is made ready of a file that was read.
use Rattle.std.specs.Prelude.{◌≡◌, ℕ, List, [], if◌then◌else◌, Result}
use Rattle.disk_port.specs.Story.{Event, Story, seen}
use Rattle.disk_port.specs.Moments.{Steps}
use Rattle.credential_store.specs.Image.{credential_at, commit_events}
use Rattle.credential_store.specs.declared.loading.Loaded.{Loaded}

-- a body of version 1 is written anew, and a crash at any moment leaves what stands for the same
abbrev pub ready_events : Loaded → List ℕ → List Event
ready_events l image = if l.old then commit_events l.credential image else []

abbrev pub MakesReady : {T E : Type 0} → Loaded → Result T E → Story → Story → Type 0
MakesReady l result old new = Steps (λ c. credential_at c ≡ credential_at (seen old)) (ready_events l (seen old)) result old new

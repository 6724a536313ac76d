-- What each call on a disk does to what the disk tells; one that does not tell has None, before and after.
use Rattle.std.specs.Prelude.{◌≡◌, ◌≤◌, ◌⊎◌, ℕ, ◌-◌, List, [], ◌∷◌, ◌++◌, length, take, drop, min, Bool, true, Option, Some, None, Result, Ok, Err}
use Rattle.disk_port.specs.Story.{Story, Wrote, Tore, Synced, seen, with_events, is_synced}
use Rattle.disk_port.specs.Crash.{Torn}

-- this holds of what is told
abbrev pub IfTold : (Story → Type 0) → Option Story → Type 0
IfTold P None = Unit {0}
IfTold P (Some s) = P s

-- what is told goes on so
abbrev pub Told : (Story → Story → Type 0) → Option Story → Option Story → Type 0
Told R None told' = told' ≡ None
Told R (Some s) told' = (s' : Story) × (told' ≡ Some s') × R s s'

-- a crash now leaves what is read, where that is told
abbrev pub rests : Option Story → Bool
rests None = true
rests (Some s) = is_synced s.events

-- a write is cut short, and something is read after it
abbrev pub IsTorn : ℕ → List ℕ → Story → Story → Type 0
IsTorn at piece s s' = (left : List ℕ) × Torn at (length piece) (seen s) left × (s' ≡ with_events (Tore at (length piece) left ∷ []) s)

-- a write is done, or it failed: then it is undone, done or torn
abbrev pub Writes : {T E : Type 0} → ℕ → List ℕ → Result T E → Story → Story → Type 0
Writes at piece (Ok _) s s' = s' ≡ with_events (Wrote at piece ∷ []) s
Writes at piece (Err _) s s' = (s' ≡ s) ⊎ ((s' ≡ with_events (Wrote at piece ∷ []) s) ⊎ IsTorn at piece s s')

-- a sync is done, or it failed: then it is undone or done
abbrev pub Syncs : {T E : Type 0} → Result T E → Story → Story → Type 0
Syncs (Ok _) s s' = s' ≡ with_events (Synced ∷ []) s
Syncs (Err _) s s' = (s' ≡ s) ⊎ (s' ≡ with_events (Synced ∷ []) s)

-- n bytes are copied from a place to the front of a buffer: as many as stand there and fit
pub record Copies (at : ℕ) (into into' : List ℕ) (n : ℕ) (bytes : List ℕ) : Type 0 where
  pub count : n ≡ min (length into) (length bytes - at)
  pub copied : into' ≡ take n (drop at bytes) ++ drop n into

-- a read gives bytes, or fails
abbrev pub ReadsAt : {E : Type 0} → ℕ → List ℕ → List ℕ → Result ℕ E → Option Story → Type 0
ReadsAt at into into' (Ok n) told = (n ≤ length into) × IfTold (λ s. Copies at into into' n (seen s)) told
ReadsAt at into into' (Err _) told = Unit {0}

-- the length is that of what is read, or the call fails
abbrev pub TellsLength : {E : Type 0} → Result ℕ E → Option Story → Type 0
TellsLength (Ok n) told = IfTold (λ s. n ≡ length (seen s)) told
TellsLength (Err _) told = Unit {0}

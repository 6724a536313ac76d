-- What a call does to its object's count of faults.
use Rattle.std.specs.Prelude.{◌≡◌, ℕ, Result, Ok, Err}
use Rattle.port_base.specs.Count.{Rises}

-- a call leaves the count where it succeeds, and raises it where it fails
abbrev pub Counts : {T E : Type 0} → ℕ → ℕ → Result T E → Type 0
Counts before now (Ok _) = now ≡ before
Counts before now (Err _) = Rises before now

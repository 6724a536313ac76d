-- The count of an object's faults, which never falls.
use Rattle.std.specs.Prelude.{ℕ, ◌+◌, ◌-◌, ◌^◌, ◌≤◌, min}

-- the count rose, or stands at its last value
abbrev pub Rose : ℕ → ℕ → Type 0
Rose before now = min (before + 1) (2 ^ 64 - 1) ≤ now

-- a call failed: the count rose and did not fall
pub record Rises (before now : ℕ) : Type 0 where
  pub rose : Rose before now
  pub later : before ≤ now

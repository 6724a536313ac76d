-- Which keys a suite holds.
use Rattle.std.specs.Prelude.{◌≡◌, ◌⊎◌, ℕ, List, Bool, true}

-- one more key is held, and no other
pub record Adds (before now : List ℕ → Bool) (key : List ℕ) : Type 0 where
  pub added : now key ≡ true
  pub kept : (other : List ℕ) → before other ≡ true → now other ≡ true
  pub only : (other : List ℕ) → now other ≡ true → (before other ≡ true) ⊎ (other ≡ key)

-- A source of random draws, as contracts see it.
use Rattle.std.specs.Prelude.{ℕ, List, Result, Option}
use Rattle.port_base.specs.Told.{Answers}
use Rattle.fdo_ports.specs.Count.{Counts}
use Rattle.fdo_ports.specs.declared.failed.Failed.{Failed}
use Rattle.fdo_ports.specs.declared.random.Random.{Ghosts as Random}

-- the draws given so far, where they are told, and how many draws failed
pub record Drawn : Type 0 where
  pub draws : Option (List (List ℕ))
  pub faults : ℕ

-- what a source of a type tells, by the type's `Random`
abbrev pub drawn : {X : Type 0} → Random X → X → Drawn
drawn told source = record { draws = told.draws source; faults = told.faults source }

-- one draw: it is given, or the count of faults rises
abbrev pub Draws : Drawn → Result (List ℕ) Failed → Drawn → Type 0
Draws before draw after = Answers before.draws after.draws draw × Counts before.faults after.faults draw

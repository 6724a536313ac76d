-- A suite, as contracts see it.
use Rattle.std.specs.Prelude.{ℕ, List, Bool, Option}
use Rattle.port_base.specs.Told.{grown}
use Rattle.suite_port.specs.Asked.{Ask}
use Rattle.suite_port.specs.declared.holder.Holder.{Ghosts as Holder}

-- the keys that it holds, its count of faults, and what it was asked, where it tells
pub record Keys : Type 0 where
  pub held : List ℕ → Bool
  pub faults : ℕ
  pub asked : Option (List Ask)

-- those of a suite of a type, by the type's `Holder`
abbrev pub keys : {X : Type 0} → Holder X → X → Keys
keys told suite = record { held = told.held suite; faults = told.faults suite; asked = told.asked suite }

-- it is asked these, and nothing else is done to it
abbrev pub asking : Keys → List Ask → Keys
asking suite asks = record { held = suite.held; faults = suite.faults; asked = grown suite.asked asks }

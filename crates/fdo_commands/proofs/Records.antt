-- What a suite tells, by its parts.
use Rattle.std.proofs.Common.{ℕ, Bool, List, Option}
use Rattle.suite_port.specs.Asked.{Ask}
use Rattle.suite_port.specs.Keys.{Keys}

abbrev pub keys_of : (List ℕ → Bool) → ℕ → Option (List Ask) → Keys
keys_of held faults asked = record { held = held; faults = faults; asked = asked }

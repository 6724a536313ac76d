-- What the laboratory suite holds, and the calls that came to it.
use Rattle.std.specs.Prelude.{ℕ, List, Bool, false, true, Result, Ok, Err}
use Rattle.std.specs.List.{list_any}
use Rattle.std.specs.Str.{bytes_eq}
use Rattle.std.specs.declared.vec.Vec.{Vec}
use Rattle.std.specs.declared.alloc.Global.{Global}
use Rattle.port_base.specs.declared.calls.Calls.{Calls}
use Rattle.suite_port.specs.declared.fault.SuiteFault.{SuiteFault}
use Rattle.suite_port.specs.declared.fault.SuiteFault.TheVariants as faults
use Rattle.suite_port.specs.declared.lab_suite.LabSuite.{LabSuite}

-- a key is among those that were loaded
abbrev pub has_key : List (Vec ℕ Global) → List ℕ → Bool
has_key keys key = list_any (λ held. bytes_eq held.items key) keys

abbrev pub lab_held : LabSuite → List ℕ → Bool
lab_held s = has_key s.keys.items

-- the calls of load, sign and issue
abbrev pub lab_calls : LabSuite → Calls
lab_calls s = s.calls

-- a call answered Failed
abbrev pub is_failed : {T : Type 0} → Result T SuiteFault → Bool
is_failed (Ok _) = false
is_failed (Err faults.NoAlgorithm) = false
is_failed (Err faults.Failed) = true
is_failed (Err faults.NoMemory) = false

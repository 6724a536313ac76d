-- What the calls of a suite answer.
use Rattle.std.specs.Prelude.{◌≡◌, ℕ, List, Option, None, Some, Result, Ok, Err, Bool, true, false, if◌then◌else◌}
use Rattle.std.specs.Option.{option_map}
use Rattle.std.specs.declared.vec.Vec.{Vec}
use Rattle.std.specs.declared.alloc.Global.{Global}
use Rattle.port_base.specs.Count.{Rises}
use Rattle.suite_port.specs.declared.fault.SuiteFault.{SuiteFault}
use Rattle.suite_port.specs.declared.fault.SuiteFault.TheVariants as faults

-- an answer that the arguments determine: NoAlgorithm where they determine none; want of memory is always allowed
abbrev pub Answers : {T V : Type 0} → (T → V) → Option V → Result T SuiteFault → Type 0
Answers view told (Ok value) = told ≡ Some (view value)
Answers view told (Err faults.NoAlgorithm) = told ≡ None
Answers view told (Err faults.Failed) = ⊥
Answers view told (Err faults.NoMemory) = Unit {0}

-- NoAlgorithm exactly where the arguments are unknown to the suite, unless the call fails or memory is wanted
abbrev pub Decides : {T : Type 0} → Bool → Result T SuiteFault → Type 0
Decides known (Ok _) = known ≡ true
Decides known (Err faults.NoAlgorithm) = known ≡ false
Decides known (Err faults.Failed) = Unit {0}
Decides known (Err faults.NoMemory) = Unit {0}

-- the count rises exactly where a call answers Failed
abbrev pub Counts : {T : Type 0} → ℕ → ℕ → Result T SuiteFault → Type 0
Counts before now (Ok _) = now ≡ before
Counts before now (Err faults.NoAlgorithm) = now ≡ before
Counts before now (Err faults.Failed) = Rises before now
Counts before now (Err faults.NoMemory) = now ≡ before

abbrev pub itself : Bool → Bool
itself answer = answer

abbrev pub bytes_of : Vec ℕ Global → List ℕ
bytes_of answer = answer.items

abbrev pub maybe_bytes_of : Option (Vec ℕ Global) → Option (List ℕ)
maybe_bytes_of answer = option_map (λ (bytes : Vec ℕ Global). bytes.items) answer

abbrev pub two_bytes_of : Vec ℕ Global × Vec ℕ Global → List ℕ × List ℕ
two_bytes_of answer = (answer.0.items, answer.1.items)

-- a value where something is known
abbrev pub only_if : {V : Type 0} → Bool → V → Option V
only_if known value = if known then Some value else None

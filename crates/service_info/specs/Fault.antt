-- What the calls on ServiceInfo answer.
use Rattle.std.specs.Prelude.{◌≡◌, Option, Some, None, Result, Ok, Err}
use Rattle.service_info.specs.declared.info_fault.InfoFault.{InfoFault}
use Rattle.service_info.specs.declared.info_fault.InfoFault.TheVariants as fault

-- why a call refuses, where it does
abbrev pub fault_of : {A : Type 0} → Result A InfoFault → Option InfoFault
fault_of (Ok _) = None
fault_of (Err f) = Some f

-- a call answers what is told, unless memory runs out
abbrev pub Fails : {A : Type 0} → Result A InfoFault → InfoFault → Type 0
Fails told fault.NoMemory = Unit {0}
Fails told f = told ≡ Err f

abbrev pub Answers : {A : Type 0} → Result A InfoFault → Result A InfoFault → Type 0
Answers told (Ok value) = told ≡ Ok value
Answers told (Err f) = Fails told f

-- the same, of what is answered seen by `view`
abbrev pub AnswersAs : {X Y : Type 0} → (X → Y) → Result Y InfoFault → Result X InfoFault → Type 0
AnswersAs view told (Ok value) = told ≡ Ok (view value)
AnswersAs view told (Err f) = Fails told f

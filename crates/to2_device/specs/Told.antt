-- What a check tells.
use Rattle.std.specs.Prelude.{◌≡◌, Result, Ok, Err}
use Rattle.fdo_msgs.specs.declared.cause.Cause.{Cause}
use Rattle.fdo_rules.specs.declared.unfit.Unfit.{Unfit}
use Rattle.fdo_rules.specs.declared.unfit.Unfit.TheVariants as unfit

-- a call gives what a check comes to, or memory runs out
abbrev pub Tells : {A : Type 0} → Result A Cause → Result A Unfit → Type 0
Tells told (Ok value) = told ≡ Ok value
Tells told (Err (unfit.For e)) = told ≡ Err e
Tells told (Err unfit.NoMemory) = Unit {0}

-- that a check holds, whatever it gives
abbrev pub Holds : {A B : Type 0} → (B → A) → Result A Cause → Result B Unfit → Type 0
Holds view told (Ok value) = told ≡ Ok (view value)
Holds view told (Err (unfit.For e)) = told ≡ Err e
Holds view told (Err unfit.NoMemory) = Unit {0}

-- What a check tells: the first cause of a refusal, unless memory runs out.
use Rattle.std.specs.Prelude.{◌≡◌, ℕ, IsSome, Result, Ok, Err}
use Rattle.fdo_msgs.specs.Cause.{code_of}
use Rattle.fdo_msgs.specs.declared.cause.Cause.{Cause}
use Rattle.fdo_rules.specs.declared.unfit.Unfit.{Unfit}
use Rattle.fdo_rules.specs.declared.unfit.Unfit.TheVariants as unfit

-- at a message of any type an error message is sent for it
abbrev pub HasCode : Cause → Type 0
HasCode e = (kind : ℕ) → IsSome (code_of e kind)

-- a call gives what a check comes to, or memory runs out
abbrev pub Checks : {A : Type 0} → Result A Cause → Result A Unfit → Type 0
Checks told (Ok value) = told ≡ Ok value
Checks told (Err (unfit.For e)) = (told ≡ Err e) × HasCode e
Checks told (Err unfit.NoMemory) = Unit {0}

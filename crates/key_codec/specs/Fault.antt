-- What readers answer.
use Rattle.std.specs.Prelude.{◌≡◌, Option, Some, None, Result, Ok, Err, ok_or}
use Rattle.key_codec.specs.declared.fault.KeyFault.{KeyFault}
use Rattle.key_codec.specs.declared.fault.KeyFault.TheVariants as fault

infixl 10 ◌>>=◌
abbrev pub ◌>>=◌ : {A B : Type 0} → Result A KeyFault → (A → Result B KeyFault) → Result B KeyFault
(Ok x) >>= f = f x
(Err e) >>= f = Err e

-- a part that is there; without it the whole is not of its shape
abbrev pub shaped : {A : Type 0} → Option A → Result A KeyFault
shaped part = ok_or part fault.BadShape

-- what is said, where nothing is at fault
abbrev pub ok_of : {A : Type 0} → Result A KeyFault → Option A
ok_of (Ok x) = Some x
ok_of (Err f) = None

-- what a reader answers is what the item says, want of memory aside
abbrev pub Fails : {Y : Type 0} → KeyFault → Result Y KeyFault → Type 0
Fails fault.NoMemory said = Unit {0}
Fails f said = said ≡ Err f

abbrev pub Says : {X Y : Type 0} → (X → Y) → Result X KeyFault → Result Y KeyFault → Type 0
Says view (Ok x) said = said ≡ Ok (view x)
Says view (Err f) said = Fails f said

-- What the calls on envelopes answer.
use Rattle.std.specs.Prelude.{◌≡◌, ℕ, ℤ, Option, Some, None, Result, Ok, Err}
use Rattle.cbor_core.specs.declared.fault.CborFault.{CborFault}
use Rattle.cbor_core.specs.declared.fault.CborFault.TheVariants as cbor
use Rattle.cbor_core.specs.Whole.{place_of}
use Rattle.cose_envelopes.specs.declared.fault.CoseFault.{CoseFault}
use Rattle.cose_envelopes.specs.declared.fault.CoseFault.TheVariants as fault

-- then, where there is a value
infixl 10 ◌>>=◌
abbrev pub ◌>>=◌ : {A B : Type 0} → Option A → (A → Option B) → Option B
(Some x) >>= f = f x
None >>= f = None

-- a fault of CBOR as one of the shape
abbrev pub IsShape : CborFault → CoseFault → Type 0
IsShape cbor.NoMemory found = found ≡ fault.NoMemory
IsShape f found = found ≡ fault.BadShape (place_of f)

-- a reader answers what the bytes say, or the place of their first fault, want of memory aside
abbrev pub Reads : {A : Type 0} → Result A ℕ → Result A CoseFault → Type 0
Reads said (Ok value) = said ≡ Ok value
Reads said (Err (fault.BadShape place)) = said ≡ Err place
Reads said (Err fault.NoMemory) = Unit {0}
Reads said (Err f) = ⊥

-- a call answers what is told, want of memory aside
abbrev pub Fails : {A : Type 0} → Result A CoseFault → CoseFault → Type 0
Fails told fault.NoMemory = Unit {0}
Fails told f = told ≡ Err f

abbrev pub Answers : {A : Type 0} → Result A CoseFault → Result A CoseFault → Type 0
Answers told (Ok value) = told ≡ Ok value
Answers told (Err f) = Fails told f

-- the refusal of an algorithm that the suite does not have
abbrev pub known : {A : Type 0} → ℤ → Option A → Result A CoseFault
known alg (Some value) = Ok value
known alg None = Err (fault.NoAlgorithm alg)

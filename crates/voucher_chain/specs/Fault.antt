-- What the calls on vouchers answer.
use Rattle.std.specs.Prelude.{◌≡◌, ℕ, List, [], ◌∷◌, Option, Some, None, Result, Ok, Err}
use Rattle.cbor_core.specs.declared.fault.CborFault.{CborFault}
use Rattle.cbor_core.specs.declared.fault.CborFault.TheVariants as cbor
use Rattle.cbor_core.specs.Whole.{place_of}
use Rattle.voucher_chain.specs.declared.fault.ChainFault.{ChainFault}
use Rattle.voucher_chain.specs.declared.fault.ChainFault.TheVariants as fault

-- then, where there is a value
infixl 10 ◌>>=◌
abbrev pub ◌>>=◌ : {A B : Type 0} → Option A → (A → Option B) → Option B
(Some x) >>= f = f x
None >>= f = None

-- the values of all, where each has one
abbrev pub all_in : {X A : Type 0} → (X → Option A) → List X → Option (List A)
all_in said [] = Some []
all_in said (x ∷ xs) = said x >>= λ value. all_in said xs >>= λ values. Some (value ∷ values)

-- the first of two that is there
abbrev pub or_else : {A : Type 0} → Option A → Option A → Option A
or_else (Some x) other = Some x
or_else None other = other

-- the first fault among some
abbrev pub first_fault : {X : Type 0} → (X → Option ℕ) → List X → Option ℕ
first_fault fault [] = None
first_fault fault (x ∷ xs) = or_else (fault x) (first_fault fault xs)

-- a fault, or the place of the whole
abbrev pub place_or : ℕ → Option ℕ → ℕ
place_or at None = at
place_or at (Some place) = place

-- what was read, where nothing is at fault
abbrev pub value_in : {A : Type 0} → Result A ℕ → Option A
value_in (Ok value) = Some value
value_in (Err place) = None

-- a fault of CBOR as one of the shape
abbrev pub IsShape : CborFault → ChainFault → Type 0
IsShape cbor.NoMemory found = found ≡ fault.NoMemory
IsShape f found = found ≡ fault.BadShape (place_of f)

-- a reader answers what the bytes say, or the place of their first fault, out of memory aside
abbrev pub Reads : {A : Type 0} → Result A ℕ → Result A ChainFault → Type 0
Reads said (Ok value) = said ≡ Ok value
Reads said (Err (fault.BadShape place)) = said ≡ Err place
Reads said (Err fault.NoMemory) = Unit {0}
Reads said (Err f) = ⊥

-- a call answers what is told, out of memory aside
abbrev pub Fails : {A : Type 0} → Result A ChainFault → ChainFault → Type 0
Fails told fault.NoMemory = Unit {0}
Fails told f = told ≡ Err f

abbrev pub Answers : {A : Type 0} → Result A ChainFault → Result A ChainFault → Type 0
Answers told (Ok value) = told ≡ Ok value
Answers told (Err f) = Fails told f

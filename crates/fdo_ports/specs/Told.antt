-- What a stream tells of its bytes; one that does not tell has None for them, before and after.
use Rattle.std.specs.Prelude.{◌≡◌, ℕ, ◌<◌, ◌≤◌, List, [], ◌++◌, length, take, Result, Ok, Err, Option, None, Some}
use Rattle.std.specs.Option.{option_map}
use Rattle.port_base.specs.Told.{grown}

-- the bytes left, behind some more
abbrev pub before : List ℕ → Option (List ℕ) → Option (List ℕ)
before bytes left = option_map (λ rest. bytes ++ rest) left

-- no byte is left, where that is told
abbrev pub IsAtEnd : Option (List ℕ) → Type 0
IsAtEnd None = Unit {0}
IsAtEnd (Some bytes) = bytes ≡ []

-- the first n bytes of those that were left stand in a buffer, none of them only at the end
abbrev pub Gives : Option (List ℕ) → Option (List ℕ) → List ℕ → ℕ → Type 0
Gives left left' into n = (n ≤ length into) × (left ≡ before (take n into) left') × (n ≡ 0 → IsAtEnd left')

-- a read gives bytes, or fails and leaves them
abbrev pub Reads : {E : Type 0} → Option (List ℕ) → Option (List ℕ) → List ℕ → Result ℕ E → Type 0
Reads left left' into (Ok n) = Gives left left' into n
Reads left left' into (Err _) = left' ≡ left

-- a write takes a piece's first bytes, one at least
abbrev pub Writes : {E : Type 0} → Option (List ℕ) → Option (List ℕ) → List ℕ → Result ℕ E → Type 0
Writes written written' piece (Ok n) = (0 < n) × (n ≤ length piece) × (written' ≡ grown written (take n piece))
Writes written written' piece (Err _) = written' ≡ written

-- a text is written whole, or a part of it from its front that lacks something at its end
abbrev pub WritesAll : {T E : Type 0} → Option (List ℕ) → Option (List ℕ) → List ℕ → Result T E → Type 0
WritesAll written written' text (Ok _) = written' ≡ grown written text
WritesAll written written' text (Err _) = (n : ℕ) × (n < length text) × (written' ≡ grown written (take n text))

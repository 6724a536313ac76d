-- What a suite was asked, where it tells: the calls that it answered, in order, with their arguments.
use Rattle.std.specs.Prelude.{◌≡◌, ℕ, ℤ, List, [], ◌∷◌, Option, Result, Ok, Err}
use Rattle.port_base.specs.Told.{grown}

pub data Ask : Type 0 where
  Verified : (key : List ℕ) → (alg : ℤ) → (text sig : List ℕ) → Ask
  Loaded : (private : List ℕ) → Ask
  Signed : (key text : List ℕ) → Ask
  Began : (name draw : List ℕ) → Ask
  Seconded : (name draw xa : List ℕ) → Ask
  Finished : (name private xb : List ℕ) → Ask
  Sealed : (alg : ℤ) → (key iv aad plain : List ℕ) → Ask
  Opened : (alg : ℤ) → (key iv aad sealed : List ℕ) → Ask
  LeafRead : (leaf : List ℕ) → Ask
  Issued : (key : List ℕ) → Ask

-- a call that is answered is added to what was asked, and one that is not leaves it
abbrev pub Asks : {T E : Type 0} → Option (List Ask) → Option (List Ask) → Ask → Result T E → Type 0
Asks before after ask (Ok _) = after ≡ grown before (ask ∷ [])
Asks before after ask (Err _) = after ≡ before

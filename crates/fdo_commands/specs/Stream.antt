-- The streams of a command: its input is read to its end, and its output is written.
use Rattle.std.specs.Prelude.{◌≡◌, ℕ, ◌<◌, ◌≤◌, List, length, Option, Result, Ok, Err}
use Rattle.std.specs.declared.vec.Vec.{Vec}
use Rattle.std.specs.declared.alloc.Global.{Global}
use Rattle.port_base.specs.Count.{Rises}
use Rattle.fdo_ports.specs.Told.{IsAtEnd, before}
use Rattle.fdo_commands.specs.declared.input.InputFault.{InputFault}
use Rattle.fdo_commands.specs.declared.input.InputFault.TheVariants as faults
use Rattle.suite_port.specs.Sizes.{most_plain}

-- the most bytes of an input: as many as a text has that is sealed
abbrev pub most_bytes : ℕ
most_bytes = most_plain

-- the bytes were read from the front of what was left
abbrev pub Took : Option (List ℕ) → Option (List ℕ) → List ℕ → Type 0
Took left left' bytes = left ≡ before bytes left'

-- these are all bytes that were left, and no more than the most
pub record TookAll (left left' : Option (List ℕ)) (bytes : List ℕ) : Type 0 where
  pub took : Took left left' bytes
  pub end : IsAtEnd left'
  pub most : length bytes ≤ most_bytes

-- the input is read to its end, or why not
abbrev pub ReadsInput : Option (List ℕ) → Option (List ℕ) → Result (Vec ℕ Global) InputFault → Type 0
ReadsInput left left' (Ok bytes) = TookAll left left' bytes.items
ReadsInput left left' (Err faults.Read) = (bytes : List ℕ) × Took left left' bytes × (length bytes ≤ most_bytes)
ReadsInput left left' (Err faults.Limit) = (bytes : List ℕ) × Took left left' bytes × (most_bytes < length bytes)
ReadsInput left left' (Err faults.NoMemory) = (bytes : List ℕ) × Took left left' bytes

-- its count of faults: it rises where the input fails, and stays elsewhere
abbrev pub InputCounts : ℕ → ℕ → Result (Vec ℕ Global) InputFault → Type 0
InputCounts count count' (Err faults.Read) = Rises count count'
InputCounts count count' _ = count' ≡ count

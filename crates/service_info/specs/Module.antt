-- What a module gives.
use Rattle.std.specs.Prelude.{◌≡◌, List, [], ◌∷◌, Option, Some, None}
use Rattle.service_info.specs.declared.pair.Pair.{Pair}

-- of the pairs still to be given the first is given, and is among them no more; none is given where there is none
abbrev pub Gives : List Pair → Option Pair → List Pair → Type 0
Gives left None left' = (left ≡ []) × (left' ≡ [])
Gives left (Some pair) left' = left ≡ pair ∷ left'

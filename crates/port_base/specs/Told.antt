-- What an object of the outside tells of its calls; one that does not tell has None for it, before and after.
use Rattle.std.specs.Prelude.{◌≡◌, List, [], ◌∷◌, ◌++◌, Option, Result, Ok, Err}
use Rattle.std.specs.Option.{option_map}

-- what was told, and more of it
abbrev pub grown : {X : Type 0} → Option (List X) → List X → Option (List X)
grown told more = option_map (λ xs. xs ++ more) told

-- an answer is added to those that were given
abbrev pub Answers : {X E : Type 0} → Option (List X) → Option (List X) → Result X E → Type 0
Answers given given' (Ok answer) = given' ≡ grown given (answer ∷ [])
Answers given given' (Err _) = given' ≡ given

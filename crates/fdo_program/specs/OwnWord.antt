-- The words that the program answers itself: each of them only where it stands alone.
use Rattle.std.specs.Prelude.{◌≡◌, ◌≢◌, ℕ, List, [], ◌∷◌, Option, None, Some, codes}
use Rattle.fdo_program.specs.declared.own_word.OwnWord.{OwnWord}
use Rattle.fdo_program.specs.declared.own_word.OwnWord.TheVariants.{Help, Version}
use Rattle.fdo_program.specs.declared.help.TheConstants.{HELP, VERSION}

-- the words are this one alone, or none of these
abbrev pub AreOwn : List (List ℕ) → Option OwnWord → Type 0
AreOwn words (Some Help) = words ≡ codes "--help" ∷ []
AreOwn words (Some Version) = words ≡ codes "--version" ∷ []
AreOwn words None = (words ≢ codes "--help" ∷ []) × (words ≢ codes "--version" ∷ [])

-- what is written for it
abbrev pub own_text : OwnWord → List ℕ
own_text Help = HELP.now
own_text Version = VERSION.now

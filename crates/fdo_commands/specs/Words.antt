-- The words of a line that says a message.
use Rattle.std.specs.Prelude.{◌≡◌, ◌≢◌, ℕ, ◌<◌, nat_le, Bool, ◌&&◌, List, ◌∷◌, ◌++◌, Option, Some, None, length, codes}
use Rattle.hex.specs.Hex.{IsBytes, encode_lower}
use Rattle.fdo_msgs.specs.Token.{bearer}
use Rattle.fdo_msgs.specs.Words.{Lacks}
use Rattle.fdo_commands.specs.Line.{IsTokenWord}
use Rattle.fdo_commands.specs.declared.line.TokenWord.{TokenWord}
use Rattle.fdo_commands.specs.declared.line.TokenWord.TheVariants.{Absent, Named, Wrong}

-- the line is three words, of which the last may have spaces
pub record ThreeWords (line kind token body : List ℕ) : Type 0 where
  pub parts : line ≡ kind ++ 32 ∷ (token ++ 32 ∷ body)
  pub one : Lacks 32 kind
  pub two : Lacks 32 token

-- what the token's word says
abbrev pub ReadsToken : List ℕ → TokenWord → Type 0
ReadsToken word Absent = word ≡ codes "-"
ReadsToken word (Named token) = (token ≡ bearer ++ word) × IsTokenWord word
ReadsToken word Wrong = (word ≢ codes "-") × (IsTokenWord word → ⊥)

-- the bytes, one at least, that a word in lower-case hex says
abbrev pub ReadsHex : List ℕ → Option (List ℕ) → Type 0
ReadsHex word (Some body) = (word ≡ encode_lower body) × IsBytes body × (0 < length body)
ReadsHex word None = (body : List ℕ) → IsBytes body → 0 < length body → word ≢ encode_lower body

-- `A` to `F`
abbrev pub is_capital : ℕ → Bool
is_capital byte = nat_le 65 byte && nat_le byte 70

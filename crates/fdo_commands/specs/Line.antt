-- Messages as lines of text: the type in decimal, the session's token or `-`, and the body in lower-case hex, parted
-- by one space each.
use Rattle.std.specs.Prelude.{◌≡◌, ◌≢◌, ℕ, ◌<◌, ◌≤◌, nat_le, Bool, true, ◌&&◌, List, [], ◌∷◌, ◌++◌, Option, Some, None, length, drop, codes}
use Rattle.std.specs.Fmt.{decimal}
use Rattle.std.specs.List.{list_all}
use Rattle.hex.specs.Hex.{IsBytes, encode_lower}
use Rattle.fdo_msgs.specs.Token.{bearer}
use Rattle.fdo_msgs.specs.declared.answer.Answer.{Answer}
use Rattle.fdo_msgs.specs.declared.answer.Answer.TheVariants as answers
use Rattle.fdo_msgs.specs.declared.packet.Packet.{Packet}

-- `-`, or the token without its scheme
abbrev pub token_word : Option (List ℕ) → List ℕ
token_word None = codes "-"
token_word (Some token) = drop (length bearer) token

-- a message
abbrev pub packet_text : Packet → List ℕ
packet_text p = decimal p.kind ++ 32 ∷ (token_word p.token ++ 32 ∷ encode_lower p.body)

abbrev pub packet_line : Packet → List ℕ
packet_line p = packet_text p ++ 10 ∷ []

-- an answer: the message that goes back, or that there is none
abbrev pub answer_line : Answer → List ℕ
answer_line (answers.Reply reply) = packet_line reply
answer_line (answers.Refused reply _) = packet_line reply
answer_line answers.Ended = codes "ended\n"

-- a byte that prints, and is no space
abbrev pub is_visible : ℕ → Bool
is_visible byte = nat_le 33 byte && nat_le byte 126

-- 1 to 1,017 of them, and not `-` alone
pub record IsTokenWord (word : List ℕ) : Type 0 where
  pub some : 0 < length word
  pub most : length word ≤ 1017
  pub visible : list_all is_visible word ≡ true
  pub named : word ≢ codes "-"

-- a token that a line can name: the scheme, and such a word
abbrev pub HasWord : Option (List ℕ) → Type 0
HasWord None = Unit {0}
HasWord (Some token) = (word : List ℕ) × (token ≡ bearer ++ word) × IsTokenWord word

-- a message that stands on a line of the input
pub record IsLinePacket (p : Packet) : Type 0 where
  pub kind : p.kind < 256
  pub token : HasWord p.token
  pub body : 0 < length p.body
  pub bytes : IsBytes p.body

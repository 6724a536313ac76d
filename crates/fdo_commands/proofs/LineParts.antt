-- The words of a line.
use Rattle.std.proofs.Common.{◌≡◌, ℕ, ◌^◌, ◌<◌, ◌≤◌, Bool, true, false, ◌&&◌, ◌⊎◌, inl, inr, lit<, List, [], ◌∷◌, ◌++◌, Option, Some, None, length, drop, refl, sym, ap, ◌∙◌, subst, arith}
use Rattle.std.specs.Prelude.{codes}
use Rattle.std.specs.Fmt.{decimal}
use Rattle.std.specs.List.{list_all}
use Rattle.std.specs.Str.Parse.{AllDigits}
use Rattle.std.proofs.lemmas.Fmt.{decimal_is_IsNumeral}
use Rattle.std.proofs.lemmas.Str.Parse.{tells_digits}
use Rattle.std.proofs.Math.Seq.{drop-append_seam}
use Rattle.hex.specs.Hex.{IsBytes, encode_lower}
use Rattle.fdo_msgs.specs.Token.{bearer}
use Rattle.fdo_msgs.specs.Words.{Lacks}
use Rattle.fdo_msgs.specs.declared.packet.Packet.{Packet}
use Rattle.fdo_msgs.proofs.Cuts.{cut_once, lacks_both}
use Rattle.fdo_commands.specs.Line.{HasWord, IsLinePacket, IsTokenWord, is_visible, packet_text, token_word}
use Rattle.fdo_commands.specs.Words.{ThreeWords}
use Rattle.fdo_commands.proofs.HexWords.{spelled_lacks}

-- a byte below the digits stands in no number
digits_lack : (mark : ℕ) (digits : List ℕ) → mark < 48 → AllDigits 10 digits → Lacks mark digits
digits_lack mark [] low all = tt
digits_lack mark (c ∷ cs) low all =
    let digit = (tells_digits.parts c cs all).0 in
    (λ is. omega (arith, low, is, digit.0), digits_lack mark cs low all.1)

decimal_lacks : (mark n : ℕ) → mark < 48 → n < 2 ^ 64 → Lacks mark (decimal n)
decimal_lacks mark n low small = digits_lack mark (decimal n) low (decimal_is_IsNumeral n small).0.1

-- a byte that is not visible stands in no token's word
both : (a b : Bool) → a && b ≡ true → (a ≡ true) × (b ≡ true)
both true b h = (refl, h)
both false b h = cc

visible_from : (byte : ℕ) → is_visible byte ≡ true → 33 ≤ byte
visible_from byte h = grind arith

visible_lacks : (mark : ℕ) (word : List ℕ) → mark < 33 → list_all is_visible word ≡ true → Lacks mark word
visible_lacks mark [] low all = tt
visible_lacks mark (b ∷ bs) low all =
    let parts = both (is_visible b) (list_all is_visible bs) all in
    (λ is. omega (arith, low, is, visible_from b parts.0), visible_lacks mark bs low parts.1)

-- the word of a token that has one
pub token_word_of : (token : Option (List ℕ)) → HasWord token → (token_word token ≡ codes "-") ⊎ IsTokenWord (token_word token)
token_word_of None has = inl refl
token_word_of (Some token) has =
    let same : drop (length bearer) token ≡ has.0 = ap (drop (length bearer)) has.1 ∙ drop-append_seam bearer has.0 in
    inr (subst IsTokenWord (sym same) has.2)

token_lacks : (mark : ℕ) (token : Option (List ℕ)) → mark < 33 → HasWord token → Lacks mark (token_word token)
token_lacks mark token low has =
    elim (token_word_of token has) [
      | inl absent ↦ subst (Lacks mark) (sym absent) (λ is. omega (arith, low, is), tt)
      | inr word ↦ visible_lacks mark (token_word token) low word.visible
    ]

-- a message's text is three words
pub packet_words : (p : Packet) → IsLinePacket p → ThreeWords (packet_text p) (decimal p.kind) (token_word p.token) (encode_lower p.body)
packet_words p fits = record {
  parts = refl;
  one = decimal_lacks 32 p.kind (lit< tt) (omega (arith, fits.kind));
  two = token_lacks 32 p.token (lit< tt) fits.token;
}

-- and a line is three words in one way
pub words_once : (line k t b k' t' b' : List ℕ) → ThreeWords line k t b → ThreeWords line k' t' b' → (k ≡ k') × (t ≡ t') × (b ≡ b')
words_once line k t b k' t' b' one other =
    let first = cut_once 32 k (t ++ 32 ∷ b) k' (t' ++ 32 ∷ b') one.one other.one (sym one.parts ∙ other.parts) in
    let second = cut_once 32 t b t' b' one.two other.two first.1 in
    (first.0, second.0, second.1)

-- so a line with these words says a message only where they are the message's
pub said_words : (line k t b : List ℕ) (p : Packet) → ThreeWords line k t b → IsLinePacket p → line ≡ packet_text p → (k ≡ decimal p.kind) × (t ≡ token_word p.token) × (b ≡ encode_lower p.body)
said_words line k t b p words fits is =
    words_once line k t b (decimal p.kind) (token_word p.token) (encode_lower p.body) words (subst (λ l. ThreeWords l (decimal p.kind) (token_word p.token) (encode_lower p.body)) (sym is) (packet_words p fits))

-- where it is not three words, it says none
pub not_words : (line : List ℕ) → ((k t b : List ℕ) → ThreeWords line k t b → ⊥) → (p : Packet) → IsLinePacket p → line ≡ packet_text p → ⊥
not_words line none p fits is = none (decimal p.kind) (token_word p.token) (encode_lower p.body) (subst (λ l. ThreeWords l (decimal p.kind) (token_word p.token) (encode_lower p.body)) (sym is) (packet_words p fits))

-- no line feed stands in a message's text
pub text_lacks : (p : Packet) → IsLinePacket p → Lacks 10 (packet_text p)
text_lacks p fits =
    lacks_both 10 (decimal p.kind) (32 ∷ (token_word p.token ++ 32 ∷ encode_lower p.body)) (decimal_lacks 10 p.kind (lit< tt) (omega (arith, fits.kind)))
    (λ is. omega (arith, is), lacks_both 10 (token_word p.token) (32 ∷ encode_lower p.body) (token_lacks 10 p.token (lit< tt) fits.token) (λ is. omega (arith, is), spelled_lacks 10 p.body (lit< tt) fits.bytes))

-- no message has these words
pub no_kind : (line k t b : List ℕ) → ThreeWords line k t b → ((n : ℕ) → n ≤ 255 → k ≡ decimal n → ⊥) → (p : Packet) → IsLinePacket p → line ≡ packet_text p → ⊥
no_kind line k t b words none p fits is = none p.kind (omega (arith, fits.kind)) (said_words line k t b p words fits is).0

pub no_token : (line k t b : List ℕ) → ThreeWords line k t b → (t ≡ codes "-" → ⊥) → (IsTokenWord t → ⊥) → (p : Packet) → IsLinePacket p → line ≡ packet_text p → ⊥
no_token line k t b words absent named p fits is =
    let same = (said_words line k t b p words fits is).1 in
    elim (token_word_of p.token fits.token) [ inl e ↦ absent (same ∙ e) | inr word ↦ named (subst IsTokenWord (sym same) word) ]

pub no_body : (line k t b : List ℕ) → ThreeWords line k t b → ((body : List ℕ) → IsBytes body → 0 < length body → b ≡ encode_lower body → ⊥) → (p : Packet) → IsLinePacket p → line ≡ packet_text p → ⊥
no_body line k t b words none p fits is = none p.body fits.bytes fits.body (said_words line k t b p words fits is).2

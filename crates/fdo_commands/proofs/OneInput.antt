-- An input says one list of messages.
use Rattle.std.proofs.Common.{◌≡◌, ◌≢◌, ℕ, List, [], ◌∷◌, ◌++◌, Option, Some, None, length, flat_map, drop, refl, sym, ap, ◌∙◌, subst, append_assoc, arith}
use Rattle.std.specs.Fmt.{decimal}
use Rattle.std.proofs.lemmas.Fmt.{decimal_injective}
use Rattle.std.proofs.lemmas.List.{length-append}
use Rattle.std.proofs.Math.Seq.{drop-append_seam}
use Rattle.hex.specs.Hex.{IsBytes, decode_of, encode_lower}
use Rattle.hex.proofs.HexLemmas.{decode_of-encode_lower, decode_of-same}
use Rattle.fdo_msgs.specs.Token.{bearer}
use Rattle.fdo_msgs.specs.declared.packet.Packet.{Packet}
use Rattle.fdo_msgs.proofs.Cuts.{cut_once}
use Rattle.fdo_commands.specs.Input.{AllLinePackets, FirstWrong, IsInput}
use Rattle.fdo_commands.specs.Line.{HasWord, IsLinePacket, packet_line, packet_text, token_word}
use Rattle.fdo_commands.specs.Words.{ThreeWords}
use Rattle.fdo_commands.proofs.LineParts.{packet_words, text_lacks, words_once}

one_body : (a b : List ℕ) → IsBytes a → IsBytes b → encode_lower a ≡ encode_lower b → a ≡ b
one_body a b fa fb same = decode_of-same (encode_lower a) a b (decode_of-encode_lower a fa) (ap decode_of same ∙ decode_of-encode_lower b fb)

word_is : (token : List ℕ) (has : HasWord (Some token)) → token_word (Some token) ≡ has.0
word_is token has = ap (drop (length bearer)) has.1 ∙ drop-append_seam bearer has.0

one_token : (a b : Option (List ℕ)) → HasWord a → HasWord b → token_word a ≡ token_word b → a ≡ b
one_token None None ha hb same = refl
one_token None (Some b) ha hb same = absurd (hb.2.named (sym (word_is b hb) ∙ sym same))
one_token (Some a) None ha hb same = absurd (ha.2.named (sym (word_is a ha) ∙ same))
one_token (Some a) (Some b) ha hb same =
    let words : ha.0 ≡ hb.0 = sym (word_is a ha) ∙ same ∙ word_is b hb in
    ap Some (ha.1 ∙ ap (λ w. bearer ++ w) words ∙ sym hb.1)

one_text : (p q : Packet) → IsLinePacket p → IsLinePacket q → packet_text p ≡ packet_text q → p ≡ q
one_text p q fp fq same =
    let words = words_once (packet_text p) (decimal p.kind) (token_word p.token) (encode_lower p.body) (decimal q.kind) (token_word q.token) (encode_lower q.body)
    (packet_words p fp) (subst (λ l. ThreeWords l (decimal q.kind) (token_word q.token) (encode_lower q.body)) (sym same) (packet_words q fq)) in
    let kind = decimal_injective p.kind q.kind (omega (arith, fp.kind)) (omega (arith, fq.kind)) words.0 in
    let token = one_token p.token q.token fp.token fq.token words.1 in
    let body = one_body p.body q.body fp.bytes fq.bytes words.2 in
    λ i. record { token = token i; kind = kind i; body = body i }

-- lines that begin alike begin with one message
one_line : (p q : Packet) (a b : List ℕ) → IsLinePacket p → IsLinePacket q → packet_line p ++ a ≡ packet_line q ++ b → (p ≡ q) × (a ≡ b)
one_line p q a b fp fq same =
    let cut = cut_once 10 (packet_text p) a (packet_text q) b (text_lacks p fp) (text_lacks q fq)
    (sym (append_assoc (packet_text p) (10 ∷ []) a) ∙ same ∙ append_assoc (packet_text q) (10 ∷ []) b) in
    (one_text p q fp fq cut.0, cut.1)

-- a line is not nothing
some_line : (p : Packet) (a : List ℕ) → [] ≡ packet_line p ++ a → ⊥
some_line p a none = omega (arith, ap length none, length-append (packet_line p) a, length-append (packet_text p) (10 ∷ []))

one_list : (ps qs : List Packet) → AllLinePackets ps → AllLinePackets qs → flat_map packet_line ps ≡ flat_map packet_line qs → ps ≡ qs
one_list [] [] ap' aq same = refl
one_list [] (q ∷ qs) ap' aq same = absurd (some_line q (flat_map packet_line qs) same)
one_list (p ∷ ps) [] ap' aq same = absurd (some_line p (flat_map packet_line ps) (sym same))
one_list (p ∷ ps) (q ∷ qs) all other same =
    let first = one_line p q (flat_map packet_line ps) (flat_map packet_line qs) all.0 other.0 same in
    let rest = one_list ps qs all.1 other.1 first.1 in
    λ i. first.0 i ∷ rest i

pub one_reading : (bytes : List ℕ) (ps qs : List Packet) → IsInput bytes ps → IsInput bytes qs → ps ≡ qs
one_reading bytes ps qs one other = one_list ps qs one.1 other.1 (sym one.0 ∙ other.0)

-- behind the same lines no wrong line stands
none_wrong : (ps qs : List Packet) (rest : List ℕ) → AllLinePackets ps → AllLinePackets qs → flat_map packet_line qs ≡ flat_map packet_line ps ++ rest → rest ≢ [] → ((p : Packet) (more : List ℕ) → IsLinePacket p → rest ≡ packet_line p ++ more → ⊥) → ⊥
none_wrong [] [] rest all other same some wrong = some (sym same)
none_wrong [] (q ∷ qs) rest all other same some wrong = wrong q (flat_map packet_line qs) other.0 (sym same)
none_wrong (p ∷ ps) [] rest all other same some wrong = some_line p (flat_map packet_line ps ++ rest) (same ∙ append_assoc (packet_line p) (flat_map packet_line ps) rest)
none_wrong (p ∷ ps) (q ∷ qs) rest all other same some wrong =
    let first = one_line q p (flat_map packet_line qs) (flat_map packet_line ps ++ rest) other.0 all.0 (same ∙ append_assoc (packet_line p) (flat_map packet_line ps) rest) in
    none_wrong ps qs rest all.1 other.1 first.1 some wrong

pub no_wrong : (bytes : List ℕ) (ps : List Packet) (place : ℕ) → IsInput bytes ps → FirstWrong bytes place → ⊥
no_wrong bytes ps place one (front, rest, all, split, at, wrong) = none_wrong front ps rest all one.1 (sym one.0 ∙ split) wrong.0 wrong.1

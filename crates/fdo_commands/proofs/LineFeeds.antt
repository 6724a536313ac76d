-- Lines, each with the line feed at its end.
use Rattle.std.proofs.Common.{◌≡◌, ℕ, ◌-◌, List, [], ◌∷◌, ◌++◌, length, flat_map, sym, ap, ◌∙◌, subst, append_assoc, arith}
use Rattle.std.proofs.lemmas.List.{append-nil, length-append}
use Rattle.fdo_msgs.specs.Words.{Lacks}
use Rattle.fdo_msgs.specs.declared.packet.Packet.{Packet}
use Rattle.fdo_msgs.proofs.Cuts.{cut_once, not_lacking}
use Rattle.fdo_commands.specs.Input.{AllLinePackets, BeginsWrong, FirstWrong, IsInput}
use Rattle.fdo_commands.specs.Line.{IsLinePacket, packet_line, packet_text}
use Rattle.fdo_commands.proofs.LineParts.{text_lacks}

-- bytes that begin with a message's line begin with its text up to the first line feed
pub said_line : (line after rest : List ℕ) (p : Packet) → Lacks 10 line → IsLinePacket p → line ++ 10 ∷ after ≡ packet_line p ++ rest → line ≡ packet_text p
said_line line after rest p lacks fits same = (cut_once 10 line after (packet_text p) rest lacks (text_lacks p fits) (same ∙ append_assoc (packet_text p) (10 ∷ []) rest)).0

-- and have one
pub has_feed : (bytes rest : List ℕ) (p : Packet) → Lacks 10 bytes → bytes ≡ packet_line p ++ rest → ⊥
has_feed bytes rest p lacks same = not_lacking 10 (packet_text p) rest (subst (Lacks 10) (same ∙ append_assoc (packet_text p) (10 ∷ []) rest) lacks)

all_and : (ps : List Packet) (p : Packet) → AllLinePackets ps → IsLinePacket p → AllLinePackets (ps ++ p ∷ [])
all_and [] p all fits = (fits, tt)
all_and (q ∷ ps) p all fits = (all.0, all_and ps p all.1 fits)

lines_and : (ps : List Packet) (p : Packet) → flat_map packet_line (ps ++ p ∷ []) ≡ flat_map packet_line ps ++ packet_line p
lines_and [] p = append-nil (packet_line p)
lines_and (q ∷ ps) p = ap (λ l. packet_line q ++ l) (lines_and ps p) ∙ sym (append_assoc (packet_line q) (flat_map packet_line ps) (packet_line p))

-- what was read so far, and what is left
pub record ReadSoFar (bytes : List ℕ) (ps : List Packet) (rest : List ℕ) : Type 0 where
  pub lines : bytes ≡ flat_map packet_line ps ++ rest
  pub all : AllLinePackets ps

pub more_lines : (bytes rest after : List ℕ) (ps qs : List Packet) (p : Packet) → ReadSoFar bytes ps rest → IsLinePacket p → rest ≡ packet_line p ++ after → qs ≡ ps ++ p ∷ [] → ReadSoFar bytes qs after
more_lines bytes rest after ps qs p so_far fits line one = rw one (record {
  lines = so_far.lines ∙ ap (λ r. flat_map packet_line ps ++ r) line ∙ sym (append_assoc (flat_map packet_line ps) (packet_line p) after) ∙ ap (λ l. l ++ after) (sym (lines_and ps p));
  all = all_and ps p so_far.all fits;
})

pub all_lines : (bytes rest : List ℕ) (ps : List Packet) → ReadSoFar bytes ps rest → rest ≡ [] → IsInput bytes ps
all_lines bytes rest ps so_far none = (so_far.lines ∙ ap (λ r. flat_map packet_line ps ++ r) none ∙ append-nil (flat_map packet_line ps), so_far.all)

pub wrong_line : (bytes rest : List ℕ) (ps : List Packet) (place : ℕ) → ReadSoFar bytes ps rest → BeginsWrong rest → place ≡ length bytes - length rest → FirstWrong bytes place
wrong_line bytes rest ps place so_far wrong at =
    (ps, rest, so_far.all, so_far.lines, omega (arith, at, ap length so_far.lines, length-append (flat_map packet_line ps) rest), wrong)

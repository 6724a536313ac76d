-- The input of a command that reads messages: a line for each.
use Rattle.std.specs.Prelude.{◌≡◌, ◌≢◌, ℕ, List, [], ◌∷◌, ◌++◌, length, flat_map, Option, Some, None}
use Rattle.fdo_msgs.specs.declared.packet.Packet.{Packet}
use Rattle.fdo_commands.specs.declared.lines.Line.{Line}
use Rattle.fdo_commands.specs.declared.lines.Line.TheVariants.{Says, Wrong}
use Rattle.fdo_commands.specs.declared.lines.LinesFault.{LinesFault}
use Rattle.fdo_commands.specs.declared.lines.LinesFault.TheVariants as faults
use Rattle.fdo_commands.specs.Line.{IsLinePacket, packet_line, packet_text}

abbrev pub AllLinePackets : List Packet → Type 0
AllLinePackets [] = Unit {0}
AllLinePackets (p ∷ ps) = IsLinePacket p × AllLinePackets ps

-- the input is the lines of these messages
abbrev pub IsInput : List ℕ → List Packet → Type 0
IsInput bytes packets = (bytes ≡ flat_map packet_line packets) × AllLinePackets packets

-- no message's line begins the bytes, of which there are some: the first line there is wrong
abbrev pub BeginsWrong : List ℕ → Type 0
BeginsWrong bytes = (bytes ≢ []) × ((p : Packet) (rest : List ℕ) → IsLinePacket p → bytes ≡ packet_line p ++ rest → ⊥)

-- the first wrong line of the input begins at this place
abbrev pub FirstWrong : List ℕ → ℕ → Type 0
FirstWrong bytes place = (packets : List Packet) × (rest : List ℕ) × AllLinePackets packets
    × (bytes ≡ flat_map packet_line packets ++ rest) × (place ≡ length (flat_map packet_line packets)) × BeginsWrong rest

-- a line says this message, or none
abbrev pub ReadsText : List ℕ → Option Packet → Type 0
ReadsText line (Some p) = IsLinePacket p × (line ≡ packet_text p)
ReadsText line None = (p : Packet) → IsLinePacket p → line ≢ packet_text p

-- the first line of the bytes says this message, or none
abbrev pub ReadsLine : List ℕ → Line → Type 0
ReadsLine bytes (Says p after) = IsLinePacket p × (bytes ≡ packet_line p ++ after.now)
ReadsLine bytes Wrong = (p : Packet) (rest : List ℕ) → IsLinePacket p → bytes ≡ packet_line p ++ rest → ⊥

-- the lines are not read for this
abbrev pub WrongAt : List ℕ → LinesFault → Type 0
WrongAt bytes (faults.Wrong place) = FirstWrong bytes place
WrongAt bytes faults.NoMemory = Unit {0}

-- How a command over message lines ends, status by status, whichever role it is.
use Rattle.std.specs.Prelude.{◌≡◌, ◌⊎◌, ℕ, ◌<◌, ◌≤◌, List, ◌∷◌, ◌++◌, length, codes, None, Some, Result}
use Rattle.std.specs.Fmt.{decimal}
use Rattle.fdo_ports.specs.Count.{Counts}
use Rattle.port_base.specs.Count.{Rises}
use Rattle.fdo_ports.specs.Told.{WritesAll}
use Rattle.fdo_ports.specs.Stream.{Stream}
use Rattle.port_base.specs.Told.{grown}
use Rattle.fdo_ports.specs.declared.failed.Failed.{Failed}
use Rattle.fdo_msgs.specs.Run.{Runs}
use Rattle.fdo_msgs.specs.declared.answer.Answer.{Answer}
use Rattle.fdo_msgs.specs.declared.cause.Object.{Object}
use Rattle.fdo_msgs.specs.declared.packet.Packet.{Packet}
use Rattle.fdo_commands.specs.Answering.{CutShort, Leaves, Role, Stage, answers_text, fault_line, first_blamed, stage}
use Rattle.fdo_commands.specs.Input.{FirstWrong, IsInput}
use Rattle.fdo_commands.specs.Stream.{Took, TookAll, most_bytes}
use Rattle.fdo_commands.specs.declared.status.Status.{Status}
use Rattle.fdo_commands.specs.declared.status.Status.TheVariants as status

-- what a command was lent: its input, and what it works on once that is read
pub record Lent (S : Type 0) : Type 0 where
  pub input : Stream
  pub stage : Stage S

abbrev pub lent : {S : Type 0} → S → Stream → Stream → Lent S
lent state input output = record { input = input; stage = stage state output }

-- an output to which a text is written whole
abbrev pub with_text : Stream → List ℕ → Stream
with_text output text = record output { written = grown output.written text }

-- a text is written whole, and no write fails
abbrev pub Wrote : Stream → Stream → List ℕ → Type 0
Wrote before after text = (after.written ≡ grown before.written text) × (after.write_faults ≡ before.write_faults)

-- a last line is written; where the output fails in it, it lacks something at its end
abbrev pub EndsWith : Stream → Stream → List ℕ → Type 0
EndsWith before after line =
    (outcome : Result (Unit {0}) Failed) × WritesAll before.written after.written line outcome
    × Counts before.write_faults after.write_faults outcome

-- the last line for an input that is not of the command's form, at a byte
abbrev pub wrong_input : ℕ → List ℕ
wrong_input place = codes "fault input " ++ decimal place ++ codes "\n"

-- nothing is written, and the state stays
abbrev pub Untouched : {S : Type 0} → Stage S → Stage S → Type 0
Untouched before after =
    (after.state ≡ before.state) × (after.output.written ≡ before.output.written)
    × (after.output.write_faults ≡ before.output.write_faults)

-- the bytes are the lines of these messages, which have these answers
abbrev pub Answered : {S : Type 0} → Role S → List ℕ → Stage S → Stage S → List Packet → List Answer → Type 0
Answered role bytes before after packets answers =
    IsInput bytes packets × Runs role.Steps before.state packets answers after.state

-- the bytes are the lines of some messages, of which the first ones are answered, and memory runs out at the next
abbrev pub AnswersFront : {S : Type 0} → Role S → List ℕ → Stage S → Stage S → Type 0
AnswersFront {S} role bytes before after =
    (first rest : List Packet) × (packet : Packet) × (answers : List Answer) × (next : S)
    × IsInput bytes (first ++ packet ∷ rest) × Runs role.Steps before.state first answers next
    × Leaves role next packet after.state × Wrote before.output after.output (answers_text answers)

-- what a command does with the bytes of its input
abbrev pub AnswersBytes : {S : Type 0} → Role S → List ℕ → Stage S → Stage S → Status → Type 0
-- all messages are answered, and no object of the environment failed
AnswersBytes role bytes before after status.Done =
    (packets : List Packet) × (answers : List Answer) × Answered role bytes before after packets answers
    × (first_blamed answers ≡ None) × Wrote before.output after.output (answers_text answers)
-- the same, but one failed, and the last line names the first of those that did
AnswersBytes role bytes before after status.Outside =
    (packets : List Packet) × (answers : List Answer) × Answered role bytes before after packets answers
    × (object : Object) × (first_blamed answers ≡ Some object)
    × EndsWith (with_text before.output (answers_text answers)) after.output (fault_line object)
-- a line is wrong, and nothing is answered
AnswersBytes role bytes before after status.Input =
    (place : ℕ) × FirstWrong bytes place × (after.state ≡ before.state)
    × EndsWith before.output after.output (wrong_input place)
-- the output fails in the answers of the first messages
AnswersBytes role bytes before after status.Write =
    (first rest : List Packet) × (answers : List Answer) × IsInput bytes (first ++ rest)
    × Runs role.Steps before.state first answers after.state × CutShort before.output after.output (answers_text answers)
    × Rises before.output.write_faults after.output.write_faults
-- memory runs out before the first message, or at one of them
AnswersBytes role bytes before after status.NoMemory = Untouched before after ⊎ AnswersFront role bytes before after
AnswersBytes role bytes before after _ = ⊥

-- the input fails: nothing is done but the last line
abbrev pub InputFailed : {S : Type 0} → Lent S → Lent S → Type 0
InputFailed before after =
    (bytes : List ℕ) × Took before.input.left after.input.left bytes × (length bytes ≤ most_bytes)
    × Rises before.input.read_faults after.input.read_faults × (after.stage.state ≡ before.stage.state)
    × EndsWith before.stage.output after.stage.output (codes "fault read\n")

-- the input has more than the most bytes: nothing is done but the last line
abbrev pub InputTooLong : {S : Type 0} → Lent S → Lent S → Type 0
InputTooLong before after =
    (bytes : List ℕ) × Took before.input.left after.input.left bytes × (most_bytes < length bytes)
    × (after.input.read_faults ≡ before.input.read_faults) × (after.stage.state ≡ before.stage.state)
    × EndsWith before.stage.output after.stage.output (codes "fault limit\n")

-- nothing is read or written, and the state stays
abbrev pub Unchanged : {S : Type 0} → Lent S → Lent S → Type 0
Unchanged before after =
    Untouched before.stage after.stage × (after.input.left ≡ before.input.left)
    × (after.input.read_faults ≡ before.input.read_faults)

-- how the command ends
abbrev pub Ends : {S : Type 0} → Role S → Lent S → Lent S → Status → Type 0
Ends role before after status.Read = InputFailed before after
Ends role before after status.Limit = InputTooLong before after
-- memory runs out before the first message, and perhaps before the input's end, or at one of the messages
Ends role before after status.NoMemory =
    (bytes : List ℕ) × Took before.input.left after.input.left bytes × (after.input.read_faults ≡ before.input.read_faults)
    × (Untouched before.stage after.stage
    ⊎ (TookAll before.input.left after.input.left bytes × AnswersFront role bytes before.stage after.stage))
-- the input is read to its end
Ends role before after ending =
    (bytes : List ℕ) × TookAll before.input.left after.input.left bytes
    × (after.input.read_faults ≡ before.input.read_faults) × AnswersBytes role bytes before.stage after.stage ending

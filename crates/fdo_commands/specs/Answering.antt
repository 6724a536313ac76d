-- A role answers messages, and its answers are printed, a line each.
use Rattle.std.specs.Prelude.{◌≡◌, ◌⊎◌, ℕ, ◌<◌, nat_lt, if◌then◌else◌, List, [], ◌∷◌, ◌++◌, length, take, flat_map, codes, Option, None, Some, Result, Ok, Err}
use Rattle.port_base.specs.Count.{Rises}
use Rattle.port_base.specs.Told.{grown}
use Rattle.fdo_ports.specs.Stream.{Stream}
use Rattle.fdo_msgs.specs.Run.{Runs}
use Rattle.fdo_msgs.specs.declared.answer.Answer.{Answer}
use Rattle.fdo_msgs.specs.declared.answer.Answer.TheVariants as answers
use Rattle.fdo_msgs.specs.declared.cause.Cause.TheVariants.{Outside}
use Rattle.fdo_msgs.specs.declared.cause.Object.{Object}
use Rattle.fdo_msgs.specs.declared.cause.Object.TheVariants as object
use Rattle.fdo_msgs.specs.declared.packet.Packet.{Packet}
use Rattle.fdo_commands.specs.Line.{answer_line}
use Rattle.fdo_commands.specs.declared.answers.Stop.{Stop}
use Rattle.fdo_commands.specs.declared.answers.Stop.TheVariants as stop

abbrev pub answers_text : List Answer → List ℕ
answers_text all = flat_map answer_line all

-- the object of the environment that failed, as an answer says
abbrev pub blamed : Answer → Option Object
blamed (answers.Refused _ (Outside what)) = Some what
blamed _ = None

-- of several objects the last line names the first in this order
abbrev pub rank : Object → ℕ
rank object.Signer = 0
rank object.Random = 1
rank object.Clock = 2
rank object.Disk = 3
rank object.Shut = 4

abbrev pub sooner : Option Object → Option Object → Option Object
sooner None other = other
sooner (Some one) None = Some one
sooner (Some one) (Some other) = if nat_lt (rank other) (rank one) then Some other else Some one

abbrev pub first_blamed : List Answer → Option Object
first_blamed [] = None
first_blamed (answer ∷ more) = sooner (blamed answer) (first_blamed more)

-- the last line of a command for which an object failed
abbrev pub fault_line : Object → List ℕ
fault_line object.Signer = codes "fault signer\n"
fault_line object.Random = codes "fault random\n"
fault_line object.Clock = codes "fault clock\n"
fault_line object.Disk = codes "fault disk\n"
fault_line object.Shut = codes "fault disk\n"

-- what a role does at a message, and what running out of memory at one leaves
pub record Role (S : Type 0) : Type 1 where
  pub Steps : S → Packet → Answer → S → Type 0
  pub GivesUp : S → Packet → S → Type 0

abbrev pub role : {S : Type 0} → (S → Packet → Answer → S → Type 0) → (S → Packet → S → Type 0) → Role S
role Steps GivesUp = record { Steps = Steps; GivesUp = GivesUp }

-- what a command works on once its input is read: its output, and beside it what stands for all else that it was lent
pub record Stage (S : Type 0) : Type 0 where
  pub state : S
  pub output : Stream

abbrev pub stage : {S : Type 0} → S → Stream → Stage S
stage state output = record { state = state; output = output }

-- a part of a text is written, from its front, and lacks something at its end
abbrev pub CutShort : Stream → Stream → List ℕ → Type 0
CutShort before after text = (n : ℕ) × (n < length text) × (after.written ≡ grown before.written (take n text))

-- memory runs out at a message: in the role's step, or after it
abbrev pub Leaves : {S : Type 0} → Role S → S → Packet → S → Type 0
Leaves role s packet t = role.GivesUp s packet t ⊎ ((answer : Answer) × role.Steps s packet answer t)

-- one message is answered
abbrev pub AnswersOne : {S : Type 0} → Role S → Packet → Stage S → Stage S → Result (Option Object) Stop → Type 0
AnswersOne role packet before after (Ok fault) =
    (answer : Answer) × role.Steps before.state packet answer after.state
    × (after.output.written ≡ grown before.output.written (answer_line answer)) × (fault ≡ blamed answer)
AnswersOne role packet before after (Err stop.Write) =
    (answer : Answer) × role.Steps before.state packet answer after.state × CutShort before.output after.output (answer_line answer)
AnswersOne role packet before after (Err stop.NoMemory) =
    Leaves role before.state packet after.state × (after.output.written ≡ before.output.written)

-- all messages are answered, or the first ones of them
abbrev pub AnswersAll : {S : Type 0} → Role S → List Packet → Stage S → Stage S → Result (Option Object) Stop → Type 0
AnswersAll role packets before after (Ok fault) =
    (all : List Answer) × Runs role.Steps before.state packets all after.state
    × (after.output.written ≡ grown before.output.written (answers_text all)) × (fault ≡ first_blamed all)
AnswersAll role packets before after (Err stop.Write) =
    (first rest : List Packet) × (all : List Answer) × (packets ≡ first ++ rest)
    × Runs role.Steps before.state first all after.state × CutShort before.output after.output (answers_text all)
AnswersAll {S} role packets before after (Err stop.NoMemory) =
    (first rest : List Packet) × (packet : Packet) × (all : List Answer) × (next : S) × (packets ≡ first ++ packet ∷ rest)
    × Runs role.Steps before.state first all next × Leaves role next packet after.state
    × (after.output.written ≡ grown before.output.written (answers_text all))

-- the output's count of faults: it rises where the output fails, and stays elsewhere
abbrev pub StopCounts : Stream → Stream → Result (Option Object) Stop → Type 0
StopCounts before after (Err stop.Write) = Rises before.write_faults after.write_faults
StopCounts before after _ = after.write_faults ≡ before.write_faults

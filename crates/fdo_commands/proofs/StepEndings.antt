-- How a command over message lines ends.
use Rattle.std.proofs.Common.{◌≡◌, inl, inr, ℕ, List, Some, Ok, Err, sym, subst}
use Rattle.fdo_ports.specs.Stream.{Stream}
use Rattle.fdo_msgs.specs.declared.cause.Object.{Object}
use Rattle.fdo_msgs.specs.declared.packet.Packet.{Packet}
use Rattle.fdo_commands.specs.Answering.{AnswersAll, Role, Stage, fault_line, stage}
use Rattle.fdo_commands.specs.Ending.{AnswersBytes, Ends, EndsWith, Lent}
use Rattle.fdo_commands.specs.Input.{IsInput}
use Rattle.fdo_commands.specs.Stream.{InputCounts, ReadsInput, TookAll}
use Rattle.fdo_commands.specs.Texts.{InputFails}
use Rattle.fdo_commands.specs.declared.answers.Stop.TheVariants as stop
use Rattle.fdo_commands.specs.declared.input.InputFault.{InputFault}
use Rattle.fdo_commands.specs.declared.input.InputFault.TheVariants as faults
use Rattle.fdo_commands.specs.declared.status.Status.{Status}
use Rattle.fdo_commands.specs.declared.status.Status.TheVariants as status

module _ {S : Type 0} (role : Role S) (bytes : List ℕ) (before after : Stage S) (packets : List Packet) (input : IsInput bytes packets) where
  pub memory_ran_out : AnswersAll role packets before after (Err stop.NoMemory) → after.output.write_faults ≡ before.output.write_faults → AnswersBytes role bytes before after status.NoMemory
  memory_ran_out (first, rest, packet, all, next, apart, run, leaves, wrote) same =
      inr (first, rest, packet, all, next, subst (IsInput bytes) apart input, run, leaves, (wrote, same))

  -- all is answered, but an object failed, and the last line says so
  pub object_failed : (object : Object) (last : Stream) → AnswersAll role packets before after (Ok (Some object)) → after.output.write_faults ≡ before.output.write_faults → EndsWith after.output last (fault_line object) → AnswersBytes role bytes before (stage after.state last) status.Outside
  object_failed object last (all, run, wrote, is) same (outcome, writes, counts) = (
    packets,
    all,
    (input, run),
    object,
    sym is,
    (outcome, rw wrote at writes, rw same at counts),
  )

module _ {S : Type 0} (role : Role S) (before after : Lent S) where
  -- the input is read to its end
  pub read_ends : (bytes : List ℕ) → TookAll before.input.left after.input.left bytes → after.input.read_faults ≡ before.input.read_faults → (ending : Status) → AnswersBytes role bytes before.stage after.stage ending → Ends role before after ending
  read_ends bytes took same status.Done answers = (bytes, took, same, answers)
  read_ends bytes took same status.Words answers = absurd answers
  read_ends bytes took same status.Input answers = (bytes, took, same, answers)
  read_ends bytes took same status.Read answers = absurd answers
  read_ends bytes took same status.Write answers = (bytes, took, same, answers)
  read_ends bytes took same status.NoMemory answers = elim answers [ inl untouched ↦ (bytes, took.took, same, inl untouched) | inr front ↦ (bytes, took.took, same, inr (took, front)) ]
  read_ends bytes took same status.Limit answers = absurd answers
  read_ends bytes took same status.Refused answers = absurd answers
  read_ends bytes took same status.Outside answers = (bytes, took, same, answers)

  -- it is not
  pub unread_ends : after.stage.state ≡ before.stage.state → (fault : InputFault) → ReadsInput before.input.left after.input.left (Err fault) → InputCounts before.input.read_faults after.input.read_faults (Err fault) → (ending : Status) → InputFails fault before.stage.output after.stage.output ending → Ends role before after ending
  unread_ends still faults.Read read counts ending fails = subst (Ends role before after) (sym fails.0) (read.0, read.1, read.2, counts, still, fails.1)
  unread_ends still faults.Limit read counts ending fails = subst (Ends role before after) (sym fails.0) (read.0, read.1, read.2, counts, still, fails.1)
  unread_ends still faults.NoMemory read counts ending fails = subst (Ends role before after) (sym fails.0) (read.0, read.1, counts, inl (still, fails.1, fails.2))

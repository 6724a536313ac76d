-- How a command ends that writes one text for its whole input.
use Rattle.std.specs.Prelude.{◌≡◌, ◌⊎◌, ℕ, List, codes, Result, Ok, Err}
use Rattle.port_base.specs.Count.{Rises}
use Rattle.fdo_ports.specs.Stream.{Stream}
use Rattle.fdo_commands.specs.Answering.{CutShort}
use Rattle.fdo_commands.specs.Ending.{EndsWith, InputFailed, InputTooLong, Lent, Wrote, wrong_input}
use Rattle.fdo_commands.specs.Stream.{Took, TookAll}
use Rattle.fdo_commands.specs.declared.input.InputFault.{InputFault}
use Rattle.fdo_commands.specs.declared.input.InputFault.TheVariants as faults
use Rattle.fdo_commands.specs.declared.status.Status.{Status}
use Rattle.fdo_commands.specs.declared.status.Status.TheVariants as status
use Rattle.fdo_commands.specs.declared.texts.Told.{Told}
use Rattle.fdo_commands.specs.declared.texts.Told.TheVariants as told

-- what a command writes where this is told of its input
abbrev pub WritesTold : Told → Stream → Stream → Status → Type 0
-- the text is written whole
WritesTold what before after status.Done = (text : List ℕ) × (what ≡ told.Text text) × Wrote before after text
-- the output fails in the text
WritesTold what before after status.Write =
    (text : List ℕ) × (what ≡ told.Text text) × CutShort before after text × Rises before.write_faults after.write_faults
-- the input is refused
WritesTold what before after status.Refused = (line : List ℕ) × (what ≡ told.Refused line) × EndsWith before after line
-- the input is not of the command's form
WritesTold what before after status.Input =
    (place : ℕ) × (what ≡ told.Wrong place) × EndsWith before after (wrong_input place)
WritesTold what before after _ = ⊥

-- nothing is written, as memory ran out
abbrev pub WritesNothing : Stream → Stream → Status → Type 0
WritesNothing before after ending =
    (ending ≡ status.NoMemory) × (after.written ≡ before.written) × (after.write_faults ≡ before.write_faults)

-- what is written where memory may have run out before it is told
abbrev pub WritesFound : {E : Type 0} → Result Told E → Stream → Stream → Status → Type 0
WritesFound (Ok what) before after ending = WritesTold what before after ending
WritesFound (Err _) before after ending = WritesNothing before after ending

-- what is written where the input is not read to its end, and the status of that
abbrev pub InputFails : InputFault → Stream → Stream → Status → Type 0
InputFails faults.Read before after ending = (ending ≡ status.Read) × EndsWith before after (codes "fault read\n")
InputFails faults.Limit before after ending = (ending ≡ status.Limit) × EndsWith before after (codes "fault limit\n")
InputFails faults.NoMemory before after ending = WritesNothing before after ending

-- what a command may tell of the bytes of its input, and what that does to what it was lent beside its streams; and what
-- running out of memory after the input leaves of that
pub record Telling (S : Type 0) : Type 1 where
  pub Tells : S → List ℕ → Told → S → Type 0
  pub GivesUp : S → List ℕ → S → Type 0

-- how the command ends
abbrev pub TextEnds : {S : Type 0} → Telling S → Lent S → Lent S → Status → Type 0
TextEnds telling before after status.Read = InputFailed before after
TextEnds telling before after status.Limit = InputTooLong before after
-- memory runs out, perhaps before the input's end, and nothing is written
TextEnds telling before after status.NoMemory =
    (bytes : List ℕ) × Took before.input.left after.input.left bytes × (after.input.read_faults ≡ before.input.read_faults)
    × (after.stage.output.written ≡ before.stage.output.written)
    × (after.stage.output.write_faults ≡ before.stage.output.write_faults)
    × ((after.stage.state ≡ before.stage.state)
    ⊎ (TookAll before.input.left after.input.left bytes × telling.GivesUp before.stage.state bytes after.stage.state))
-- the input is read to its end
TextEnds telling before after ending =
    (bytes : List ℕ) × TookAll before.input.left after.input.left bytes
    × (after.input.read_faults ≡ before.input.read_faults)
    × (what : Told) × telling.Tells before.stage.state bytes what after.stage.state
    × WritesTold what before.stage.output after.stage.output ending

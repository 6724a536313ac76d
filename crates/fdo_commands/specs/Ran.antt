-- What a command did to the objects of the environment.
use Rattle.std.specs.Prelude.{◌≡◌, ◌⊎◌, ℕ, true, List, [], Option, Some, None}
use Rattle.port_base.specs.Count.{Rises}
use Rattle.fdo_ports.specs.Stream.{OnlyRead, OnlyWritten}
use Rattle.suite_port.specs.Keys.{Keys}
use Rattle.fdo_rules.specs.Rendezvous.{RvView}
use Rattle.fdo_rules.specs.Suite.{Checking}
use Rattle.end_checks.specs.Checking.{checking as checks}
use Rattle.rendezvous.specs.RvState.{RvGivesUp, RvState, RvStep, Suited, outside as rv_outside, rv_state}
use Rattle.fdo_commands.specs.Answering.{Role, role}
use Rattle.fdo_commands.specs.Commands.{IsExtendForm, command_said}
use Rattle.fdo_commands.specs.Ending.{Ends}
use Rattle.fdo_commands.specs.Extending.{ExtendEnds}
use Rattle.fdo_commands.specs.Outside.{Outside, RanNone, Signing, lent_of, only_streams, only_suite}
use Rattle.fdo_commands.specs.Texts.{TextEnds}
use Rattle.fdo_commands.specs.Vouchers.{checking, showing}
use Rattle.fdo_commands.specs.declared.command.Command.{Command}
use Rattle.fdo_commands.specs.declared.command.Command.TheVariants.{StepRendezvous, VoucherShow, VoucherCheck, VoucherExtend}
use Rattle.fdo_commands.specs.declared.status.Status.{Status}
use Rattle.fdo_commands.specs.declared.status.Status.TheVariants as status

-- the rendezvous server, over a suite
abbrev pub rendezvous : Checking → Role RvState
rendezvous suite = role (RvStep suite) (RvGivesUp suite)

abbrev pub checks_of : Signing → Checking
checks_of signs = checks signs.verifies signs.algorithm signs.key_in

-- it begins with no registration and no session
abbrev pub no_view : RvView
no_view = record { entries = []; to0 = []; to1 = [] }

-- what each command uses beside its streams
abbrev pub nothing_of : Outside → Unit {0}
nothing_of objects = tt

abbrev pub suite_of : Outside → Keys
suite_of objects = objects.suite

abbrev pub suited_of : Keys → Suited
suited_of suite = record { held = suite.held; faults = suite.faults }

abbrev pub server_of : RvView → Outside → RvState
server_of view objects = rv_state view (rv_outside objects.random objects.clock) (suited_of objects.suite)

-- a command ended with a status, over a suite that says this of signatures, keys and certificates; the server ends with
-- some registrations and sessions
abbrev pub Ran : Signing → Command → Outside → Outside → Status → Type 0
Ran signs StepRendezvous before after ending =
    (view : RvView) × Ends (rendezvous (checks_of signs)) (lent_of (server_of no_view) before) (lent_of (server_of view) after) ending
    × (suited_of after.suite ≡ suited_of before.suite)
    × (ending ≡ status.Outside → Rises before.random.faults after.random.faults ⊎ Rises before.clock.faults after.clock.faults)
Ran signs VoucherShow before after ending =
    TextEnds showing (lent_of nothing_of before) (lent_of nothing_of after) ending × (after ≡ only_streams before after)
Ran signs VoucherCheck before after ending =
    TextEnds (checking signs.verifies) (lent_of suite_of before) (lent_of suite_of after) ending
    × (after ≡ only_suite before after)
Ran signs (VoucherExtend next private) before after ending =
    ExtendEnds signs next private (lent_of suite_of before) (lent_of suite_of after) ending
    × (after ≡ only_suite before after)

-- the words name no command; reading the words after `voucher extend` takes memory, which may run out, and nothing is
-- done then
abbrev pub RanUnnamed : List (List ℕ) → Outside → Outside → Status → Type 0
RanUnnamed words before after status.Words = RanNone before after
RanUnnamed words before after status.NoMemory = IsExtendForm words × (after ≡ before)
RanUnnamed words before after _ = ⊥

abbrev pub RanSaid : Signing → Option Command → List (List ℕ) → Outside → Outside → Status → Type 0
RanSaid signs (Some command) words before after ending = Ran signs command before after ending
RanSaid signs None words before after ending = RanUnnamed words before after ending

-- the command that the words name ran, or none is named
abbrev pub RanWords : Signing → List (List ℕ) → Outside → Outside → Status → Type 0
RanWords signs words before after ending = RanSaid signs (command_said words) words before after ending

-- no call on an object failed
pub record NoneFailed (before after : Outside) : Type 0 where
  pub random : after.random.faults ≡ before.random.faults
  pub clock : after.clock.faults ≡ before.clock.faults
  pub suite : after.suite.faults ≡ before.suite.faults
  pub input : after.input.read_faults ≡ before.input.read_faults
  pub output : after.output.write_faults ≡ before.output.write_faults

-- what a status says of the objects, whichever command ran, and what each command keeps
pub record Outcome (before after : Outside) (ending : Status) : Type 0 where
  -- all was done, and no call failed
  pub done : ending ≡ status.Done → NoneFailed before after
  -- a read of the input failed
  pub read : ending ≡ status.Read → Rises before.input.read_faults after.input.read_faults
  -- a write to the output failed
  pub write : ending ≡ status.Write → Rises before.output.write_faults after.output.write_faults
  -- a random draw, the clock or the signer failed
  pub outside : ending ≡ status.Outside →
      Rises before.random.faults after.random.faults ⊎ (Rises before.clock.faults after.clock.faults ⊎ Rises before.suite.faults after.suite.faults)
  -- the keys that the suite held are held still
  pub held : (key : List ℕ) → before.suite.held key ≡ true → after.suite.held key ≡ true
  -- nothing is written to the input
  pub input : OnlyRead before.input after.input
  -- nothing is read from the output
  pub output : OnlyWritten before.output after.output

-- How the rendezvous server answers one message (FIDO Device Onboard 1.1, sections 5.3 and 5.4), by its rules.
use Rattle.std.specs.Prelude.{◌≡◌, ◌⊎◌, ◌||◌, ◌==◌, if◌then◌else◌, ℕ, List, Bool, Option, Result}
use Rattle.fdo_ports.specs.Draw.{Drawn, Draws}
use Rattle.fdo_ports.specs.Count.{Counts}
use Rattle.port_base.specs.Told.{Answers}
use Rattle.fdo_ports.specs.declared.clock.Clock.{Ghosts as Clock}
use Rattle.fdo_ports.specs.declared.failed.Failed.{Failed}
use Rattle.suite_port.specs.declared.holder.Holder.{Ghosts as Holder}
use Rattle.fdo_msgs.specs.Kind as kind
use Rattle.fdo_msgs.specs.declared.answer.Answer.{Answer}
use Rattle.fdo_msgs.specs.declared.packet.Packet.{Packet}
use Rattle.registry.specs.Entries.{with_place}
use Rattle.fdo_rules.specs.Rendezvous.{RvRow, RvView, rendezvous_row, without_named}
use Rattle.fdo_rules.specs.Row.{Comes, Leaves}
use Rattle.fdo_rules.specs.Suite.{Checking}
use Rattle.fdo_rules.specs.declared.rendezvous.Protocol.{Protocol}
use Rattle.fdo_rules.specs.declared.rendezvous.Protocol.TheVariants as protocol

-- ---- what its answers depend on

-- the seconds that a clock answered so far, where it tells them, and how many calls failed
pub record Clocked : Type 0 where
  pub answered : Option (List ℕ)
  pub faults : ℕ

abbrev pub clocked : {X : Type 0} → Clock X → X → Clocked
clocked told clock = record { answered = told.answered clock; faults = told.faults clock }

-- its random source and its clock
pub record RvOutside : Type 0 where
  pub random : Drawn
  pub clock : Clocked

abbrev pub outside : Drawn → Clocked → RvOutside
outside random clock = record { random = random; clock = clock }

-- the keys that its suite holds, and how many of the suite's calls failed
pub record Suited : Type 0 where
  pub held : List ℕ → Bool
  pub faults : ℕ

abbrev pub suited : {X : Type 0} → Holder X → X → Suited
suited told suite = record { held = told.held suite; faults = told.faults suite }

pub record RvState : Type 0 where
  pub view : RvView
  pub outside : RvOutside
  pub suite : Suited

abbrev pub rv_state : RvView → RvOutside → Suited → RvState
rv_state view outside suite = record { view = view; outside = outside; suite = suite }

-- ---- its calls

abbrev pub RvDraws : RvOutside → Result (List ℕ) Failed → RvOutside → Type 0
RvDraws s draw t = Draws s.random draw t.random × (t.clock ≡ s.clock)

abbrev pub RvReads : RvOutside → Result ℕ Failed → RvOutside → Type 0
RvReads s second t = Answers s.clock.answered t.clock.answered second × Counts s.clock.faults t.clock.faults second × (t.random ≡ s.random)

-- it signs nothing, issues nothing, and keeps nothing on a disk
abbrev pub NoSigns : RvOutside → List ℕ → List ℕ → Result (List ℕ) Failed → RvOutside → Type 0
NoSigns s key text answer t = ⊥

abbrev pub NoIssues : RvOutside → List ℕ → Result (List ℕ) Failed → RvOutside → Type 0
NoIssues s key answer t = ⊥

abbrev pub NoStores : RvOutside → Unit {0} → Result (Unit {0}) Failed → RvOutside → Type 0
NoStores s content answer t = ⊥

abbrev pub RvComes : RvRow → RvOutside → RvView × Answer → RvOutside → Type 0
RvComes = Comes RvDraws RvReads NoSigns NoIssues NoStores

abbrev pub RvLeaves : RvRow → RvOutside → RvOutside → Type 0
RvLeaves = Leaves RvDraws RvReads NoSigns NoIssues NoStores

-- ---- the step

-- the row of the message, and the suite's keys and its count stay
abbrev pub RvStep : Checking → RvState → Packet → Answer → RvState → Type 0
RvStep checking s packet answer t = RvComes (rendezvous_row checking s.view packet) s.outside (t.view, answer) t.outside × (t.suite ≡ s.suite)

-- registrations that have ended leave their places where none is left
abbrev pub placed : ℕ → List ℕ → RvView → RvView
placed now guid s = record { entries = with_place now guid s.entries; to0 = s.to0; to1 = s.to1 }

-- the protocol of a message; of a type that is of neither, TO0
abbrev pub own_of : ℕ → Protocol
own_of k = if (k == kind.hello_rv) || (k == kind.prove_to_rv) then protocol.To1 else protocol.To0

-- the session that the message names ends, all others stay, and so does what is registered; registrations that have ended
-- may have left their places
abbrev pub Spared : RvView → Packet → RvView → Type 0
Spared s packet t =
    (t ≡ without_named (own_of packet.kind) s packet.token)
    ⊎ ((now : ℕ) × (guid : List ℕ) × (t ≡ without_named (own_of packet.kind) (placed now guid s) packet.token))

-- memory ran out at a message
abbrev pub RvGivesUp : Checking → RvState → Packet → RvState → Type 0
RvGivesUp checking s packet t = RvLeaves (rendezvous_row checking s.view packet) s.outside t.outside × Spared s.view packet t.view × (t.suite ≡ s.suite)

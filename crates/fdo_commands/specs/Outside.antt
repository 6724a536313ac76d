-- The objects of the environment, as a command meets them.
use Rattle.std.specs.Prelude.{◌≡◌, ℕ, ℤ, Bool, List, Option, codes}
use Rattle.fdo_ports.specs.Draw.{Drawn}
use Rattle.fdo_ports.specs.Stream.{Stream}
use Rattle.rendezvous.specs.RvState.{Clocked}
use Rattle.suite_port.specs.Keys.{Keys}
use Rattle.voucher_chain.specs.Chain.{Verifies}
use Rattle.fdo_commands.specs.Ending.{EndsWith, Lent, lent}

-- what each object tells, and its count of faults
pub record Outside : Type 0 where
  pub input : Stream
  pub output : Stream
  pub suite : Keys
  pub random : Drawn
  pub clock : Clocked

abbrev pub outside : Stream → Stream → Keys → Drawn → Clocked → Outside
outside input output suite random clock = record { input = input; output = output; suite = suite; random = random; clock = clock }

-- what a command was lent of them: the streams, and what stands for the others that it uses
abbrev pub lent_of : {S : Type 0} → (Outside → S) → Outside → Lent S
lent_of state objects = lent (state objects) objects.input objects.output

-- a command used no object but its streams
abbrev pub only_streams : Outside → Outside → Outside
only_streams before after = record before { input = after.input; output = after.output }

-- but its streams and the suite
abbrev pub only_suite : Outside → Outside → Outside
only_suite before after = record before { input = after.input; output = after.output; suite = after.suite }

-- what a suite says of signatures, keys and certificates, whichever of them it holds
pub record Signing : Type 0 where
  pub verifies : Verifies
  pub algorithm : List ℕ → Option ℤ
  pub loads : List ℕ → Bool
  pub key_in : List ℕ → Option (List ℕ)

abbrev pub signing : Verifies → (List ℕ → Option ℤ) → (List ℕ → Bool) → (List ℕ → Option (List ℕ)) → Signing
signing verifies algorithm loads key_in = record { verifies = verifies; algorithm = algorithm; loads = loads; key_in = key_in }

-- a last line is all that is done to the input and the output
pub record OnlyLine (text : List ℕ) (input input' output output' : Stream) : Type 0 where
  pub line : EndsWith output output' text
  pub left : input'.left ≡ input.left
  pub read_faults : input'.read_faults ≡ input.read_faults

-- no command ran: that is the last line, and nothing is read, loaded or drawn
pub record RanNone (before after : Outside) : Type 0 where
  pub line : OnlyLine (codes "fault words\n") before.input after.input before.output after.output
  pub rest : after ≡ only_streams before after

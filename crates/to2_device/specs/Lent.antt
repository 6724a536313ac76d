-- What a device is lent for a message: a source of random draws, and a suite whose signer may fail.
use Rattle.std.specs.Prelude.{◌≡◌, ℕ, List, Result, Ok, Err}
use Rattle.port_base.specs.Count.{Rises}
use Rattle.fdo_ports.specs.Draw.{Drawn, Draws, drawn}
use Rattle.fdo_ports.specs.declared.failed.Failed.{Failed}
use Rattle.fdo_ports.specs.declared.random.Random.{Ghosts as Random}
use Rattle.suite_port.specs.declared.holder.Holder.{Ghosts as Holder}

-- the draws and the failures of the source, and the failures of the suite
pub record Lent : Type 0 where
  pub random : Drawn
  pub faults : ℕ

abbrev pub lent : {X Y : Type 0} → Random X → X → Holder Y → Y → Lent
lent told source holder suite = record { random = drawn told source; faults = holder.faults suite }

-- with the source as it is
abbrev pub lending : {Y : Type 0} → Drawn → Holder Y → Y → Lent
lending random holder suite = record { random = random; faults = holder.faults suite }

-- where no suite is lent
abbrev pub source_alone : {X : Type 0} → Random X → X → Lent
source_alone told source = record { random = drawn told source; faults = 0 }

-- ---- how they answer

abbrev pub draws : Lent → Result (List ℕ) Failed → Lent → Type 0
draws s answer t = Draws s.random answer t.random × (t.faults ≡ s.faults)

-- by what signs means: the key, the text and the signature
abbrev pub signs : (List ℕ → List ℕ → List ℕ → Type 0) → Lent → List ℕ → List ℕ → Result (List ℕ) Failed → Lent → Type 0
signs signed s key text (Ok sig) t = signed key text sig × (t.random ≡ s.random) × (t.faults ≡ s.faults)
signs signed s key text (Err _) t = Rises s.faults t.faults × (t.random ≡ s.random)

-- no clock, no certificate and no disk is asked
abbrev pub no_clock : Lent → Result ℕ Failed → Lent → Type 0
no_clock s answer t = ⊥

abbrev pub no_issuer : Lent → List ℕ → Result (List ℕ) Failed → Lent → Type 0
no_issuer s key answer t = ⊥

abbrev pub no_disk : {C : Type 0} → Lent → C → Result (Unit {0}) Failed → Lent → Type 0
no_disk s content answer t = ⊥

-- where no suite is lent, nothing is signed
abbrev pub unsigned : List ℕ → List ℕ → List ℕ → Type 0
unsigned key text sig = ⊥

-- What a call of a state does, by a row of the rules.
use Rattle.std.specs.Prelude.{◌≡◌, ℕ, List}
use Rattle.fdo_msgs.specs.declared.next.Next.{Next}
use Rattle.fdo_msgs.specs.declared.next.Next.TheVariants as next
use Rattle.fdo_msgs.specs.declared.packet.Packet.{Packet}
use Rattle.fdo_rules.specs.Moves.{Moves, reply_to}
use Rattle.fdo_rules.specs.Row.{Row, Comes, Leaves}
use Rattle.fdo_rules.specs.declared.unfit.Unfit.{Unfit}
use Rattle.fdo_rules.specs.declared.unfit.Unfit.TheVariants as unfit
use Rattle.to2_device.specs.Lent.{Lent, draws, signs, no_clock, no_issuer, no_disk}

module _ (signed : List ℕ → List ℕ → List ℕ → Type 0) {C R : Type 0} where
  abbrev pub ComesTo : Row C R → Lent → R → Lent → Type 0
  ComesTo row s r t = Comes draws no_clock (signs signed) no_issuer (no_disk {C = C}) row s r t

  abbrev pub LeavesAt : Row C R → Lent → Lent → Type 0
  LeavesAt row s t = Leaves draws no_clock (signs signed) no_issuer (no_disk {C = C}) row s t

-- it comes to the row's result, from what it was lent as it was before to what that is after, or memory runs out on the way
abbrev pub Steps : {T V I C : Type 0} → (List ℕ → List ℕ → List ℕ → Type 0) → (T → V) → Row C (Moves V (Unit {0})) → Lent → Next T I → Lent → Type 0
Steps signed view row s (next.On state packet) t = ComesTo signed row s (Moves.On (view state) packet) t
Steps signed view row s (next.Stopped rest e reply) t = ComesTo signed row s (Moves.Stopped e reply) t
Steps signed view row s (next.NoMemory rest) t = LeavesAt signed row s t

-- the same where nothing is asked
abbrev pub Gives : {T V I : Type 0} → (T → V) → Moves V (Unit {0}) → Next T I → Type 0
Gives view move (next.On state packet) = move ≡ Moves.On (view state) packet
Gives view move (next.Stopped rest e reply) = move ≡ Moves.Stopped e reply
Gives view move (next.NoMemory rest) = Unit {0}

-- the device in it stays, whether it goes on or not
abbrev pub Keeps : {T I : Type 0} → (T → I) → I → Next T I → Type 0
Keeps idle before (next.On state packet) = idle state ≡ before
Keeps idle before (next.Stopped rest e reply) = rest ≡ before
Keeps idle before (next.NoMemory rest) = rest ≡ before

-- a message is refused for a cause, or memory ran out
abbrev pub Refuses : {T I : Type 0} → Unfit → Packet → I → Next T I → Type 0
Refuses why packet before (next.On state answer) = ⊥
Refuses (unfit.For e) packet before (next.Stopped rest given reply) = (rest ≡ before) × (given ≡ e) × (reply ≡ reply_to packet e)
Refuses unfit.NoMemory packet before (next.Stopped rest given reply) = ⊥
Refuses why packet before (next.NoMemory rest) = rest ≡ before

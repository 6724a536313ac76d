-- A row's steps one after the other.
use Rattle.std.proofs.Common.{◌≡◌, inl, inr, ℕ, List, Option, Result, Err, refl, sym, ap, subst, ◌∙◌}
use Rattle.fdo_ports.specs.declared.failed.Failed.{Failed}
use Rattle.voucher_chain.specs.declared.credential.Credential.{Credential}
use Rattle.fdo_msgs.specs.declared.cause.Cause.{Cause}
use Rattle.fdo_msgs.specs.declared.next.Next.{Next}
use Rattle.fdo_msgs.specs.declared.next.Next.TheVariants as next
use Rattle.fdo_msgs.specs.declared.packet.Packet.{Packet}
use Rattle.fdo_rules.specs.Moves.{Moves, refused, reply_to}
use Rattle.fdo_rules.specs.Row.{Row}
use Rattle.fdo_rules.specs.declared.unfit.Unfit.{Unfit}
use Rattle.fdo_rules.specs.declared.unfit.Unfit.TheVariants as unfit
use Rattle.to2_device.specs.Lent.{Lent, draws, signs}
use Rattle.to2_device.specs.Steps.{Gives, LeavesAt, Refuses, Steps}
use Rattle.to2_device.specs.Told.{Tells}

-- what a refusal gives is the move
pub stopped_is : {T V : Type 0} (e : Cause) (packet : Packet) (given : Cause) (reply : Option Packet) → given ≡ e → reply ≡ reply_to packet e → Moves.Stopped given reply ≡ refused {T = T} {V = V} packet e
stopped_is {T} {V} e packet given reply same answer =
    let stop : Cause → Option Packet → Moves T V = λ x y. Moves.Stopped x y in
    ap (λ x. stop x reply) same ∙ ap (stop e) answer

-- what a device keeps
abbrev Kept : Type 0
Kept = Option Credential

module _ (signed : List ℕ → List ℕ → List ℕ → Type 0) where
  -- memory ran out before anything is asked
  pub at_once : {R : Type 0} (row : Row Kept R) (s : Lent) → LeavesAt signed row s s
  at_once (Row.Ends r) s = refl
  at_once (Row.Draws rest) s = inl refl
  at_once (Row.Reads rest) s = inl refl
  at_once (Row.Signs key text rest) s = inl refl
  at_once (Row.Issues key rest) s = inl refl
  at_once (Row.Stores content rest) s = refl

  module _ {T V I : Type 0} (view : T → V) where
    -- nothing more is asked
    pub at_end : (move : Moves V (Unit {0})) (s t : Lent) (r : Next T I) → t ≡ s → Gives view move r → Steps {C = Kept} signed view (Row.Ends move) s r t
    at_end move s t (next.On state packet) same h = (sym h, same)
    at_end move s t (next.Stopped rest e reply) same h = (sym h, same)
    at_end move s t (next.NoMemory rest) same h = same

    -- a refusal
    pub refusal : (e : Cause) (packet : Packet) (before : I) (s t : Lent) (r : Next T I) → t ≡ s → Refuses (unfit.For e) packet before r → Steps {C = Kept} signed view (Row.Ends (refused packet e)) s r t
    refusal e packet before s t (next.On state answer) same h = absurd h
    refusal e packet before s t (next.Stopped rest given reply) same h =
        (stopped_is e packet given reply h.1 h.2, same)
    refusal e packet before s t (next.NoMemory rest) same h = same

    -- memory ran out at once
    pub gave_up : (row : Row Kept (Moves V (Unit {0}))) (packet : Packet) (before : I) (s t : Lent) (r : Next T I) → t ≡ s → Refuses unfit.NoMemory packet before r → Steps signed view row s r t
    gave_up row packet before s t (next.On state answer) same h = absurd h
    gave_up row packet before s t (next.Stopped rest given reply) same h = absurd h
    gave_up row packet before s t (next.NoMemory rest) same h = subst (λ (u : Lent). LeavesAt signed row s u) (sym same) (at_once row s)

    -- a check that fails before anything is asked
    pub check_fails : {A : Type 0} (by : Result A Cause → Row Kept (Moves V (Unit {0}))) (packet : Packet) → ((e : Cause) → by (Err e) ≡ Row.Ends (refused packet e)) → (told : Result A Cause) (why : Unfit) (before : I) (s t : Lent) (r : Next T I) →
        t ≡ s → Tells told (Err why) → Refuses why packet before r → Steps signed view (by told) s r t
    check_fails by packet ends told (unfit.For e) before s t r same h given =
        subst (λ (x : Row Kept (Moves V (Unit {0}))). Steps signed view x s r t) (sym (ap by h ∙ ends e)) (refusal e packet before s t r same given)
    check_fails by packet ends told unfit.NoMemory before s t r same h given = gave_up (by told) packet before s t r same given

    -- a draw, and then the rest
    pub after_draw : (rest : Result (List ℕ) Failed → Row Kept (Moves V (Unit {0}))) (answer : Result (List ℕ) Failed) (s u t : Lent) (r : Next T I) → draws s answer u → Steps signed view (rest answer) u r t → Steps signed view (Row.Draws rest) s r t
    after_draw rest answer s u t (next.On state packet) d h = (answer, u, d, h)
    after_draw rest answer s u t (next.Stopped back e reply) d h = (answer, u, d, h)
    after_draw rest answer s u t (next.NoMemory back) d h = inr (answer, u, d, h)

    -- a signature, and then the rest
    pub after_signature : (key text : List ℕ) (rest : Result (List ℕ) Failed → Row Kept (Moves V (Unit {0}))) (answer : Result (List ℕ) Failed) (s u t : Lent) (r : Next T I) →
        signs signed s key text answer u → Steps signed view (rest answer) u r t → Steps signed view (Row.Signs key text rest) s r t
    after_signature key text rest answer s u t (next.On state packet) d h = (answer, u, d, h)
    after_signature key text rest answer s u t (next.Stopped back e reply) d h = (answer, u, d, h)
    after_signature key text rest answer s u t (next.NoMemory back) d h = inr (answer, u, d, h)

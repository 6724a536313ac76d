-- Rows on whose way memory runs out.
use Rattle.std.proofs.Common.{◌≡◌, refl, sym, subst, inl, inr, ℕ, List, Result, Ok, Err}
use Rattle.cbor_core.specs.declared.no_memory.NoMemory.{NoMemory}
use Rattle.fdo_ports.specs.declared.failed.Failed.{Failed}
use Rattle.fdo_msgs.specs.declared.answer.Answer.{Answer}
use Rattle.fdo_msgs.specs.declared.packet.Packet.{Packet}
use Rattle.fdo_rules.specs.Rendezvous.{RvRow, RvView}
use Rattle.fdo_rules.specs.Row.{Row}
use Rattle.rendezvous.specs.Carrying.{Comes, Ends, Judges, carried}
use Rattle.rendezvous.specs.RvState.{RvComes, RvDraws, RvLeaves, RvOutside, RvReads}
use Rattle.rendezvous.specs.declared.verdict.Verdict.{Verdict}

-- before all of it
pub at_once : (row : RvRow) (s : RvOutside) → RvLeaves row s s
at_once (Row.Ends r) s = refl
at_once (Row.Draws next) s = inl refl
at_once (Row.Reads next) s = inl refl
at_once (Row.Signs key text next) s = inl refl
at_once (Row.Issues key next) s = inl refl
at_once (Row.Stores content next) s = refl

-- after all of it
pub at_end : (row : RvRow) (s : RvOutside) (r : RvView × Answer) (t : RvOutside) → RvComes row s r t → RvLeaves row s t
at_end (Row.Ends _) s r t comes = comes.1
at_end (Row.Draws next) s r t comes = inr (comes.0, comes.1, comes.2, at_end (next comes.0) comes.1 r t comes.3)
at_end (Row.Reads next) s r t comes = inr (comes.0, comes.1, comes.2, at_end (next comes.0) comes.1 r t comes.3)
at_end (Row.Signs key text next) s r t comes = absurd comes.2
at_end (Row.Issues key next) s r t comes = absurd comes.2
at_end (Row.Stores content next) s r t comes = absurd comes.2

-- at its end
pub ended : (row : RvRow) (s : RvView) (packet : Packet) (v : Verdict) (o : RvOutside) → Ends row s packet v → Comes row s packet o v o
ended row s packet v o is = subst (λ (r : RvRow). RvComes r o (carried s packet v) o) (sym is) (refl, refl)

module _ (s : RvView) (packet : Packet) (before mid after : RvOutside) (result : Result Verdict NoMemory) where
  pub after_draw : (next : Result (List ℕ) Failed → RvRow) (draw : Result (List ℕ) Failed) → RvDraws before draw mid → Judges (next draw) s packet mid result after → Judges (Row.Draws next) s packet before result after
  after_draw next draw draws judges = go result judges where
    go : (r : Result Verdict NoMemory) → Judges (next draw) s packet mid r after → Judges (Row.Draws next) s packet before r after
    go (Ok v) judges = (draw, mid, draws, judges)
    go (Err _) judges = inr (draw, mid, draws, judges)

  pub after_read : (next : Result ℕ Failed → RvRow) (second : Result ℕ Failed) → RvReads before second mid → Judges (next second) s packet mid result after → Judges (Row.Reads next) s packet before result after
  after_read next second reads judges = go result judges where
    go : (r : Result Verdict NoMemory) → Judges (next second) s packet mid r after → Judges (Row.Reads next) s packet before r after
    go (Ok v) judges = (second, mid, reads, judges)
    go (Err _) judges = inr (second, mid, reads, judges)

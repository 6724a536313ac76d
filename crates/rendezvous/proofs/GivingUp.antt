-- What a server does at a message where memory runs out.
use Rattle.std.proofs.Common.{◌≡◌, refl, inl, inr, sym, ap, subst, ◌∙◌, ℕ, List, Bool, Result, Ok, Err}
use Rattle.std.specs.Prelude.{IfOk, OnErr}
use Rattle.cbor_core.specs.declared.no_memory.NoMemory.{NoMemory}
use Rattle.fdo_msgs.specs.declared.answer.Answer.{Answer}
use Rattle.fdo_msgs.specs.declared.packet.Packet.{Packet}
use Rattle.fdo_rules.specs.declared.rendezvous.Protocol.{Protocol}
use Rattle.fdo_rules.specs.Rendezvous.{RvView, ended_in, protocol_named, rendezvous_row}
use Rattle.fdo_rules.specs.Suite.{Checking}
use Rattle.rendezvous.specs.Carrying.{CarriesJudged, Fits, Judges, Left, carried, protocol_of}
use Rattle.rendezvous.specs.RvState.{RvGivesUp, RvLeaves, RvOutside, Spared, Suited, own_of, rv_state}
use Rattle.rendezvous.specs.declared.verdict.Verdict.{Verdict}
use Rattle.rendezvous.proofs.Leaving.{at_end}
use Rattle.rendezvous.proofs.Touching.{spared}

abbrev suited_of : (List ℕ → Bool) → ℕ → Suited
suited_of held faults = record { held = held; faults = faults }

-- the keys that are held stay, and the count
pub suited_same : (held held' : List ℕ → Bool) (faults faults' : ℕ) → held' ≡ held → faults' ≡ faults → suited_of held' faults' ≡ suited_of held faults
suited_same held held' faults faults' same still = ap (λ (h : List ℕ → Bool). suited_of h faults') same ∙ ap (λ n. suited_of held n) still

module _ (suite : Checking) (s : RvView) (packet : Packet) (before after : RvOutside) where
  -- the session that the message names has ended
  abbrev gone : Protocol → RvView → RvView
  gone own t = ended_in (protocol_named own s packet.token) t packet.token

  left_then : (v : Verdict) (t : RvView) → Fits (own_of packet.kind) s v → Left (protocol_of v) s packet t → Spared s packet (gone (own_of packet.kind) t)
  left_then v t fits left =
      spared s packet t (subst (λ (own : Protocol). Left own s packet t) fits.0 left)

  both : (judged : Result Verdict NoMemory) (result : Result Answer NoMemory) (t : RvView) → Judges (rendezvous_row suite s packet) s packet before judged after → IfOk judged (Fits (own_of packet.kind) s) → CarriesJudged s packet judged result t → OnErr result (RvLeaves (rendezvous_row suite s packet) before after × Spared s packet (gone (own_of packet.kind) t))
  both judged (Ok answer) t judges fits carries = tt
  both (Ok v) (Err e) t judges fits carries =
      (at_end (rendezvous_row suite s packet) before (carried s packet v) after judges, left_then v t fits carries)
  both (Err e) (Err f) t judges fits carries =
      (judges, spared s packet t (inl carries.1))

  pub gave_up : (suite_before suite_after : Suited) (judged : Result Verdict NoMemory) (result : Result Answer NoMemory) (kept : RvView) (place : Protocol) (t : RvView) → Judges (rendezvous_row suite s packet) s packet before judged after → IfOk judged (Fits (own_of packet.kind) s) → CarriesJudged s packet judged result kept → place ≡ protocol_named (own_of packet.kind) s packet.token → t ≡ ended_in place kept packet.token → suite_after ≡ suite_before → OnErr result (RvGivesUp suite (rv_state s before suite_before) packet (rv_state t after suite_after))
  gave_up suite_before suite_after judged result kept place t judges fits carries at ended same = go result carries where
    is : t ≡ gone (own_of packet.kind) kept
    is = ended ∙ ap (λ (p : Protocol). ended_in p kept packet.token) at

    go : (r : Result Answer NoMemory) → CarriesJudged s packet judged r kept → OnErr r (RvGivesUp suite (rv_state s before suite_before) packet (rv_state t after suite_after))
    go (Ok answer) carries = tt
    go (Err e) carries = let h = both judged (Err e) kept judges fits carries in (h.0, subst (λ (u : RvView). Spared s packet u) (sym is) h.1, same)

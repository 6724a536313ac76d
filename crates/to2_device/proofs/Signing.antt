-- The device's proof, row by row.
use Rattle.std.proofs.Common.{◌≡◌, ℕ, List, ◌++◌, Result, Ok, Err, sym, subst, ap, ◌∙◌}
use Rattle.port_base.specs.Count.{Rises}
use Rattle.cose_envelopes.specs.declared.sign1.Sign1.{Sign1}
use Rattle.fdo_ports.specs.declared.failed.Failed.{Failed}
use Rattle.fdo_msgs.specs.Claims.{device_claims}
use Rattle.fdo_msgs.specs.declared.cause.Cause.{Cause}
use Rattle.fdo_msgs.specs.declared.cause.Cause.TheVariants as cause
use Rattle.fdo_msgs.specs.declared.cause.Object.TheVariants as object
use Rattle.fdo_msgs.specs.declared.next.Next.{Next}
use Rattle.fdo_msgs.specs.declared.packet.Packet.{Packet}
use Rattle.fdo_rules.specs.Checks.{fits_peer}
use Rattle.fdo_rules.specs.DeviceTo2.{Agreed, Walk, WalkRow, Walked, agreement, by_agreement, claims_of, proof_body, proved_with, proves, with_signature, with_xb2}
use Rattle.fdo_rules.specs.Made.{envelope, signed_bytes, text_to_sign}
use Rattle.fdo_rules.specs.Row.{Row}
use Rattle.fdo_rules.specs.Suite.{Suite}
use Rattle.fdo_rules.specs.declared.unfit.Unfit.TheVariants as unfit
use Rattle.to2_device.specs.Lent.{Lent}
use Rattle.to2_device.specs.Steps.{Gives, Refuses, Steps}
use Rattle.to2_device.proofs.Stepping.{after_signature, at_end, refusal}

abbrev signs_proof : Packet → Walk → List ℕ → Agreed → WalkRow
signs_proof packet w setup_dv a = Row.Signs w.self.me (text_to_sign a.alg (claims_of w a.xb)) (with_signature w packet (proved_with w setup_dv a) a.alg)

module _ (signed : List ℕ → List ℕ → List ℕ → Type 0) (packet : Packet) {T I : Type 0} (view : T → Walked) where
  module _ (w : Walk) (setup_dv : List ℕ) (a : Agreed) where
    abbrev sends : List ℕ → Next T I → Type 0
    sends body r = Gives view (proves w packet (proved_with w setup_dv a) body (fits_peer w.shown.payload.max_size body)) r

    -- the signature is made, and the proof is sent or has no room
    pub proof_sent : (proof : Sign1) (s u t : Lent) (r : Next T I) → proof ≡ envelope a.alg (device_claims setup_dv) (claims_of w a.xb) proof.sig → signed w.self.me (text_to_sign a.alg (claims_of w a.xb)) proof.sig →
        u.random ≡ s.random → u.faults ≡ s.faults → t ≡ u → sends (signed_bytes proof) r → Steps signed view (signs_proof packet w setup_dv a) s r t
    proof_sent proof s u t r is made source faults same h =
        after_signature signed view w.self.me (text_to_sign a.alg (claims_of w a.xb)) (with_signature w packet (proved_with w setup_dv a) a.alg) (Ok proof.sig) s u t r (made, source, faults)
        (at_end signed view (proves w packet (proved_with w setup_dv a) (proof_body w setup_dv a.xb a.alg proof.sig) (fits_peer w.shown.payload.max_size (proof_body w setup_dv a.xb a.alg proof.sig))) u t r same
        (subst (λ (x : Sign1). sends (signed_bytes x) r) is h))

    -- the signer fails
    pub not_signed : (failed : Failed) (idle : I) (s u t : Lent) (r : Next T I) → Rises s.faults u.faults → u.random ≡ s.random → t ≡ u → Refuses (unfit.For (cause.Outside object.Signer)) packet idle r → Steps signed view (signs_proof packet w setup_dv a) s r t
    not_signed failed idle s u t r rises source same h =
        after_signature signed view w.self.me (text_to_sign a.alg (claims_of w a.xb)) (with_signature w packet (proved_with w setup_dv a) a.alg) (Err failed) s u t r (rises, source)
        (refusal signed view (cause.Outside object.Signer) packet idle u t r same h)

  -- both ends agree, and the device signs
  pub agreed_signs : (suite : Suite) (w : Walk) (setup_dv first second draw : List ℕ) (a : Agreed) (s between t : Lent) (r : Next T I) → draw ≡ first ++ second → agreement suite w draw ≡ Ok a → between ≡ s →
      Steps signed view (signs_proof packet w setup_dv a) between r t → Steps signed view (with_xb2 suite w packet setup_dv first (Ok second)) s r t
  agreed_signs suite w setup_dv first second draw a s between t r drawn told same h =
      let from : Steps signed view (signs_proof packet w setup_dv a) s r t = subst (λ (u : Lent). Steps signed view (signs_proof packet w setup_dv a) u r t) same h in
      let agrees : agreement suite w (first ++ second) ≡ Ok a = ap (λ (x : List ℕ). agreement suite w x) (sym drawn) ∙ told in
      subst (λ (x : Result Agreed Cause). Steps signed view (by_agreement w packet setup_dv x) s r t) (sym agrees) from

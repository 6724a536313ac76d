-- An owner up to the proof of a device (FIDO Device Onboard 1.1, sections 5.5.2 to 5.5.7).
use Rattle.std.specs.Prelude.{ℕ, zero, suc, ℤ, List, [], ◌∷◌, ◌++◌, length, Bool, true, false, not, nat_lt, if◌then◌else◌, Option, Some, None, option_map, option_and_then, Result, Ok, Err, ok_or}
use Rattle.std.specs.Str.{bytes_eq}
use Rattle.fdo_ports.specs.declared.failed.Failed.{Failed}
use Rattle.voucher_chain.specs.declared.entry.Entry.{Entry}
use Rattle.voucher_chain.specs.declared.voucher.Voucher.{Voucher}
use Rattle.voucher_chain.specs.declared.rv_info.RvInstr.{RvInstr}
use Rattle.voucher_map.specs.Finding.{Finding, find_in}
use Rattle.voucher_map.specs.Map.{guid_of, promoted}
use Rattle.voucher_map.specs.declared.kept.Kept.{Kept}
use Rattle.voucher_map.specs.declared.seen.Seen.{Seen}
use Rattle.fdo_msgs.specs.Claims.{owner_claims}
use Rattle.fdo_msgs.specs.Kind as kind
use Rattle.fdo_msgs.specs.Payloads.{header_text, setup_text}
use Rattle.fdo_msgs.specs.Said.{body_of}
use Rattle.fdo_msgs.specs.Token.{bearer_token}
use Rattle.fdo_msgs.specs.declared.cause.Cause.{Cause}
use Rattle.fdo_msgs.specs.declared.cause.Cause.TheVariants as cause
use Rattle.fdo_msgs.specs.declared.cause.Object.TheVariants as object
use Rattle.fdo_msgs.specs.declared.header_payload.HeaderPayload.{HeaderPayload}
use Rattle.fdo_msgs.specs.declared.msg.Msg.TheVariants as msg
use Rattle.fdo_msgs.specs.declared.packet.Packet.{Packet}
use Rattle.fdo_rules.specs.Channel.{Channel, Side, fresh, sealed_within}
use Rattle.fdo_rules.specs.Checks.{◌>>=◌, wants, said, verified_by, fits_peer, key_bytes, no_algorithm}
use Rattle.fdo_rules.specs.Made.{envelope, message_hash, signed_bytes, text_to_sign}
use Rattle.fdo_rules.specs.Owner.{Owner, OwnSession, OwnView, OwnRow, Phase, Setup, answered, base_with, in_phase, refuses, shut_down, with_map, with_sessions}
use Rattle.fdo_rules.specs.Parts.{HelloDevice, ProveDevice, hello_device, get_ov_next_entry, prove_device}
use Rattle.fdo_rules.specs.Row.{Row}
use Rattle.fdo_rules.specs.Server.{begun, reply}
use Rattle.fdo_rules.specs.Suite.{Suite}

-- ---- TO2.HelloDevice

-- the voucher under a Guid, and what stands there: a base with its candidate, or a candidate, which has none
abbrev pub shown_in : List ℕ → Finding → Option (Voucher × Seen)
shown_in guid (Finding.Base base candidate) = Some (base, record { base = guid; candidate = option_map guid_of candidate })
shown_in guid (Finding.Candidate candidate) = Some (candidate, record { base = guid; candidate = None })
shown_in guid Finding.Sent = None
shown_in guid Finding.Absent = None

-- the key of the first certificate, which can sign
abbrev pub first_certificate : Option (List (List ℕ)) → Option (List ℕ)
first_certificate None = None
first_certificate (Some []) = None
first_certificate (Some (leaf ∷ rest)) = Some leaf

abbrev pub signing : Suite → List ℕ → Option (List ℕ)
signing suite key = option_map (λ alg. key) (suite.algorithm key)

abbrev pub leaf_key : Suite → Option (List (List ℕ)) → Option (List ℕ)
leaf_key suite chain = option_and_then (signing suite) (option_and_then suite.leaf (first_certificate chain))

-- what is known before the draws
pub record Picked : Type 0 where
  pub hello : HelloDevice
  pub voucher : Voucher
  pub seen : Seen
  pub bits : ℕ
  pub alg : ℤ
  pub leaf : List ℕ

unfoldable pub hello_checks : Suite → Owner → OwnView → Packet → Result Picked Cause
hello_checks suite owner o packet =
    said hello_device kind.hello_device packet.body
    >>= λ hello. wants (not o.shut) (cause.Outside object.Shut)
    >>= λ _. ok_or (shown_in hello.guid (find_in hello.guid o.map)) (cause.Missing hello.guid)
    >>= λ shown. wants (suite.agrees hello.kex) no_algorithm
    >>= λ _. ok_or (suite.bits hello.cipher) (cause.NoAlgorithm hello.cipher)
    >>= λ bits. ok_or (suite.algorithm (key_bytes owner.key)) no_algorithm
    >>= λ alg. ok_or (leaf_key suite shown.0.chain) no_algorithm
    >>= λ leaf. Ok (record { hello = hello; voucher = shown.0; seen = shown.1; bits = bits; alg = alg; leaf = leaf })

abbrev pub payload_for : Owner → Packet → Picked → List ℕ → HeaderPayload
payload_for owner packet p xa =
    record {
      header = p.voucher.header;
      entries = length p.voucher.entries;
      hmac = p.voucher.hmac;
      hmac_raw = p.voucher.hmac_raw;
      nonce = p.hello.nonce;
      sig = p.hello.sig;
      xa = xa;
      hello_hash = message_hash packet.body;
      max_size = owner.offer.max_size;
    }

abbrev pub shown_text : Owner → Packet → Picked → List ℕ → List ℕ
shown_text owner packet p xa = header_text (payload_for owner packet p xa)

abbrev pub shown_body : Owner → Packet → Picked → List ℕ → List ℕ → List ℕ → List ℕ
shown_body owner packet p prove_dv xa sig = signed_bytes (envelope p.alg (owner_claims prove_dv owner.key) (shown_text owner packet p xa) sig)

abbrev pub session_for : Picked → List ℕ → List ℕ × List ℕ → OwnSession
session_for p prove_dv half =
    record { voucher = p.voucher; seen = p.seen; prove_dv = prove_dv; xa = half.0; private = half.1; bits = p.bits; leaf = p.leaf; hello = p.hello; phase = Phase.Proving }

abbrev pub begins : OwnView → Packet → List ℕ → OwnSession → List ℕ → Result (Unit {0}) Cause → OwnRow
begins o packet token session body (Ok _) = Row.Ends (with_sessions o (begun packet token session o.sessions), reply (Some (bearer_token token)) kind.prove_ov_hdr body)
begins o packet token session body (Err e) = refuses o packet e

abbrev pub with_shown : Owner → OwnView → Packet → Picked → List ℕ → List ℕ → List ℕ × List ℕ → Result (List ℕ) Failed → OwnRow
with_shown owner o packet p prove_dv token half (Ok sig) =
    begins o packet token (session_for p prove_dv half) (shown_body owner packet p prove_dv half.0 sig) (fits_peer p.hello.max_size (shown_body owner packet p prove_dv half.0 sig))
with_shown owner o packet p prove_dv token half (Err _) = refuses o packet (cause.Outside object.Signer)

-- the owner's half of the key agreement is made of two draws
abbrev pub shows : Owner → OwnView → Packet → Picked → List ℕ → List ℕ → List ℕ × List ℕ → OwnRow
shows owner o packet p prove_dv token half = Row.Signs (key_bytes owner.key) (text_to_sign p.alg (shown_text owner packet p half.0)) (with_shown owner o packet p prove_dv token half)

abbrev pub with_xa2 : Suite → Owner → OwnView → Packet → Picked → List ℕ → List ℕ → List ℕ → Result (List ℕ) Failed → OwnRow
with_xa2 suite owner o packet p prove_dv token first (Ok second) = shows owner o packet p prove_dv token (suite.first p.hello.kex (first ++ second))
with_xa2 suite owner o packet p prove_dv token first (Err _) = refuses o packet (cause.Outside object.Random)

abbrev pub with_xa1 : Suite → Owner → OwnView → Packet → Picked → List ℕ → List ℕ → Result (List ℕ) Failed → OwnRow
with_xa1 suite owner o packet p prove_dv token (Ok first) = Row.Draws (with_xa2 suite owner o packet p prove_dv token first)
with_xa1 suite owner o packet p prove_dv token (Err _) = refuses o packet (cause.Outside object.Random)

abbrev pub with_token : Suite → Owner → OwnView → Packet → Picked → List ℕ → Result (List ℕ) Failed → OwnRow
with_token suite owner o packet p prove_dv (Ok token) = Row.Draws (with_xa1 suite owner o packet p prove_dv token)
with_token suite owner o packet p prove_dv (Err _) = refuses o packet (cause.Outside object.Random)

abbrev pub with_nonce : Suite → Owner → OwnView → Packet → Picked → Result (List ℕ) Failed → OwnRow
with_nonce suite owner o packet p (Ok prove_dv) = Row.Draws (with_token suite owner o packet p prove_dv)
with_nonce suite owner o packet p (Err _) = refuses o packet (cause.Outside object.Random)

abbrev pub hello_row : Suite → Owner → OwnView → Packet → Result Picked Cause → OwnRow
hello_row suite owner o packet (Ok p) = Row.Draws (with_nonce suite owner o packet p)
hello_row suite owner o packet (Err e) = refuses o packet e

-- ---- TO2.GetOVNextEntry

abbrev pub nth_entry : ℕ → List Entry → Option Entry
nth_entry n [] = None
nth_entry zero (entry ∷ entries) = Some entry
nth_entry (suc n) (entry ∷ entries) = nth_entry n entries

abbrev pub entry_body : ℕ → Entry → List ℕ
entry_body n entry = body_of (msg.OvNextEntry n entry)

unfoldable pub entry_checks : OwnSession → Packet → Result (List ℕ) Cause
entry_checks s packet =
    said get_ov_next_entry kind.get_ov_next_entry packet.body
    >>= λ n. ok_or (nth_entry n s.voucher.entries) (cause.EntryNumber n)
    >>= λ entry. fits_peer s.hello.max_size (entry_body n entry)
    >>= λ _. Ok (entry_body n entry)

abbrev pub entry_row : OwnView → Packet → OwnSession → Result (List ℕ) Cause → OwnRow
entry_row o packet s (Ok body) = answered o packet s kind.ov_next_entry body
entry_row o packet s (Err e) = refuses o packet e

-- ---- TO2.ProveDevice

-- where the session's Guid is a candidate's by now, that becomes the base
abbrev pub promotion : List ℕ → List Kept → Finding → Option (List Kept)
promotion guid entries (Finding.Candidate candidate) = option_map (λ base. promoted (guid_of base) entries) (base_with guid entries)
promotion guid entries found = None

-- the map for the rest of the row
abbrev pub map_after : List Kept → Option (List Kept) → List Kept
map_after entries None = entries
map_after entries (Some changed) = changed

abbrev pub is_there : Finding → Bool
is_there (Finding.Base base candidate) = true
is_there (Finding.Candidate candidate) = true
is_there Finding.Sent = false
is_there Finding.Absent = false

-- the base whose credential may stay: it has no entries, and no candidate is kept
abbrev pub bare_base : Finding → Option Voucher
bare_base (Finding.Base base None) = if nat_lt (length base.entries) 1 then Some base else None
bare_base found = None

abbrev pub asked_to_keep : Bool → Finding → Option Voucher
asked_to_keep true found = bare_base found
asked_to_keep false found = None

pub record Shown : Type 0 where
  pub proof : ProveDevice
  pub change : Option (List Kept)
  pub keep : Option Voucher
  pub shared : List ℕ

unfoldable pub proof_checks : Suite → Owner → OwnView → OwnSession → Packet → Result Shown Cause
proof_checks suite owner o s packet =
    said prove_device kind.prove_device packet.body
    >>= λ proof. verified_by suite.verifies s.leaf proof.sign
    >>= λ _. wants (bytes_eq proof.nonce s.prove_dv) cause.Nonce
    >>= λ _. wants (bytes_eq proof.guid s.voucher.header.guid) cause.GuidDiffers
    >>= λ _. wants (not o.shut) (cause.Outside object.Shut)
    >>= λ _. wants (is_there (find_in s.voucher.header.guid o.map)) (cause.Missing s.voucher.header.guid)
    >>= λ _. ok_or (suite.finish s.hello.kex s.private proof.xb) no_algorithm
    >>= λ shared. Ok (shown_with proof shared (promotion s.voucher.header.guid o.map (find_in s.voucher.header.guid o.map))) where
      shown_with : ProveDevice → List ℕ → Option (List Kept) → Shown
      shown_with proof shared change =
          record { proof = proof; change = change; keep = asked_to_keep owner.offer.reuse (find_in s.voucher.header.guid (map_after o.map change)); shared = shared }

abbrev pub setup_for : OwnSession → Shown → List ℕ → List (List RvInstr) → Bool → Channel → Setup
setup_for s p guid rv reuse c = record { setup_dv = p.proof.setup_dv; xb = p.proof.xb; guid = guid; rv = rv; reuse = reuse; channel = c }

abbrev pub fresh_channel : OwnSession → Shown → Channel
fresh_channel s p = fresh s.hello.cipher s.bits p.shared

abbrev pub setup_payload : Owner → Shown → List ℕ → List (List RvInstr) → List ℕ
setup_payload owner p guid rv = setup_text (record { rv = rv; guid = guid; nonce = p.proof.setup_dv; key = owner.key })

-- the answer is made, then the map is written where it changes, and then it is sent
abbrev pub setting : OwnView → Packet → OwnSession → Setup → List ℕ → OwnRow
setting o packet s setup body = answered o packet (in_phase s (Phase.Setting setup)) kind.setup_device body

abbrev pub promoted_or_shut : OwnView → Packet → OwnSession → Setup → List ℕ → List Kept → Result (Unit {0}) Failed → OwnRow
promoted_or_shut o packet s setup body map (Ok _) = setting (with_map o map) packet s setup body
promoted_or_shut o packet s setup body map (Err _) = refuses (shut_down o) packet (cause.Outside object.Disk)

abbrev pub by_change : Option (List Kept) → OwnView → Packet → OwnSession → Setup → List ℕ → OwnRow
by_change (Some map) o packet s setup body = Row.Stores map (promoted_or_shut o packet s setup body map)
by_change None o packet s setup body = setting o packet s setup body

abbrev pub with_sealed : OwnView → Packet → OwnSession → Shown → List ℕ → List (List RvInstr) → Bool → Result (List ℕ × Channel) Cause → OwnRow
with_sealed o packet s p guid rv reuse (Ok made) = by_change p.change o packet s (setup_for s p guid rv reuse made.1) made.0
with_sealed o packet s p guid rv reuse (Err e) = refuses o packet e

abbrev pub with_signed : Suite → Owner → OwnView → Packet → OwnSession → Shown → List ℕ → List (List RvInstr) → Bool → ℤ → Result (List ℕ) Failed → OwnRow
with_signed suite owner o packet s p guid rv reuse alg (Ok sig) =
    with_sealed o packet s p guid rv reuse (sealed_within suite (fresh_channel s p) Side.Owner s.hello.max_size (signed_bytes (envelope alg [] (setup_payload owner p guid rv) sig)))
with_signed suite owner o packet s p guid rv reuse alg (Err _) = refuses o packet (cause.Outside object.Signer)

-- the owner's key could sign when the session began
abbrev pub signs : Suite → Owner → OwnView → Packet → OwnSession → Shown → List ℕ → List (List RvInstr) → Bool → Option ℤ → OwnRow
signs suite owner o packet s p guid rv reuse (Some alg) =
    Row.Signs (key_bytes owner.key) (text_to_sign alg (setup_payload owner p guid rv)) (with_signed suite owner o packet s p guid rv reuse alg)
signs suite owner o packet s p guid rv reuse None = refuses o packet no_algorithm

abbrev pub with_guid : Suite → Owner → OwnView → Packet → OwnSession → Shown → Result (List ℕ) Failed → OwnRow
with_guid suite owner o packet s p (Ok guid) = signs suite owner o packet s p guid owner.rv false (suite.algorithm (key_bytes owner.key))
with_guid suite owner o packet s p (Err _) = refuses o packet (cause.Outside object.Random)

-- the base's Guid and rendezvous information where its credential may stay, and else a Guid that is drawn
abbrev pub by_keep : Option Voucher → Suite → Owner → OwnView → Packet → OwnSession → Shown → OwnRow
by_keep (Some base) suite owner o packet s p = signs suite owner o packet s p base.header.guid base.header.rv true (suite.algorithm (key_bytes owner.key))
by_keep None suite owner o packet s p = Row.Draws (with_guid suite owner o packet s p)

abbrev pub proof_row : Suite → Owner → OwnView → Packet → OwnSession → Result Shown Cause → OwnRow
proof_row suite owner o packet s (Ok p) = by_keep p.keep suite owner o packet s p
proof_row suite owner o packet s (Err e) = refuses o packet e

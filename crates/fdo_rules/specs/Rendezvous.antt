-- A rendezvous server (FIDO Device Onboard 1.1, sections 5.3 and 5.4).
use Rattle.std.specs.Prelude.{ℕ, ◌+◌, ◌-◌, ◌^◌, ◌==◌, List, [], ◌∷◌, length, Bool, true, false, ◌||◌, min, nat_le, if◌then◌else◌, is_some, Option, Some, None, option_and_then, Result, Ok, Err, ok_or}
use Rattle.std.specs.Str.{bytes_eq}
use Rattle.fdo_ports.specs.declared.failed.Failed.{Failed}
use Rattle.registry.specs.Entries.{found, is_full, most_registrations, registered}
use Rattle.registry.specs.declared.registry.Registration.{Registration}
use Rattle.voucher_chain.specs.Chain.{first_break, last_key}
use Rattle.sessions.specs.Table.{started}
use Rattle.fdo_msgs.specs.Kind as kind
use Rattle.fdo_msgs.specs.Refusal.{error_of}
use Rattle.fdo_msgs.specs.Said.{body_of}
use Rattle.fdo_msgs.specs.Token.{bearer_token}
use Rattle.fdo_msgs.specs.declared.addr.AddrEntry.{AddrEntry}
use Rattle.fdo_msgs.specs.declared.answer.Answer.{Answer}
use Rattle.fdo_msgs.specs.declared.answer.Answer.TheVariants as answers
use Rattle.fdo_msgs.specs.declared.cause.Cause.{Cause}
use Rattle.fdo_msgs.specs.declared.cause.Cause.TheVariants as cause
use Rattle.fdo_msgs.specs.declared.cause.Object.TheVariants as object
use Rattle.fdo_msgs.specs.declared.msg.Msg.TheVariants as msg
use Rattle.fdo_msgs.specs.declared.packet.Packet.{Packet}
use Rattle.fdo_rules.specs.Checks.{◌>>=◌, wants, said, verified, verified_by, is_hash_of, no_algorithm}
use Rattle.fdo_rules.specs.DeviceTo2.{chain_check}
use Rattle.fdo_rules.specs.OwnerHello.{first_certificate}
use Rattle.fdo_rules.specs.Parts.{hello, hello_rv, owner_sign, prove_to_rv}
use Rattle.fdo_rules.specs.Row.{Row}
use Rattle.fdo_rules.specs.Server.{dropped, named, of_session, reply, touched}
use Rattle.fdo_rules.specs.Suite.{Checking}
use Rattle.fdo_rules.specs.declared.parts.HelloRv.{HelloRv}
use Rattle.fdo_rules.specs.declared.parts.OwnerSign.{OwnerSign}
use Rattle.fdo_rules.specs.declared.parts.Proof.{Proof}
use Rattle.fdo_rules.specs.declared.rendezvous.Asked.{Asked}
use Rattle.fdo_rules.specs.declared.rendezvous.Owned.{Owned}
use Rattle.fdo_rules.specs.declared.rendezvous.Protocol.{Protocol}
use Rattle.fdo_rules.specs.declared.rendezvous.Protocol.TheVariants as protocol
use Rattle.fdo_rules.specs.declared.rendezvous.Registering.{Registering}

-- ---- what it keeps

-- the registrations, the nonces of TO0's sessions, and the sessions of TO1
pub record RvView : Type 0 where
  pub entries : List (List ℕ × Registration Owned)
  pub to0 : List (List ℕ × List ℕ)
  pub to1 : List (List ℕ × Asked)

-- it keeps nothing durably
abbrev pub RvRow : Type 0
RvRow = Row (Unit {0}) (RvView × Answer)

-- ---- sessions: a token names one of the message's own protocol, else one of TO0, else one of TO1

abbrev pub in_to0 : RvView → Option (List ℕ) → Bool
in_to0 s token = is_some (named token s.to0)

abbrev pub in_to1 : RvView → Option (List ℕ) → Bool
in_to1 s token = is_some (named token s.to1)

abbrev pub protocol_named : Protocol → RvView → Option (List ℕ) → Protocol
protocol_named protocol.To0 s token = if in_to0 s token then protocol.To0 else protocol.To1
protocol_named protocol.To1 s token = if in_to1 s token then protocol.To1 else protocol.To0

abbrev pub ended_in : Protocol → RvView → Option (List ℕ) → RvView
ended_in protocol.To0 s token = record { entries = s.entries; to0 = dropped token s.to0; to1 = s.to1 }
ended_in protocol.To1 s token = record { entries = s.entries; to0 = s.to0; to1 = dropped token s.to1 }

abbrev pub touched_in : Protocol → RvView → Option (List ℕ) → RvView
touched_in protocol.To0 s token = record { entries = s.entries; to0 = touched token s.to0; to1 = s.to1 }
touched_in protocol.To1 s token = record { entries = s.entries; to0 = s.to0; to1 = touched token s.to1 }

abbrev pub without_named : Protocol → RvView → Option (List ℕ) → RvView
without_named own s token = ended_in (protocol_named own s token) s token

abbrev pub with_touched : Protocol → RvView → Option (List ℕ) → RvView
with_touched own s token = touched_in (protocol_named own s token) s token

abbrev pub error_token : RvView → Option (List ℕ) → Option (List ℕ)
error_token s token = if in_to0 s token || in_to1 s token then token else None

abbrev pub refuses : Protocol → RvView → Packet → Cause → RvRow
refuses own s packet e = Row.Ends (without_named own s packet.token, answers.Refused (error_of e packet.kind (error_token s packet.token)) e)

-- ---- TO0.Hello

abbrev pub to0_begins : RvView → List ℕ → List ℕ → RvRow
to0_begins s nonce token =
    Row.Ends (record { entries = s.entries; to0 = started (bearer_token token) nonce s.to0; to1 = s.to1 }, reply (Some (bearer_token token)) kind.hello_ack (body_of (msg.HelloAck nonce)))

abbrev pub hello_token : RvView → Packet → List ℕ → Result (List ℕ) Failed → RvRow
hello_token s packet nonce (Ok token) = to0_begins (with_touched protocol.To0 s packet.token) nonce token
hello_token s packet nonce (Err _) = refuses protocol.To0 s packet (cause.Outside object.Random)

abbrev pub hello_nonce : RvView → Packet → Result (List ℕ) Failed → RvRow
hello_nonce s packet (Ok nonce) = Row.Draws (hello_token s packet nonce)
hello_nonce s packet (Err _) = refuses protocol.To0 s packet (cause.Outside object.Random)

abbrev pub hello_row : RvView → Packet → Result (Unit {0}) Cause → RvRow
hello_row s packet (Ok _) = Row.Draws (hello_nonce s packet)
hello_row s packet (Err e) = refuses protocol.To0 s packet e

-- ---- TO0.OwnerSign

-- an address of another length than 4 or 16, or neither address nor name: the first such place
abbrev pub is_place : AddrEntry → Bool
is_place a = is_good a.ip a.dns where
  is_good : Option (List ℕ) → Option (List ℕ) → Bool
  is_good None None = false
  is_good None (Some name) = true
  is_good (Some ip) name = length ip == 4 || length ip == 16

abbrev pub misplaced : ℕ → List AddrEntry → Result (Unit {0}) Cause
misplaced i [] = Ok tt
misplaced i (a ∷ rest) = if is_place a then misplaced (i + 1) rest else Err (cause.Address i)

abbrev pub most_kept : ℕ
most_kept = 16384

abbrev pub fits_registry : List ℕ → Result (Unit {0}) Cause
fits_registry bytes = wants (nat_le (length bytes) most_kept) (cause.Size most_kept)

abbrev pub leaf_fits : Option (List ℕ) → Result (Unit {0}) Cause
leaf_fits None = Ok tt
leaf_fits (Some leaf) = fits_registry leaf

-- at most 30 days
abbrev pub most_seconds : ℕ
most_seconds = 2592000

abbrev pub end_of : ℕ → ℕ → ℕ
end_of now seconds = min (now + seconds) (2 ^ 64 - 1)

-- the nonce, the hash and the two kinds of signatures
unfoldable pub said_checks : Checking → List ℕ → OwnerSign → Result (Unit {0}) Cause
said_checks suite nonce sign =
    wants (bytes_eq sign.nonce nonce) cause.Nonce
    >>= λ _. wants (is_hash_of sign.to1d.to0d_hash sign.to0d) cause.HashDiffers
    >>= λ _. chain_check (first_break suite.verifies sign.voucher)
    >>= λ _. verified suite.verifies (last_key sign.voucher.header.key sign.voucher.entries) sign.to1d.sign

-- that it can be kept
unfoldable pub kept_checks : OwnerSign → Result (Unit {0}) Cause
kept_checks sign =
    misplaced 0 sign.to1d.addrs
    >>= λ _. fits_registry sign.to1d.raw
    >>= λ _. leaf_fits (first_certificate sign.voucher.chain)

-- the device's key
unfoldable pub leaf_of : Checking → OwnerSign → Result (List ℕ) Cause
leaf_of suite sign = ok_or (option_and_then suite.leaf (first_certificate sign.voucher.chain)) no_algorithm

-- the device's key, where all holds
unfoldable pub key_checked : Checking → List ℕ → OwnerSign → Result (List ℕ) Cause
key_checked suite nonce sign = said_checks suite nonce sign >>= λ _. kept_checks sign >>= λ _. leaf_of suite sign

abbrev pub sign_checks : Checking → RvView → Packet → Result Registering Cause
sign_checks suite s packet =
    of_session (named packet.token s.to0)
    >>= λ nonce. said owner_sign kind.owner_sign packet.body
    >>= λ sign. key_checked suite nonce sign
    >>= λ leaf. Ok (record { sign = sign; leaf = leaf })

abbrev pub registration : Registering → ℕ → ℕ → Registration Owned
registration r now seconds = record { value = record { to1d = r.sign.to1d; leaf = r.leaf }; end = end_of now seconds }

abbrev pub accepts : RvView → Packet → Registering → ℕ → ℕ → RvRow
accepts s packet r now seconds =
    Row.Ends (
      record { entries = registered now r.sign.voucher.header.guid (registration r now seconds) s.entries; to0 = dropped packet.token s.to0; to1 = s.to1 },
      reply packet.token kind.accept_owner (body_of (msg.AcceptOwner seconds)),
    )

abbrev pub if_place : Bool → RvView → Packet → Registering → ℕ → RvRow
if_place true s packet r now = refuses protocol.To0 s packet (cause.Full most_registrations)
if_place false s packet r now = accepts s packet r now (min r.sign.wait most_seconds)

abbrev pub sign_clock : RvView → Packet → Registering → Result ℕ Failed → RvRow
sign_clock s packet r (Ok now) = if_place (is_full now r.sign.voucher.header.guid s.entries) s packet r now
sign_clock s packet r (Err _) = refuses protocol.To0 s packet (cause.Outside object.Clock)

abbrev pub sign_row : RvView → Packet → Result Registering Cause → RvRow
sign_row s packet (Ok r) = Row.Reads (sign_clock s packet r)
sign_row s packet (Err e) = refuses protocol.To0 s packet e

-- ---- TO1.HelloRV

abbrev pub to1_begins : RvView → List ℕ → HelloRv → List ℕ → List ℕ → RvRow
to1_begins s leaf asked nonce token =
    Row.Ends (
      record { entries = s.entries; to0 = s.to0; to1 = started (bearer_token token) (record { nonce = nonce; guid = asked.guid; leaf = leaf }) s.to1 },
      reply (Some (bearer_token token)) kind.hello_rv_ack (body_of (msg.HelloRvAck nonce asked.sig)),
    )

abbrev pub rv_token : RvView → Packet → List ℕ → HelloRv → List ℕ → Result (List ℕ) Failed → RvRow
rv_token s packet leaf asked nonce (Ok token) = to1_begins (with_touched protocol.To1 s packet.token) leaf asked nonce token
rv_token s packet leaf asked nonce (Err _) = refuses protocol.To1 s packet (cause.Outside object.Random)

abbrev pub rv_nonce : RvView → Packet → List ℕ → HelloRv → Result (List ℕ) Failed → RvRow
rv_nonce s packet leaf asked (Ok nonce) = Row.Draws (rv_token s packet leaf asked nonce)
rv_nonce s packet leaf asked (Err _) = refuses protocol.To1 s packet (cause.Outside object.Random)

abbrev pub rv_signs : Bool → RvView → Packet → List ℕ → HelloRv → RvRow
rv_signs true s packet leaf asked = Row.Draws (rv_nonce s packet leaf asked)
rv_signs false s packet leaf asked = refuses protocol.To1 s packet no_algorithm

abbrev pub rv_found : Option Owned → Checking → RvView → Packet → HelloRv → RvRow
rv_found (Some owned) suite s packet asked = rv_signs (is_some (suite.algorithm owned.leaf)) s packet owned.leaf asked
rv_found None suite s packet asked = refuses protocol.To1 s packet (cause.Missing asked.guid)

abbrev pub rv_clock : Checking → RvView → Packet → HelloRv → Result ℕ Failed → RvRow
rv_clock suite s packet asked (Ok now) = rv_found (found now asked.guid s.entries) suite s packet asked
rv_clock suite s packet asked (Err _) = refuses protocol.To1 s packet (cause.Outside object.Clock)

abbrev pub hello_rv_row : Checking → RvView → Packet → Result HelloRv Cause → RvRow
hello_rv_row suite s packet (Ok asked) = Row.Reads (rv_clock suite s packet asked)
hello_rv_row suite s packet (Err e) = refuses protocol.To1 s packet e

-- ---- TO1.ProveToRV

unfoldable pub asked_checks : Checking → Asked → Proof → Result (Unit {0}) Cause
asked_checks suite asked proof =
    verified_by suite.verifies asked.leaf proof.sign
    >>= λ _. wants (bytes_eq proof.nonce asked.nonce) cause.Nonce
    >>= λ _. wants (bytes_eq proof.guid asked.guid) cause.GuidDiffers

abbrev pub proof_checks : Checking → RvView → Packet → Result (List ℕ) Cause
proof_checks suite s packet =
    of_session (named packet.token s.to1)
    >>= λ asked. said prove_to_rv kind.prove_to_rv packet.body
    >>= λ proof. asked_checks suite asked proof
    >>= λ _. Ok asked.guid

abbrev pub redirects : Option Owned → RvView → Packet → List ℕ → RvRow
redirects (Some owned) s packet guid =
    Row.Ends (record { entries = s.entries; to0 = s.to0; to1 = dropped packet.token s.to1 }, reply packet.token kind.rv_redirect (body_of (msg.RvRedirect owned.to1d)))
redirects None s packet guid = refuses protocol.To1 s packet (cause.Missing guid)

abbrev pub proof_clock : RvView → Packet → List ℕ → Result ℕ Failed → RvRow
proof_clock s packet guid (Ok now) = redirects (found now guid s.entries) s packet guid
proof_clock s packet guid (Err _) = refuses protocol.To1 s packet (cause.Outside object.Clock)

abbrev pub proof_row : RvView → Packet → Result (List ℕ) Cause → RvRow
proof_row s packet (Ok guid) = Row.Reads (proof_clock s packet guid)
proof_row s packet (Err e) = refuses protocol.To1 s packet e

-- ---- all

unfoldable pub rendezvous_row : Checking → RvView → Packet → RvRow
rendezvous_row suite s packet =
    if packet.kind == kind.error then Row.Ends (without_named protocol.To0 s packet.token, answers.Ended)
    else if packet.kind == kind.hello then hello_row s packet (said hello kind.hello packet.body)
    else if packet.kind == kind.owner_sign then sign_row s packet (sign_checks suite s packet)
    else if packet.kind == kind.hello_rv then hello_rv_row suite s packet (said hello_rv kind.hello_rv packet.body)
    else if packet.kind == kind.prove_to_rv then proof_row s packet (proof_checks suite s packet)
    else refuses protocol.To0 s packet (cause.Turn packet.kind)

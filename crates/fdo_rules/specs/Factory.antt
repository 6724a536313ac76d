-- The factory's part of device initialization (FIDO Device Onboard 1.1, section 5.2).
use Rattle.std.specs.Prelude.{ℕ, ◌==◌, List, [], ◌∷◌, length, if◌then◌else◌, Bool, true, false, not, Some, Result, Ok, Err}
use Rattle.cbor_core.specs.Deterministic.{det}
use Rattle.fdo_ports.specs.declared.failed.Failed.{Failed}
use Rattle.hash_hmac.specs.declared.hash.Hash.{Hash}
use Rattle.key_codec.specs.declared.key.PublicKey.{PublicKey}
use Rattle.key_codec.specs.Hash.{item_of_hash}
use Rattle.voucher_chain.specs.declared.header.Header.{Header}
use Rattle.voucher_chain.specs.declared.rv_info.RvInstr.{RvInstr}
use Rattle.voucher_chain.specs.declared.voucher.Voucher.{Voucher}
use Rattle.voucher_chain.specs.Extended.{strength_of}
use Rattle.voucher_chain.specs.Header.{header_with}
use Rattle.voucher_chain.specs.Voucher.{is_mac, voucher_with}
use Rattle.voucher_map.specs.declared.kept.Kept.{Kept}
use Rattle.voucher_map.specs.Map.{fits, imported, is_kept}
use Rattle.fdo_msgs.specs.Kind as kind
use Rattle.fdo_msgs.specs.Said.{body_of}
use Rattle.fdo_msgs.specs.Token.{bearer_token}
use Rattle.fdo_msgs.specs.declared.answer.Answer.{Answer}
use Rattle.fdo_msgs.specs.declared.answer.Answer.TheVariants as answers
use Rattle.fdo_msgs.specs.declared.cause.Cause.{Cause}
use Rattle.fdo_msgs.specs.declared.cause.Cause.TheVariants as cause
use Rattle.fdo_msgs.specs.declared.cause.Object.TheVariants as object
use Rattle.fdo_msgs.specs.declared.mfg.MfgInfo.{MfgInfo}
use Rattle.fdo_msgs.specs.declared.msg.Msg.TheVariants as msg
use Rattle.fdo_msgs.specs.declared.packet.Packet.{Packet}
use Rattle.fdo_rules.specs.Checks.{◌>>=◌, wants, said, key_bytes, no_algorithm}
use Rattle.fdo_rules.specs.Made.{hash_by}
use Rattle.fdo_rules.specs.Parts.{app_start, set_hmac}
use Rattle.fdo_rules.specs.Row.{Row}
use Rattle.fdo_rules.specs.Server.{named, dropped, refusal, begun, of_session, reply}
use Rattle.fdo_rules.specs.Suite.{Suite}

-- ---- what a factory is, and what it keeps

pub record Factory : Type 0 where
  pub key : PublicKey
  pub rv : List (List RvInstr)

-- a header that was sent, and the device's certificates
pub record Offered : Type 0 where
  pub header : Header
  pub chain : List (List ℕ)

-- the vouchers, whether their store is shut, the most bytes of it, and the sessions
pub record FacView : Type 0 where
  pub map : List Kept
  pub shut : Bool
  pub limit : ℕ
  pub sessions : List (List ℕ × Offered)

abbrev pub FacRow : Type 0
FacRow = Row (List Kept) (FacView × Answer)

abbrev pub with_sessions : FacView → List (List ℕ × Offered) → FacView
with_sessions s sessions = record { map = s.map; shut = s.shut; limit = s.limit; sessions = sessions }

-- the session that the message names ends, if there is one
abbrev pub refuses : FacView → Packet → Cause → FacRow
refuses s packet e = Row.Ends (with_sessions s (dropped packet.token s.sessions), refusal packet s.sessions e)

-- ---- DI.AppStart

-- the device's key, as it is written
abbrev pub device_key : MfgInfo → PublicKey
device_key info = record { kind = info.pk_type; enc = info.pk_enc; body = info.body }

abbrev pub header_for : Factory → List ℕ → MfgInfo → List ℕ → Header
header_for factory guid info leaf = header_with guid factory.rv info.info factory.key (Some (hash_by (strength_of factory.key) leaf))

abbrev pub offers : FacView → Packet → List ℕ → Offered → FacRow
offers s packet token offer =
    Row.Ends (with_sessions s (begun packet token offer s.sessions), reply (Some (bearer_token token)) kind.set_credentials (body_of (msg.SetCredentials offer.header)))

-- with a certificate, where the suite issues one for the key
abbrev pub with_leaf : Bool → Factory → FacView → Packet → MfgInfo → List ℕ → List ℕ → List ℕ → FacRow
with_leaf true factory s packet info guid token leaf = offers s packet token (record { header = header_for factory guid info leaf; chain = leaf ∷ [] })
with_leaf false factory s packet info guid token leaf = refuses s packet no_algorithm

-- a call that fails says nothing of the key
abbrev pub issued : Bool → Factory → FacView → Packet → MfgInfo → List ℕ → List ℕ → Result (List ℕ) Failed → FacRow
issued known factory s packet info guid token (Ok leaf) = with_leaf known factory s packet info guid token leaf
issued known factory s packet info guid token (Err _) = refuses s packet (cause.Outside object.Signer)

abbrev pub with_token : Suite → Factory → FacView → Packet → MfgInfo → List ℕ → Result (List ℕ) Failed → FacRow
with_token suite factory s packet info guid (Ok token) =
    Row.Issues (key_bytes (device_key info)) (issued (suite.issues (key_bytes (device_key info))) factory s packet info guid token)
with_token suite factory s packet info guid (Err _) = refuses s packet (cause.Outside object.Random)

abbrev pub with_guid : Suite → Factory → FacView → Packet → MfgInfo → Result (List ℕ) Failed → FacRow
with_guid suite factory s packet info (Ok guid) = Row.Draws (with_token suite factory s packet info guid)
with_guid suite factory s packet info (Err _) = refuses s packet (cause.Outside object.Random)

-- the Guid is drawn, then the token
abbrev pub app_start_row : Suite → Factory → FacView → Packet → Result MfgInfo Cause → FacRow
app_start_row suite factory s packet (Ok info) = Row.Draws (with_guid suite factory s packet info)
app_start_row suite factory s packet (Err e) = refuses s packet e

-- ---- DI.SetHMAC

abbrev pub voucher_for : Offered → Hash → Voucher
voucher_for offer hmac = voucher_with offer.header hmac (det (item_of_hash hmac)) (Some offer.chain) []

-- the HMAC's kind, the store, a Guid that is kept, and room, in this order
abbrev pub hmac_checks : FacView → Packet → Result Voucher Cause
hmac_checks s packet =
    of_session (named packet.token s.sessions)
    >>= λ offer. said set_hmac kind.set_hmac packet.body
    >>= λ hmac. wants (is_mac hmac.kind) (cause.NoAlgorithm hmac.kind)
    >>= λ _. wants (not s.shut) (cause.Outside object.Shut)
    >>= λ _. wants (not (is_kept offer.header.guid s.map)) (cause.Clash offer.header.guid)
    >>= λ _. wants (fits s.limit (imported (voucher_for offer hmac) s.map)) (cause.Full (length s.map))
    >>= λ _. Ok (voucher_for offer hmac)

-- DI.Done is sent with the voucher kept alone
abbrev pub with_voucher : FacView → Packet → List Kept → Result (Unit {0}) Failed → FacRow
with_voucher s packet map (Ok _) =
    Row.Ends (record { map = map; shut = s.shut; limit = s.limit; sessions = dropped packet.token s.sessions }, reply packet.token kind.di_done (body_of msg.DiDone))
with_voucher s packet map (Err _) =
    Row.Ends (record { map = s.map; shut = true; limit = s.limit; sessions = dropped packet.token s.sessions }, refusal packet s.sessions (cause.Outside object.Disk))

abbrev pub set_hmac_row : FacView → Packet → Result Voucher Cause → FacRow
set_hmac_row s packet (Ok voucher) = Row.Stores (imported voucher s.map) (with_voucher s packet (imported voucher s.map))
set_hmac_row s packet (Err e) = refuses s packet e

-- ---- all

-- an error of the other end ends the session that it names
abbrev pub ended : FacView → Packet → FacRow
ended s packet = Row.Ends (with_sessions s (dropped packet.token s.sessions), answers.Ended)

unfoldable pub factory_row : Suite → Factory → FacView → Packet → FacRow
factory_row suite factory s packet =
    if packet.kind == kind.error then ended s packet
    else if packet.kind == kind.app_start then app_start_row suite factory s packet (said app_start kind.app_start packet.body)
    else if packet.kind == kind.set_hmac then set_hmac_row s packet (hmac_checks s packet)
    else refuses s packet (cause.Turn packet.kind)

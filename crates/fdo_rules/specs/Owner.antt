-- What an owner is and keeps, and what it shares among its answers (FIDO Device Onboard 1.1, section 5.5).
use Rattle.std.specs.Prelude.{ℕ, List, [], ◌∷◌, Bool, true, if◌then◌else◌, Option, Some, None}
use Rattle.cbor_core.specs.Deterministic.{det}
use Rattle.hash_hmac.specs.declared.hash.Hash.{Hash}
use Rattle.key_codec.specs.Hash.{item_of_hash}
use Rattle.key_codec.specs.declared.key.PublicKey.{PublicKey}
use Rattle.service_info.specs.declared.pair.Pair.{Pair}
use Rattle.sessions.specs.Table.{changed}
use Rattle.voucher_chain.specs.Header.{header_with}
use Rattle.voucher_chain.specs.Voucher.{voucher_with}
use Rattle.voucher_chain.specs.declared.header.Header.{Header}
use Rattle.voucher_chain.specs.declared.rv_info.RvInstr.{RvInstr}
use Rattle.voucher_chain.specs.declared.voucher.Voucher.{Voucher}
use Rattle.voucher_map.specs.declared.kept.Kept.{Kept}
use Rattle.voucher_map.specs.declared.kept.Kept.TheVariants as kept
use Rattle.voucher_map.specs.declared.seen.Seen.{Seen}
use Rattle.voucher_map.specs.Map.{is_guid}
use Rattle.fdo_msgs.specs.declared.answer.Answer.{Answer}
use Rattle.fdo_msgs.specs.declared.cause.Cause.{Cause}
use Rattle.fdo_msgs.specs.declared.packet.Packet.{Packet}
use Rattle.fdo_rules.specs.Channel.{Channel}
use Rattle.fdo_rules.specs.Parts.{HelloDevice}
use Rattle.fdo_rules.specs.Row.{Row}
use Rattle.fdo_rules.specs.Server.{dropped, refusal, reply}

-- ---- what it is

-- the pairs for each device, the sizes that it states, and whether it asks to keep a device's credential as it is
pub record OwnerOffer : Type 0 where
  pub pairs : List Pair
  pub max_size : ℕ
  pub info_size : Option ℕ
  pub reuse : Bool

pub record Owner : Type 0 where
  pub key : PublicKey
  pub rv : List (List RvInstr)
  pub offer : OwnerOffer

-- ---- a session

-- what TO2.ProveDevice brought: NonceTO2SetupDv, the device's half of the key agreement, what TO2.SetupDevice said, whether it
-- asked to keep the credential, and the channel
pub record Setup : Type 0 where
  pub setup_dv : List ℕ
  pub xb : List ℕ
  pub guid : List ℕ
  pub rv : List (List RvInstr)
  pub reuse : Bool
  pub channel : Channel

-- the size that the device stated, the pairs that it said, whether it said all, the owner's pairs that are left, whether its
-- last message said more, and the number of the device's messages
pub record Talk : Type 0 where
  pub size : ℕ
  pub said : List Pair
  pub heard : Bool
  pub left : List Pair
  pub mine_open : Bool
  pub rounds : ℕ

-- it takes TO2.GetOVNextEntry and TO2.ProveDevice; TO2.DeviceServiceInfoReady; TO2.DeviceServiceInfo; TO2.Done
pub data Phase : Type 0 where
  Proving : Phase
  Setting : Setup → Phase
  Informing : Setup → Talk → Phase
  Finishing : Setup → Phase

-- the voucher that was shown, what stood under its Guid, NonceTO2ProveDv, xA and what is kept of it, the bits of the cipher's
-- key, the key of the leaf certificate, and what TO2.HelloDevice said
pub record OwnSession : Type 0 where
  pub voucher : Voucher
  pub seen : Seen
  pub prove_dv : List ℕ
  pub xa : List ℕ
  pub private : List ℕ
  pub bits : ℕ
  pub leaf : List ℕ
  pub hello : HelloDevice
  pub phase : Phase

abbrev pub in_phase : OwnSession → Phase → OwnSession
in_phase s phase = record { voucher = s.voucher; seen = s.seen; prove_dv = s.prove_dv; xa = s.xa; private = s.private; bits = s.bits; leaf = s.leaf; hello = s.hello; phase = phase }

-- ---- what it keeps: the vouchers, whether their store is shut, the most bytes of it, and the sessions

pub record OwnView : Type 0 where
  pub map : List Kept
  pub shut : Bool
  pub limit : ℕ
  pub sessions : List (List ℕ × OwnSession)

abbrev pub OwnRow : Type 0
OwnRow = Row (List Kept) (OwnView × Answer)

abbrev pub with_sessions : OwnView → List (List ℕ × OwnSession) → OwnView
with_sessions o sessions = record { map = o.map; shut = o.shut; limit = o.limit; sessions = sessions }

abbrev pub with_map : OwnView → List Kept → OwnView
with_map o map = record { map = map; shut = o.shut; limit = o.limit; sessions = o.sessions }

-- after a failed write the store is shut
abbrev pub shut_down : OwnView → OwnView
shut_down o = record { map = o.map; shut = true; limit = o.limit; sessions = o.sessions }

-- the session that the message names ends, if there is one
abbrev pub refuses : OwnView → Packet → Cause → OwnRow
refuses o packet e = Row.Ends (with_sessions o (dropped packet.token o.sessions), refusal packet o.sessions e)

-- the session that it names goes on
abbrev pub session_changed : Option (List ℕ) → OwnSession → List (List ℕ × OwnSession) → List (List ℕ × OwnSession)
session_changed None session sessions = sessions
session_changed (Some token) session sessions = changed token session sessions

abbrev pub answered : OwnView → Packet → OwnSession → ℕ → List ℕ → OwnRow
answered o packet session kind body = Row.Ends (with_sessions o (session_changed packet.token session o.sessions), reply packet.token kind body)

-- ---- the voucher to come

abbrev pub next_header : Owner → OwnSession → Setup → Header
next_header owner s setup = header_with setup.guid setup.rv s.voucher.header.info owner.key s.voucher.header.chain_hash

-- with the HMAC that the device made, the same certificates, and no entries
unfoldable pub replacement : Owner → OwnSession → Setup → Hash → Voucher
replacement owner s setup hmac = voucher_with (next_header owner s setup) hmac (det (item_of_hash hmac)) s.voucher.chain []

-- ---- a base that has a candidate with a Guid

abbrev pub base_with : List ℕ → List Kept → Option Voucher
base_with guid [] = None
base_with guid (kept.Held base candidate ∷ entries) = if is_guid guid candidate then Some base else base_with guid entries
base_with guid (kept.Sent voucher ∷ entries) = base_with guid entries

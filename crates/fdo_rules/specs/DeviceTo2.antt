-- A device's part of TO2 (FIDO Device Onboard 1.1, section 5.5).
use Rattle.std.specs.Prelude.{ℕ, ◌+◌, ◌==◌, ℤ, pos, List, [], ◌++◌, Bool, true, false, ◌&&◌, not, nat_lt, if◌then◌else◌, Option, Some, None, option_map, Result, Ok, Err, ok_or}
use Rattle.std.specs.Ordering.{int_eq}
use Rattle.std.specs.Str.{bytes_eq}
use Rattle.cbor_core.specs.Deterministic.{det}
use Rattle.cbor_core.specs.Whole.{whole}
use Rattle.fdo_ports.specs.declared.failed.Failed.{Failed}
use Rattle.hash_hmac.specs.Hmac.{maced}
use Rattle.hash_hmac.specs.declared.hash.Hash.{Hash}
use Rattle.key_codec.specs.declared.key.PublicKey.{PublicKey}
use Rattle.service_info.specs.Packed.{too_wide}
use Rattle.service_info.specs.Size.{size_stated}
use Rattle.service_info.specs.declared.pair.Pair.{Pair}
use Rattle.voucher_chain.specs.Chain.{entry_break, told_of}
use Rattle.voucher_chain.specs.Fault.{◌>>=◌ as ◌then◌}
use Rattle.voucher_chain.specs.Header.{header_with}
use Rattle.voucher_chain.specs.RvInfo.{rv_in, item_of_rv}
use Rattle.voucher_chain.specs.declared.credential.Credential.{Credential}
use Rattle.voucher_chain.specs.declared.entry.Entry.{Entry}
use Rattle.voucher_chain.specs.declared.fault.ChainFault.{ChainFault}
use Rattle.voucher_chain.specs.declared.fault.ChainFault.TheVariants as chain
use Rattle.voucher_chain.specs.declared.header.Header.{Header}
use Rattle.voucher_map.specs.Keys.{same_key}
use Rattle.fdo_msgs.specs.Claims.{device_claims, item_of_device_proof}
use Rattle.fdo_msgs.specs.Kind as kind
use Rattle.fdo_msgs.specs.Said.{body_of}
use Rattle.fdo_msgs.specs.declared.cause.Cause.{Cause}
use Rattle.fdo_msgs.specs.declared.cause.Cause.TheVariants as cause
use Rattle.fdo_msgs.specs.declared.cause.Object.TheVariants as object
use Rattle.fdo_msgs.specs.declared.msg.Msg.{Msg}
use Rattle.fdo_msgs.specs.declared.msg.Msg.TheVariants as msg
use Rattle.fdo_msgs.specs.declared.packet.Packet.{Packet}
use Rattle.fdo_msgs.specs.declared.to1d.To1d.{To1d}
use Rattle.fdo_rules.specs.Channel.{Channel, Side, fresh, sealed_within, unsealed}
use Rattle.fdo_rules.specs.Checks.{◌>>=◌, wants, unless, verified, is_hash_of, is_true, fits_peer, key_bytes, no_algorithm}
use Rattle.fdo_rules.specs.DeviceDi.{fits_credential}
use Rattle.fdo_rules.specs.declared.offer.Offer.{Offer}
use Rattle.fdo_rules.specs.declared.parts.OvNextEntry.{OvNextEntry}
use Rattle.fdo_rules.specs.declared.parts.OwnerInfo.{OwnerInfo}
use Rattle.fdo_rules.specs.declared.parts.ProveOvHdr.{ProveOvHdr}
use Rattle.fdo_rules.specs.declared.parts.SetupDevice.{SetupDevice}
use Rattle.fdo_rules.specs.Made.{credential_of, envelope, hmac_of, signed_bytes, text_to_sign}
use Rattle.fdo_rules.specs.Moves.{Moves, refused, reopened, awaited, said_by, token_after}
use Rattle.fdo_rules.specs.Parts.{prove_ov_hdr, ov_next_entry, setup_device, owner_ready, owner_info, done2}
use Rattle.fdo_rules.specs.Row.{Row}
use Rattle.fdo_rules.specs.Suite.{Suite}
use Rattle.fdo_rules.specs.Turns.{cut, is_empty, owner_fault, info_check, most_rounds}

-- ---- states

-- the credential, the bytes of the attestation key, the offer and the token, in every state
pub record Self : Type 0 where
  pub cred : Credential
  pub me : List ℕ
  pub offer : Offer
  pub token : Option (List ℕ)

-- TO2.HelloDevice was sent: NonceTO2ProveOV, and the body
pub record HelloSent : Type 0 where
  pub self : Self
  pub nonce : List ℕ
  pub hello : List ℕ

-- what TO2.ProveOVHdr said, the entries that were taken, and the bytes and the key of the last one
pub record Walk : Type 0 where
  pub self : Self
  pub shown : ProveOvHdr
  pub index : ℕ
  pub before : List ℕ
  pub key : PublicKey

-- TO2.ProveDevice was sent
pub record Proved : Type 0 where
  pub self : Self
  pub shown : ProveOvHdr
  pub setup_dv : List ℕ
  pub xb : List ℕ
  pub channel : Channel

-- TO2.DeviceServiceInfoReady was sent; no credential is to come where the present one is kept
pub record Ready : Type 0 where
  pub proved : Proved
  pub next : Option Credential

-- ServiceInfo goes on: the pairs that are left, the size that the owner stated, whether the last message said more, and
-- the number of the owner's messages
pub record Informing : Type 0 where
  pub ready : Ready
  pub left : List Pair
  pub size : ℕ
  pub mine_open : Bool
  pub rounds : ℕ

-- TO2.Done was sent, after which the credential stands
pub record DoneSent : Type 0 where
  pub setup_dv : List ℕ
  pub channel : Channel
  pub cred : Credential

abbrev pub with_token : Self → Packet → Self
with_token self packet = record { cred = self.cred; me = self.me; offer = self.offer; token = token_after self.token packet }

abbrev pub sent : Self → ℕ → List ℕ → Packet
sent self k body = record { token = self.token; kind = k; body = body }

-- ---- TO2.HelloDevice

abbrev pub hello_body : Offer → List ℕ → List ℕ → List ℕ
hello_body offer guid nonce = body_of (msg.HelloDevice offer.max_size guid nonce offer.kex offer.cipher offer.sig)

abbrev pub HelloRow : Type 0
HelloRow = Row (Option Credential) (Moves HelloSent (Unit {0}))

abbrev pub hello_with : Credential → List ℕ → Offer → List ℕ → HelloSent
hello_with cred me offer nonce = record { self = record { cred = cred; me = me; offer = offer; token = None }; nonce = nonce; hello = hello_body offer cred.guid nonce }

abbrev pub with_nonce : Credential → List ℕ → Offer → Result (List ℕ) Failed → Moves HelloSent (Unit {0})
with_nonce cred me offer (Ok nonce) = Moves.On (hello_with cred me offer nonce) (record { token = None; kind = kind.hello_device; body = hello_body offer cred.guid nonce })
with_nonce cred me offer (Err _) = Moves.Stopped (cause.Outside object.Random) None

unfoldable pub hello_row : Credential → List ℕ → Offer → HelloRow
hello_row cred me offer = Row.Draws (λ nonce. Row.Ends (with_nonce cred me offer nonce))

-- ---- the walk along the voucher's entries

pub data Walked : Type 0 where
  Asks : Walk → Walked
  Proves : Proved → Walked

abbrev pub WalkRow : Type 0
WalkRow = Row (Option Credential) (Moves Walked (Unit {0}))

-- the next entry is asked for
abbrev pub entry_asked : Walk → List ℕ
entry_asked w = body_of (msg.GetOvNextEntry w.index)

abbrev pub asks : Walk → Packet → Result (Unit {0}) Cause → Moves Walked (Unit {0})
asks w packet (Ok _) = Moves.On (Walked.Asks w) (sent w.self kind.get_ov_next_entry (entry_asked w))
asks w packet (Err e) = refused packet e

-- the claims that are signed, and NonceTO2SetupDv beside them
abbrev pub claims_of : Walk → List ℕ → List ℕ
claims_of w xb = det (item_of_device_proof w.shown.prove_dv w.self.cred.guid xb)

abbrev pub proof_body : Walk → List ℕ → List ℕ → ℤ → List ℕ → List ℕ
proof_body w setup_dv xb alg sig = signed_bytes (envelope alg (device_claims setup_dv) (claims_of w xb) sig)

-- the number under which the own key signs, the device's half of the key agreement, and the channel that both halves give
pub record Agreed : Type 0 where
  pub alg : ℤ
  pub xb : List ℕ
  pub channel : Channel

abbrev pub proved_with : Walk → List ℕ → Agreed → Proved
proved_with w setup_dv a = record { self = w.self; shown = w.shown; setup_dv = setup_dv; xb = a.xb; channel = a.channel }

abbrev pub proves : Walk → Packet → Proved → List ℕ → Result (Unit {0}) Cause → Moves Walked (Unit {0})
proves w packet p body (Ok _) = Moves.On (Walked.Proves p) (sent w.self kind.prove_device body)
proves w packet p body (Err e) = refused packet e

abbrev pub with_signature : Walk → Packet → Proved → ℤ → Result (List ℕ) Failed → WalkRow
with_signature w packet p alg (Ok sig) =
    Row.Ends (proves w packet p (proof_body w p.setup_dv p.xb alg sig) (fits_peer w.shown.payload.max_size (proof_body w p.setup_dv p.xb alg sig)))
with_signature w packet p alg (Err _) = Row.Ends (refused packet (cause.Outside object.Signer))

-- the own key, the cipher and the second half of the key agreement, in this order
abbrev pub agreement : Suite → Walk → List ℕ → Result Agreed Cause
agreement suite w draw =
    ok_or (suite.algorithm w.self.me) no_algorithm
    >>= λ alg. ok_or (suite.bits w.self.offer.cipher) (cause.NoAlgorithm w.self.offer.cipher)
    >>= λ bits. ok_or (suite.second w.self.offer.kex draw w.shown.payload.xa) no_algorithm
    >>= λ half. Ok (record { alg = alg; xb = half.0; channel = fresh w.self.offer.cipher bits half.1 })

abbrev pub by_agreement : Walk → Packet → List ℕ → Result Agreed Cause → WalkRow
by_agreement w packet setup_dv (Ok a) = Row.Signs w.self.me (text_to_sign a.alg (claims_of w a.xb)) (with_signature w packet (proved_with w setup_dv a) a.alg)
by_agreement w packet setup_dv (Err e) = Row.Ends (refused packet e)

abbrev pub with_xb2 : Suite → Walk → Packet → List ℕ → List ℕ → Result (List ℕ) Failed → WalkRow
with_xb2 suite w packet setup_dv first (Ok second) = by_agreement w packet setup_dv (agreement suite w (first ++ second))
with_xb2 suite w packet setup_dv first (Err _) = Row.Ends (refused packet (cause.Outside object.Random))

abbrev pub with_xb1 : Suite → Walk → Packet → List ℕ → Result (List ℕ) Failed → WalkRow
with_xb1 suite w packet setup_dv (Ok first) = Row.Draws (with_xb2 suite w packet setup_dv first)
with_xb1 suite w packet setup_dv (Err _) = Row.Ends (refused packet (cause.Outside object.Random))

abbrev pub with_setup : Suite → Walk → Packet → Result (List ℕ) Failed → WalkRow
with_setup suite w packet (Ok setup_dv) = Row.Draws (with_xb1 suite w packet setup_dv)
with_setup suite w packet (Err _) = Row.Ends (refused packet (cause.Outside object.Random))

-- where TO1 told of an owner, that was the last one of the voucher
abbrev pub to1d_check : Suite → PublicKey → Option To1d → Result (Unit {0}) Cause
to1d_check suite key None = Ok tt
to1d_check suite key (Some to1d) = verified suite.verifies key to1d.sign

-- at the last entry: the owner's key is the one that signed, and so for to1d
abbrev pub owner_checks : Suite → Walk → Result (Unit {0}) Cause
owner_checks suite w = wants (same_key w.key w.shown.key) cause.OwnerKey >>= λ _. to1d_check suite w.key w.self.offer.to1d

abbrev pub by_owner : Suite → Walk → Packet → Result (Unit {0}) Cause → WalkRow
by_owner suite w packet (Ok _) = Row.Draws (with_setup suite w packet)
by_owner suite w packet (Err e) = Row.Ends (refused packet e)

-- an entry is asked for while there are some, and else the device proves itself
abbrev pub walks : Suite → Walk → Packet → WalkRow
walks suite w packet =
    if nat_lt w.index w.shown.payload.entries then Row.Ends (asks w packet (fits_peer w.shown.payload.max_size (entry_asked w)))
    else by_owner suite w packet (owner_checks suite w)

-- ---- TO2.ProveOVHdr

-- the header's HMAC under the credential's secret, of the credential's kind
abbrev pub is_own_mac : Credential → ProveOvHdr → Bool
is_own_mac cred shown = int_eq shown.payload.hmac.kind (pos cred.alg) && is_true (told_of shown.payload.hmac (maced shown.payload.hmac.kind cred.secret shown.payload.header.raw))

-- the header is that of the credential: the hash of its key, and its HMAC
abbrev pub is_own : Credential → ProveOvHdr → Bool
is_own cred shown = is_hash_of cred.key_hash shown.payload.header.key_raw && is_own_mac cred shown

abbrev pub walk_from : Self → ProveOvHdr → Walk
walk_from self shown = record { self = self; shown = shown; index = 0; before = shown.payload.header.raw ++ shown.payload.hmac_raw; key = shown.payload.header.key }

abbrev pub claims_checks : HelloSent → ProveOvHdr → Result (Unit {0}) Cause
claims_checks s shown =
    wants (bytes_eq shown.payload.nonce s.nonce) cause.Nonce
    >>= λ _. wants (is_hash_of shown.payload.hello_hash s.hello) cause.HashDiffers
    >>= λ _. wants (is_own s.self.cred shown) (cause.Chain chain.NoMatch)

abbrev pub shown_checks : Suite → HelloSent → ProveOvHdr → Result (Unit {0}) Cause
shown_checks suite s shown = verified suite.verifies shown.key shown.sign >>= λ _. claims_checks s shown

unfoldable pub header_checks : Suite → HelloSent → Packet → Result ProveOvHdr Cause
header_checks suite s packet =
    said_by prove_ov_hdr kind.prove_ov_hdr packet
    >>= λ shown. shown_checks suite s shown
    >>= λ _. Ok shown

abbrev pub by_header : Suite → HelloSent → Packet → Result ProveOvHdr Cause → WalkRow
by_header suite s packet (Ok shown) = walks suite (walk_from (with_token s.self packet) shown) packet
by_header suite s packet (Err e) = Row.Ends (refused packet e)

unfoldable pub prove_ov_hdr_row : Suite → HelloSent → Packet → WalkRow
prove_ov_hdr_row suite s packet = by_header suite s packet (header_checks suite s packet)

-- ---- TO2.OVNextEntry

abbrev pub chain_check : Option ChainFault → Result (Unit {0}) Cause
chain_check broken = unless (option_map cause.Chain broken)

abbrev pub walk_on : Self → Walk → Entry → Walk
walk_on self w entry = record { self = self; shown = w.shown; index = w.index + 1; before = entry.raw; key = entry.key }

abbrev pub next_checks : Suite → Walk → OvNextEntry → Result (Unit {0}) Cause
next_checks suite w next =
    wants (next.number == w.index) (cause.EntryNumber next.number)
    >>= λ _. chain_check (entry_break suite.verifies w.shown.payload.header w.index w.before w.key next.entry)

unfoldable pub entry_checks : Suite → Walk → Packet → Result OvNextEntry Cause
entry_checks suite w packet =
    said_by ov_next_entry kind.ov_next_entry packet
    >>= λ next. next_checks suite w next
    >>= λ _. Ok next

abbrev pub by_entry : Suite → Walk → Packet → Result OvNextEntry Cause → WalkRow
by_entry suite w packet (Ok next) = walks suite (walk_on (with_token w.self packet) w next.entry) packet
by_entry suite w packet (Err e) = Row.Ends (refused packet e)

unfoldable pub ov_next_entry_row : Suite → Walk → Packet → WalkRow
ov_next_entry_row suite w packet = by_entry suite w packet (entry_checks suite w packet)

-- ---- TO2.SetupDevice

abbrev pub ReadyRow : Type 0
ReadyRow = Row (Option Credential) (Moves Ready (Unit {0}))

-- a sealed message of a type
abbrev pub unsealed_by : {A : Type 0} → (Msg → Option A) → Suite → Channel → ℕ → Packet → Result (A × Channel) Cause
unsealed_by part suite c k packet = awaited k packet >>= λ body. unsealed part suite c k body

abbrev pub proved_after : Proved → Packet → Channel → Proved
proved_after p packet c = record { self = with_token p.self packet; shown = p.shown; setup_dv = p.setup_dv; xb = p.xb; channel = c }

-- the Guid, the rendezvous information as it is read, and the key by its hash
abbrev pub same_rv : Option (List ℕ) → List ℕ → Bool
same_rv None rv = false
same_rv (Some own) rv = bytes_eq own rv

abbrev pub own_rv : List ℕ → Option (List ℕ)
own_rv rv = option_map (λ ds. det (item_of_rv ds)) (whole rv then rv_in)

abbrev pub is_present : Credential → SetupDevice → Bool
is_present cred setup = bytes_eq setup.guid cred.guid && (same_rv (own_rv cred.rv) (det (item_of_rv setup.rv)) && is_hash_of cred.key_hash (key_bytes setup.key))

-- the header of the voucher to come
abbrev pub next_header : Proved → SetupDevice → Header
next_header p setup = header_with setup.guid setup.rv p.self.cred.info setup.key p.shown.payload.header.chain_hash

abbrev pub ready_body : Proved → Option Hash → List ℕ
ready_body p hmac = body_of (msg.DeviceReady hmac p.self.offer.info_size)

abbrev pub ready_with : Proved → Channel → Option Credential → Ready
ready_with p c next = record { proved = record { self = p.self; shown = p.shown; setup_dv = p.setup_dv; xb = p.xb; channel = c }; next = next }

abbrev pub readies : Proved → Packet → Option Credential → Result (List ℕ × Channel) Cause → ReadyRow
readies p packet next (Ok made) = Row.Ends (Moves.On (ready_with p made.1 next) (sent p.self kind.device_ready made.0))
readies p packet next (Err e) = Row.Ends (refused packet e)

abbrev pub sealed_ready : Suite → Proved → Option Hash → Result (List ℕ × Channel) Cause
sealed_ready suite p hmac = sealed_within suite p.channel Side.Device p.shown.payload.max_size (ready_body p hmac)

-- the bytes of the credential come before those of the message
abbrev pub with_secret : Suite → Proved → Packet → Header → List ℕ → ReadyRow
with_secret suite p packet header secret =
    readies p packet (Some (credential_of header header.key_raw secret))
    (fits_credential (credential_of header header.key_raw secret) >>= λ _. sealed_ready suite p (Some (hmac_of header secret)))

abbrev pub with_secret2 : Suite → Proved → Packet → Header → List ℕ → Result (List ℕ) Failed → ReadyRow
with_secret2 suite p packet header first (Ok second) = with_secret suite p packet header (first ++ second)
with_secret2 suite p packet header first (Err _) = Row.Ends (refused packet (cause.Outside object.Random))

abbrev pub with_secret1 : Suite → Proved → Packet → Header → Result (List ℕ) Failed → ReadyRow
with_secret1 suite p packet header (Ok first) = Row.Draws (with_secret2 suite p packet header first)
with_secret1 suite p packet header (Err _) = Row.Ends (refused packet (cause.Outside object.Random))

-- what an owner sets up is the present credential, which the device lets stay or not, or another one
abbrev pub by_present : Bool → Bool → Suite → Proved → Packet → SetupDevice → ReadyRow
by_present true true suite p packet setup = readies p packet None (sealed_ready suite p None)
by_present true false suite p packet setup = Row.Ends (refused packet cause.Reuse)
by_present false reuse suite p packet setup = Row.Draws (with_secret1 suite p packet (next_header p setup))

abbrev pub sets_up : Suite → Packet → Result (Proved × SetupDevice) Cause → ReadyRow
sets_up suite packet (Ok both) = by_present (is_present both.0.self.cred both.1) both.0.self.offer.reuse suite both.0 packet both.1
sets_up suite packet (Err e) = Row.Ends (refused packet e)

unfoldable pub setup_checks : Suite → Proved → Packet → Result (Proved × SetupDevice) Cause
setup_checks suite p packet =
    unsealed_by setup_device suite p.channel kind.setup_device packet
    >>= λ both. verified suite.verifies both.0.key both.0.sign
    >>= λ _. wants (bytes_eq both.0.nonce p.setup_dv) cause.Nonce
    >>= λ _. Ok (proved_after p packet both.1, both.0)

unfoldable pub setup_device_row : Suite → Proved → Packet → ReadyRow
setup_device_row suite p packet = sets_up suite packet (setup_checks suite p packet)

-- ---- TO2.OwnerServiceInfoReady, with the pairs that the device's module gives

abbrev pub ready_after : Ready → Packet → Channel → Ready
ready_after r packet c = record { proved = proved_after r.proved packet c; next = r.next }

abbrev pub with_channel : Ready → Channel → Ready
with_channel r c = ready_with r.proved c r.next

-- a list of pairs goes, and the rest is left
abbrev pub info_body : List Pair × List Pair → List ℕ
info_body lists = body_of (msg.DeviceInfo (not (is_empty lists.1)) lists.0)

abbrev pub sealed_info : Suite → Ready → List Pair × List Pair → Result (List ℕ × Channel) Cause
sealed_info suite r lists = sealed_within suite r.proved.channel Side.Device r.proved.shown.payload.max_size (info_body lists)

abbrev pub informing_with : Ready → Channel → List Pair × List Pair → ℕ → ℕ → Informing
informing_with r c lists size rounds = record { ready = with_channel r c; left = lists.1; size = size; mine_open = not (is_empty lists.1); rounds = rounds }

abbrev pub informs : Ready → Packet → List Pair × List Pair → ℕ → Result (List ℕ × Channel) Cause → Moves Informing (Unit {0})
informs r packet lists size (Ok made) = Moves.On (informing_with r made.1 lists size 0) (sent r.proved.self kind.device_info made.0)
informs r packet lists size (Err e) = refused packet e

abbrev pub by_ready : Suite → List Pair → Packet → Result (Ready × ℕ) Cause → Moves Informing (Unit {0})
by_ready suite pairs packet (Ok both) = informs both.0 packet (cut both.1 pairs) both.1 (sealed_info suite both.0 (cut both.1 pairs))
by_ready suite pairs packet (Err e) = refused packet e

unfoldable pub ready_checks : Suite → List Pair → Ready → Packet → Result (Ready × ℕ) Cause
ready_checks suite pairs r packet =
    unsealed_by owner_ready suite r.proved.channel kind.owner_ready packet
    >>= λ both. info_check (too_wide (size_stated both.0) pairs)
    >>= λ _. Ok (ready_after r packet both.1, size_stated both.0)

unfoldable pub owner_ready_row : Suite → List Pair → Ready → Packet → Moves Informing (Unit {0})
owner_ready_row suite pairs r packet = by_ready suite pairs packet (ready_checks suite pairs r packet)

-- ---- TO2.OwnerServiceInfo

pub data Round : Type 0 where
  More : Informing → Round
  Finished : DoneSent → Round

abbrev pub RoundRow : Type 0
RoundRow = Row (Option Credential) (Moves Round (Unit {0}))

unfoldable pub info_checks : Suite → Informing → Packet → Result (Ready × OwnerInfo) Cause
info_checks suite i packet =
    unsealed_by owner_info suite i.ready.proved.channel kind.owner_info packet
    >>= λ both. info_check (owner_fault i.mine_open both.0.more both.0.done both.0.pairs)
    >>= λ _. wants (nat_lt i.rounds most_rounds) (cause.Size most_rounds)
    >>= λ _. Ok (ready_after i.ready packet both.1, both.0)

abbrev pub more_info : Informing → Ready → Packet → List Pair × List Pair → Result (List ℕ × Channel) Cause → RoundRow
more_info i r packet lists (Ok made) = Row.Ends (Moves.On (Round.More (informing_with r made.1 lists i.size (i.rounds + 1))) (sent r.proved.self kind.device_info made.0))
more_info i r packet lists (Err e) = Row.Ends (refused packet e)

abbrev pub done_sent : Ready → Packet → Credential → List ℕ × Channel → RoundRow
done_sent r packet cred made = Row.Ends (Moves.On (Round.Finished (record { setup_dv = r.proved.setup_dv; channel = made.1; cred = cred })) (sent r.proved.self kind.done made.0))

abbrev pub committed : Ready → Packet → Credential → List ℕ × Channel → Result (Unit {0}) Failed → RoundRow
committed r packet next made (Ok _) = done_sent r packet next made
committed r packet next made (Err _) = Row.Ends (reopened packet (cause.Outside object.Disk))

-- TO2.Done is made, then the credential to come becomes the credential, and then it is sent
abbrev pub commits : Option Credential → Ready → Packet → List ℕ × Channel → RoundRow
commits (Some next) r packet made = Row.Stores (Some next) (committed r packet next made)
commits None r packet made = done_sent r packet r.proved.self.cred made

abbrev pub finishes : Ready → Packet → Result (List ℕ × Channel) Cause → RoundRow
finishes r packet (Ok made) = commits r.next r packet made
finishes r packet (Err e) = Row.Ends (refused packet e)

abbrev pub sealed_done : Suite → Ready → Result (List ℕ × Channel) Cause
sealed_done suite r = sealed_within suite r.proved.channel Side.Device r.proved.shown.payload.max_size (body_of (msg.Done r.proved.shown.prove_dv))

abbrev pub by_done : Bool → Suite → Informing → Ready → Packet → RoundRow
by_done true suite i r packet = finishes r packet (sealed_done suite r)
by_done false suite i r packet = more_info i r packet (cut i.size i.left) (sealed_info suite r (cut i.size i.left))

abbrev pub goes_on : Suite → Informing → Packet → Result (Ready × OwnerInfo) Cause → RoundRow
goes_on suite i packet (Ok both) = by_done both.1.done suite i both.0 packet
goes_on suite i packet (Err e) = Row.Ends (refused packet e)

unfoldable pub owner_info_row : Suite → Informing → Packet → RoundRow
owner_info_row suite i packet = goes_on suite i packet (info_checks suite i packet)

-- ---- TO2.Done2

abbrev pub by_done2 : Packet → Credential → Result (Unit {0}) Cause → Moves (Unit {0}) Credential
by_done2 packet cred (Ok _) = Moves.Done cred
by_done2 packet cred (Err e) = refused packet e

unfoldable pub done2_checks : Suite → DoneSent → Packet → Result (Unit {0}) Cause
done2_checks suite s packet =
    unsealed_by done2 suite s.channel kind.done2 packet >>= λ both. wants (bytes_eq both.0 s.setup_dv) cause.Nonce

unfoldable pub done2_row : Suite → DoneSent → Packet → Moves (Unit {0}) Credential
done2_row suite s packet = by_done2 packet s.cred (done2_checks suite s packet)

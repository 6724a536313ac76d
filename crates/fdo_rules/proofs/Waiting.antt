-- Rows that write nothing, draw by draw.
use Rattle.std.proofs.Common.{ℕ, ℤ, List, Bool, true, false, Option, Some, None, Result, Ok, Err, nat_lt, if◌then◌else◌}
use Rattle.fdo_ports.specs.declared.failed.Failed.{Failed}
use Rattle.fdo_msgs.specs.declared.cause.Cause.{Cause}
use Rattle.fdo_msgs.specs.declared.mfg.MfgInfo.{MfgInfo}
use Rattle.fdo_msgs.specs.declared.packet.Packet.{Packet}
use Rattle.voucher_chain.specs.declared.credential.Credential.{Credential}
use Rattle.voucher_chain.specs.declared.header.Header.{Header}
use Rattle.fdo_rules.specs.Channel.{Channel}
use Rattle.fdo_rules.specs.Checks.{fits_peer}
use Rattle.fdo_rules.specs.DeviceDi as di
use Rattle.fdo_rules.specs.DeviceDi.{credentials_row}
use Rattle.fdo_rules.specs.DeviceTo2 as to2
use Rattle.fdo_rules.specs.DeviceTo2.{Agreed, HelloSent, Proved, Walk, ov_next_entry_row, prove_ov_hdr_row, setup_device_row}
use Rattle.fdo_rules.specs.Factory as fac
use Rattle.fdo_rules.specs.Factory.{FacView, Factory}
use Rattle.fdo_rules.specs.OwnerHello as own
use Rattle.fdo_rules.specs.OwnerHello.{Picked}
use Rattle.fdo_rules.specs.OwnerInfo.{Informed, info_row}
use Rattle.fdo_rules.specs.Owner.{Owner, OwnSession, OwnView}
use Rattle.fdo_msgs.specs.Kind.{set_credentials as set_credentials_kind}
use Rattle.fdo_rules.specs.Moves.{said_by}
use Rattle.fdo_rules.specs.Parts.{set_credentials}
use Rattle.fdo_rules.specs.declared.parts.OvNextEntry.{OvNextEntry}
use Rattle.fdo_rules.specs.declared.parts.ProveOvHdr.{ProveOvHdr}
use Rattle.fdo_rules.specs.declared.parts.SetupDevice.{SetupDevice}
use Rattle.fdo_rules.specs.Row.{Row, WritesNothing}
use Rattle.fdo_rules.specs.Suite.{Suite}

-- ---- DI.SetCredentials

fits : (packet : Packet) (header : Header) (next : Credential) (r : Result (Unit {0}) Cause) → WritesNothing (di.if_fits packet header next r)
fits packet header next (Ok _) = tt
fits packet header next (Err e) = tt

second_half : (packet : Packet) (header : Header) (first : List ℕ) (r : Result (List ℕ) Failed) → WritesNothing (di.with_second packet header first r)
second_half packet header first (Ok second) = fits packet header _ _
second_half packet header first (Err _) = tt

first_half : (packet : Packet) (header : Header) (r : Result (List ℕ) Failed) → WritesNothing (di.with_first packet header r)
first_half packet header (Ok first) = second_half packet header first
first_half packet header (Err _) = tt

pub by_header : (packet : Packet) (r : Result Header Cause) → WritesNothing (di.by_header packet r)
by_header packet (Ok header) = first_half packet header
by_header packet (Err e) = tt

-- ---- TO2.ProveOVHdr and TO2.OVNextEntry

signature : (w : Walk) (packet : Packet) (p : Proved) (alg : ℤ) (r : Result (List ℕ) Failed) → WritesNothing (to2.with_signature w packet p alg r)
signature w packet p alg (Ok sig) = tt
signature w packet p alg (Err _) = tt

agreed : (w : Walk) (packet : Packet) (setup : List ℕ) (r : Result Agreed Cause) → WritesNothing (to2.by_agreement w packet setup r)
agreed w packet setup (Ok a) = signature w packet _ a.alg
agreed w packet setup (Err e) = tt

xb2 : (suite : Suite) (w : Walk) (packet : Packet) (setup first : List ℕ) (r : Result (List ℕ) Failed) → WritesNothing (to2.with_xb2 suite w packet setup first r)
xb2 suite w packet setup first (Ok second) = agreed w packet setup _
xb2 suite w packet setup first (Err _) = tt

xb1 : (suite : Suite) (w : Walk) (packet : Packet) (setup : List ℕ) (r : Result (List ℕ) Failed) → WritesNothing (to2.with_xb1 suite w packet setup r)
xb1 suite w packet setup (Ok first) = xb2 suite w packet setup first
xb1 suite w packet setup (Err _) = tt

setup_nonce : (suite : Suite) (w : Walk) (packet : Packet) (r : Result (List ℕ) Failed) → WritesNothing (to2.with_setup suite w packet r)
setup_nonce suite w packet (Ok setup) = xb1 suite w packet setup
setup_nonce suite w packet (Err _) = tt

owned : (suite : Suite) (w : Walk) (packet : Packet) (r : Result (Unit {0}) Cause) → WritesNothing (to2.by_owner suite w packet r)
owned suite w packet (Ok _) = setup_nonce suite w packet
owned suite w packet (Err e) = tt

walks : (suite : Suite) (w : Walk) (packet : Packet) → WritesNothing (to2.walks suite w packet)
walks suite w packet = asks_or_not (nat_lt w.index w.shown.payload.entries) where
  asks_or_not : (more : Bool) → WritesNothing (if more then Row.Ends (to2.asks w packet (fits_peer w.shown.payload.max_size (to2.entry_asked w))) else to2.by_owner suite w packet (to2.owner_checks suite w))
  asks_or_not true = tt
  asks_or_not false = owned suite w packet (to2.owner_checks suite w)

headed : (suite : Suite) (s : HelloSent) (packet : Packet) (r : Result ProveOvHdr Cause) → WritesNothing (to2.by_header suite s packet r)
headed suite s packet (Ok shown) = walks suite (to2.walk_from (to2.with_token s.self packet) shown) packet
headed suite s packet (Err e) = tt

entered : (suite : Suite) (w : Walk) (packet : Packet) (r : Result OvNextEntry Cause) → WritesNothing (to2.by_entry suite w packet r)
entered suite w packet (Ok next) = walks suite (to2.walk_on (to2.with_token w.self packet) w next.entry) packet
entered suite w packet (Err e) = tt

-- ---- TO2.SetupDevice

readies : (p : Proved) (packet : Packet) (next : Option Credential) (r : Result (List ℕ × Channel) Cause) → WritesNothing (to2.readies p packet next r)
readies p packet next (Ok made) = tt
readies p packet next (Err e) = tt

secret2 : (suite : Suite) (p : Proved) (packet : Packet) (header : Header) (first : List ℕ) (r : Result (List ℕ) Failed) → WritesNothing (to2.with_secret2 suite p packet header first r)
secret2 suite p packet header first (Ok second) = readies p packet _ _
secret2 suite p packet header first (Err _) = tt

secret1 : (suite : Suite) (p : Proved) (packet : Packet) (header : Header) (r : Result (List ℕ) Failed) → WritesNothing (to2.with_secret1 suite p packet header r)
secret1 suite p packet header (Ok first) = secret2 suite p packet header first
secret1 suite p packet header (Err _) = tt

present : (present reuse : Bool) (suite : Suite) (p : Proved) (packet : Packet) (setup : SetupDevice) → WritesNothing (to2.by_present present reuse suite p packet setup)
present true true suite p packet setup = readies p packet None _
present true false suite p packet setup = tt
present false reuse suite p packet setup = secret1 suite p packet _

pub sets_up : (suite : Suite) (packet : Packet) (r : Result (Proved × SetupDevice) Cause) → WritesNothing (to2.sets_up suite packet r)
sets_up suite packet (Ok both) = present _ _ suite both.0 packet both.1
sets_up suite packet (Err e) = tt

-- ---- servers

begun : (o : OwnView) (packet : Packet) (token : List ℕ) (session : OwnSession) (body : List ℕ) (r : Result (Unit {0}) Cause) → WritesNothing (own.begins o packet token session body r)
begun o packet token session body (Ok _) = tt
begun o packet token session body (Err e) = tt

shown : (owner : Owner) (o : OwnView) (packet : Packet) (p : Picked) (nonce token : List ℕ) (h : List ℕ × List ℕ) (r : Result (List ℕ) Failed) → WritesNothing (own.with_shown owner o packet p nonce token h r)
shown owner o packet p nonce token h (Ok sig) = begun o packet token _ _ _
shown owner o packet p nonce token h (Err _) = tt

xa2 : (suite : Suite) (owner : Owner) (o : OwnView) (packet : Packet) (p : Picked) (nonce token first : List ℕ) (r : Result (List ℕ) Failed) → WritesNothing (own.with_xa2 suite owner o packet p nonce token first r)
xa2 suite owner o packet p nonce token first (Ok second) = shown owner o packet p nonce token _
xa2 suite owner o packet p nonce token first (Err _) = tt

xa1 : (suite : Suite) (owner : Owner) (o : OwnView) (packet : Packet) (p : Picked) (nonce token : List ℕ) (r : Result (List ℕ) Failed) → WritesNothing (own.with_xa1 suite owner o packet p nonce token r)
xa1 suite owner o packet p nonce token (Ok first) = xa2 suite owner o packet p nonce token first
xa1 suite owner o packet p nonce token (Err _) = tt

token_drawn : (suite : Suite) (owner : Owner) (o : OwnView) (packet : Packet) (p : Picked) (nonce : List ℕ) (r : Result (List ℕ) Failed) → WritesNothing (own.with_token suite owner o packet p nonce r)
token_drawn suite owner o packet p nonce (Ok token) = xa1 suite owner o packet p nonce token
token_drawn suite owner o packet p nonce (Err _) = tt

nonce_drawn : (suite : Suite) (owner : Owner) (o : OwnView) (packet : Packet) (p : Picked) (r : Result (List ℕ) Failed) → WritesNothing (own.with_nonce suite owner o packet p r)
nonce_drawn suite owner o packet p (Ok nonce) = token_drawn suite owner o packet p nonce
nonce_drawn suite owner o packet p (Err _) = tt

pub hello : (suite : Suite) (owner : Owner) (o : OwnView) (packet : Packet) (r : Result Picked Cause) → WritesNothing (own.hello_row suite owner o packet r)
hello suite owner o packet (Ok p) = nonce_drawn suite owner o packet p
hello suite owner o packet (Err e) = tt

pub entry : (o : OwnView) (packet : Packet) (s : OwnSession) (r : Result (List ℕ) Cause) → WritesNothing (own.entry_row o packet s r)
entry o packet s (Ok body) = tt
entry o packet s (Err e) = tt

pub info : (o : OwnView) (packet : Packet) (s : OwnSession) (r : Result Informed Cause) → WritesNothing (info_row o packet s r)
info o packet s (Ok i) = tt
info o packet s (Err e) = tt

leaf : (known : Bool) (factory : Factory) (s : FacView) (packet : Packet) (mfg : MfgInfo) (guid token certificate : List ℕ) → WritesNothing (fac.with_leaf known factory s packet mfg guid token certificate)
leaf true factory s packet mfg guid token certificate = tt
leaf false factory s packet mfg guid token certificate = tt

issued : (known : Bool) (factory : Factory) (s : FacView) (packet : Packet) (mfg : MfgInfo) (guid token : List ℕ) (r : Result (List ℕ) Failed) → WritesNothing (fac.issued known factory s packet mfg guid token r)
issued known factory s packet mfg guid token (Ok certificate) = leaf known factory s packet mfg guid token certificate
issued known factory s packet mfg guid token (Err _) = tt

fac_token : (suite : Suite) (factory : Factory) (s : FacView) (packet : Packet) (mfg : MfgInfo) (guid : List ℕ) (r : Result (List ℕ) Failed) → WritesNothing (fac.with_token suite factory s packet mfg guid r)
fac_token suite factory s packet mfg guid (Ok token) = issued _ factory s packet mfg guid token
fac_token suite factory s packet mfg guid (Err _) = tt

fac_guid : (suite : Suite) (factory : Factory) (s : FacView) (packet : Packet) (mfg : MfgInfo) (r : Result (List ℕ) Failed) → WritesNothing (fac.with_guid suite factory s packet mfg r)
fac_guid suite factory s packet mfg (Ok guid) = fac_token suite factory s packet mfg guid
fac_guid suite factory s packet mfg (Err _) = tt

pub app_start : (suite : Suite) (factory : Factory) (s : FacView) (packet : Packet) (r : Result MfgInfo Cause) → WritesNothing (fac.app_start_row suite factory s packet r)
app_start suite factory s packet (Ok mfg) = fac_guid suite factory s packet mfg
app_start suite factory s packet (Err e) = tt

-- ---- the rows themselves

pub credentials : (packet : Packet) → WritesNothing (di.credentials_row packet)
unfolding credentials_row
credentials packet = by_header packet (said_by set_credentials set_credentials_kind packet)

pub shows_header : (suite : Suite) (s : HelloSent) (packet : Packet) → WritesNothing (to2.prove_ov_hdr_row suite s packet)
unfolding prove_ov_hdr_row
shows_header suite s packet = headed suite s packet (to2.header_checks suite s packet)

pub next_entry : (suite : Suite) (w : Walk) (packet : Packet) → WritesNothing (to2.ov_next_entry_row suite w packet)
unfolding ov_next_entry_row
next_entry suite w packet = entered suite w packet (to2.entry_checks suite w packet)

pub setup : (suite : Suite) (p : Proved) (packet : Packet) → WritesNothing (to2.setup_device_row suite p packet)
unfolding setup_device_row
setup suite p packet = sets_up suite packet (to2.setup_checks suite p packet)

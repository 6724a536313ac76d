-- What the messages of each type say.
use Rattle.std.specs.Prelude.{ℕ, ℤ, List, Bool, Option, Some, None}
use Rattle.cose_envelopes.specs.declared.sign1.Sign1.{Sign1}
use Rattle.hash_hmac.specs.declared.hash.Hash.{Hash}
use Rattle.key_codec.specs.declared.sig_info.SigInfo.{SigInfo}
use Rattle.service_info.specs.declared.pair.Pair.{Pair}
use Rattle.voucher_chain.specs.declared.header.Header.{Header}
use Rattle.fdo_msgs.specs.declared.mfg.MfgInfo.{MfgInfo}
use Rattle.fdo_msgs.specs.declared.msg.Msg.{Msg}
use Rattle.fdo_msgs.specs.declared.msg.Msg.TheVariants as msg
use Rattle.fdo_msgs.specs.declared.to1d.To1d.{To1d}
use Rattle.fdo_rules.specs.declared.parts.HelloRv.{HelloRv}
use Rattle.fdo_rules.specs.declared.parts.OvNextEntry.{OvNextEntry}
use Rattle.fdo_rules.specs.declared.parts.OwnerInfo.{OwnerInfo}
use Rattle.fdo_rules.specs.declared.parts.OwnerSign.{OwnerSign}
use Rattle.fdo_rules.specs.declared.parts.Proof.{Proof}
use Rattle.fdo_rules.specs.declared.parts.ProveOvHdr.{ProveOvHdr}
use Rattle.fdo_rules.specs.declared.parts.SetupDevice.{SetupDevice}

-- ---- DI

abbrev pub app_start : Msg → Option MfgInfo
app_start (msg.AppStart info) = Some info
app_start m = None

abbrev pub set_credentials : Msg → Option Header
set_credentials (msg.SetCredentials header) = Some header
set_credentials m = None

abbrev pub set_hmac : Msg → Option Hash
set_hmac (msg.SetHmac hmac) = Some hmac
set_hmac m = None

abbrev pub di_done : Msg → Option (Unit {0})
di_done msg.DiDone = Some tt
di_done m = None

-- ---- TO0

abbrev pub hello : Msg → Option (Unit {0})
hello msg.Hello = Some tt
hello m = None

abbrev pub hello_ack : Msg → Option (List ℕ)
hello_ack (msg.HelloAck nonce) = Some nonce
hello_ack m = None

abbrev pub owner_sign : Msg → Option OwnerSign
owner_sign (msg.OwnerSign to0d voucher wait nonce to1d) = Some (record { to0d = to0d; voucher = voucher; wait = wait; nonce = nonce; to1d = to1d })
owner_sign m = None

abbrev pub accept_owner : Msg → Option ℕ
accept_owner (msg.AcceptOwner seconds) = Some seconds
accept_owner m = None

-- ---- TO1

abbrev pub hello_rv : Msg → Option HelloRv
hello_rv (msg.HelloRv guid sig) = Some (record { guid = guid; sig = sig })
hello_rv m = None

abbrev pub hello_rv_ack : Msg → Option (List ℕ)
hello_rv_ack (msg.HelloRvAck nonce sig) = Some nonce
hello_rv_ack m = None

abbrev pub prove_to_rv : Msg → Option Proof
prove_to_rv (msg.ProveToRv nonce guid sign) = Some (record { nonce = nonce; guid = guid; sign = sign })
prove_to_rv m = None

abbrev pub rv_redirect : Msg → Option To1d
rv_redirect (msg.RvRedirect to1d) = Some to1d
rv_redirect m = None

-- ---- TO2

pub record HelloDevice : Type 0 where
  pub max_size : ℕ
  pub guid : List ℕ
  pub nonce : List ℕ
  pub kex : List ℕ
  pub cipher : ℤ
  pub sig : SigInfo

abbrev pub hello_device : Msg → Option HelloDevice
hello_device (msg.HelloDevice max_size guid nonce kex cipher sig) = Some (record { max_size = max_size; guid = guid; nonce = nonce; kex = kex; cipher = cipher; sig = sig })
hello_device m = None

abbrev pub prove_ov_hdr : Msg → Option ProveOvHdr
prove_ov_hdr (msg.ProveOvHdr header entries hmac hmac_raw nonce sig xa hello_hash max_size prove_dv key sign) =
    Some (record {
      payload = record { header = header; entries = entries; hmac = hmac; hmac_raw = hmac_raw; nonce = nonce; sig = sig; xa = xa; hello_hash = hello_hash; max_size = max_size };
      prove_dv = prove_dv;
      key = key;
      sign = sign;
    })
prove_ov_hdr m = None

abbrev pub get_ov_next_entry : Msg → Option ℕ
get_ov_next_entry (msg.GetOvNextEntry n) = Some n
get_ov_next_entry m = None

abbrev pub ov_next_entry : Msg → Option OvNextEntry
ov_next_entry (msg.OvNextEntry n entry) = Some (record { number = n; entry = entry })
ov_next_entry m = None

pub record ProveDevice : Type 0 where
  pub nonce : List ℕ
  pub guid : List ℕ
  pub xb : List ℕ
  pub setup_dv : List ℕ
  pub sign : Sign1

abbrev pub prove_device : Msg → Option ProveDevice
prove_device (msg.ProveDevice nonce guid xb setup_dv sign) = Some (record { nonce = nonce; guid = guid; xb = xb; setup_dv = setup_dv; sign = sign })
prove_device m = None

abbrev pub setup_device : Msg → Option SetupDevice
setup_device (msg.SetupDevice rv guid nonce key sign) = Some (record { rv = rv; guid = guid; nonce = nonce; key = key; sign = sign })
setup_device m = None

pub record DeviceReady : Type 0 where
  pub hmac : Option Hash
  pub size : Option ℕ

abbrev pub device_ready : Msg → Option DeviceReady
device_ready (msg.DeviceReady hmac size) = Some (record { hmac = hmac; size = size })
device_ready m = None

abbrev pub owner_ready : Msg → Option (Option ℕ)
owner_ready (msg.OwnerReady size) = Some size
owner_ready m = None

pub record DeviceInfo : Type 0 where
  pub more : Bool
  pub pairs : List Pair

abbrev pub device_info : Msg → Option DeviceInfo
device_info (msg.DeviceInfo more pairs) = Some (record { more = more; pairs = pairs })
device_info m = None

abbrev pub owner_info : Msg → Option OwnerInfo
owner_info (msg.OwnerInfo more done pairs) = Some (record { more = more; done = done; pairs = pairs })
owner_info m = None

abbrev pub done : Msg → Option (List ℕ)
done (msg.Done nonce) = Some nonce
done m = None

abbrev pub done2 : Msg → Option (List ℕ)
done2 (msg.Done2 nonce) = Some nonce
done2 m = None

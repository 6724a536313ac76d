-- The type of a message, and the body that it is written as (FIDO Device Onboard 1.1, sections 5.2 to 5.5).
use Rattle.std.specs.Prelude.{ℕ, List, [], ◌∷◌}
use Rattle.cbor_core.specs.declared.item.Item.TheVariants as items
use Rattle.cbor_core.specs.Deterministic.{det}
use Rattle.cbor_core.specs.Numbers.{item_of_integer}
use Rattle.cose_envelopes.specs.Envelope.{item_of_sign1}
use Rattle.key_codec.specs.Hash.{item_of_hash}
use Rattle.key_codec.specs.SigInfo.{item_of_sig_info}
use Rattle.voucher_chain.specs.Header.{item_of_maybe_hash}
use Rattle.fdo_msgs.specs.declared.msg.Msg.{Msg}
use Rattle.fdo_msgs.specs.declared.msg.Msg.TheVariants as msg
use Rattle.fdo_msgs.specs.Info.{item_of_pairs}
use Rattle.fdo_msgs.specs.Kind as kind
use Rattle.fdo_msgs.specs.Mfg.{item_of_mfg}
use Rattle.fdo_msgs.specs.OwnerSign.{owner_sign_text}
use Rattle.fdo_msgs.specs.Value.{item_of_flag, item_of_maybe_size, row_text}

abbrev pub kind_of : Msg → ℕ
kind_of (msg.AppStart _) = kind.app_start
kind_of (msg.SetCredentials _) = kind.set_credentials
kind_of (msg.SetHmac _) = kind.set_hmac
kind_of msg.DiDone = kind.di_done
kind_of msg.Hello = kind.hello
kind_of (msg.HelloAck _) = kind.hello_ack
kind_of (msg.OwnerSign _ _ _ _ _) = kind.owner_sign
kind_of (msg.AcceptOwner _) = kind.accept_owner
kind_of (msg.HelloRv _ _) = kind.hello_rv
kind_of (msg.HelloRvAck _ _) = kind.hello_rv_ack
kind_of (msg.ProveToRv _ _ _) = kind.prove_to_rv
kind_of (msg.RvRedirect _) = kind.rv_redirect
kind_of (msg.HelloDevice _ _ _ _ _ _) = kind.hello_device
kind_of (msg.ProveOvHdr _ _ _ _ _ _ _ _ _ _ _ _) = kind.prove_ov_hdr
kind_of (msg.GetOvNextEntry _) = kind.get_ov_next_entry
kind_of (msg.OvNextEntry _ _) = kind.ov_next_entry
kind_of (msg.ProveDevice _ _ _ _ _) = kind.prove_device
kind_of (msg.SetupDevice _ _ _ _ _) = kind.setup_device
kind_of (msg.DeviceReady _ _) = kind.device_ready
kind_of (msg.OwnerReady _) = kind.owner_ready
kind_of (msg.DeviceInfo _ _) = kind.device_info
kind_of (msg.OwnerInfo _ _ _) = kind.owner_info
kind_of (msg.Done _) = kind.done
kind_of (msg.Done2 _) = kind.done2
kind_of (msg.Error _ _ _ _ _) = kind.error

-- an array of the values' deterministic spellings; what is kept as received (an entry, to0d, to1d, and the envelopes of signed
-- bodies) stands as it is
abbrev pub body_of : Msg → List ℕ
body_of (msg.AppStart info) = row_text (det (item_of_mfg info) ∷ [])
body_of (msg.SetCredentials header) = row_text (det (items.Bytes header.raw) ∷ [])
body_of (msg.SetHmac hmac) = row_text (det (item_of_hash hmac) ∷ [])
body_of msg.DiDone = row_text []
body_of msg.Hello = row_text []
body_of (msg.HelloAck nonce) = row_text (det (items.Bytes nonce) ∷ [])
body_of (msg.OwnerSign to0d _ _ _ to1d) = owner_sign_text to0d to1d.raw
body_of (msg.AcceptOwner seconds) = row_text (det (items.Uint seconds) ∷ [])
body_of (msg.HelloRv guid sig) = row_text (det (items.Bytes guid) ∷ det (item_of_sig_info sig) ∷ [])
body_of (msg.HelloRvAck nonce sig) = row_text (det (items.Bytes nonce) ∷ det (item_of_sig_info sig) ∷ [])
body_of (msg.ProveToRv _ _ sign) = det (item_of_sign1 sign)
body_of (msg.RvRedirect to1d) = to1d.raw
body_of (msg.HelloDevice size guid nonce kex cipher sig) =
    row_text (det (items.Uint size) ∷ det (items.Bytes guid) ∷ det (items.Bytes nonce) ∷ det (items.Text kex) ∷ det (item_of_integer cipher) ∷ det (item_of_sig_info sig) ∷ [])
body_of (msg.ProveOvHdr _ _ _ _ _ _ _ _ _ _ _ sign) = det (item_of_sign1 sign)
body_of (msg.GetOvNextEntry n) = row_text (det (items.Uint n) ∷ [])
body_of (msg.OvNextEntry n entry) = row_text (det (items.Uint n) ∷ entry.raw ∷ [])
body_of (msg.ProveDevice _ _ _ _ sign) = det (item_of_sign1 sign)
body_of (msg.SetupDevice _ _ _ _ sign) = det (item_of_sign1 sign)
body_of (msg.DeviceReady hmac size) = row_text (det (item_of_maybe_hash hmac) ∷ det (item_of_maybe_size size) ∷ [])
body_of (msg.OwnerReady size) = row_text (det (item_of_maybe_size size) ∷ [])
body_of (msg.DeviceInfo more pairs) = row_text (det (item_of_flag more) ∷ det (item_of_pairs pairs) ∷ [])
body_of (msg.OwnerInfo more done pairs) = row_text (det (item_of_flag more) ∷ det (item_of_flag done) ∷ det (item_of_pairs pairs) ∷ [])
body_of (msg.Done nonce) = row_text (det (items.Bytes nonce) ∷ [])
body_of (msg.Done2 nonce) = row_text (det (items.Bytes nonce) ∷ [])
body_of (msg.Error code kind text stamp id) = row_text (det (items.Uint code) ∷ det (items.Uint kind) ∷ det (items.Text text) ∷ det stamp ∷ det id ∷ [])

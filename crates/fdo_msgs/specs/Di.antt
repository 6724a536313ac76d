-- The messages of device initialization (FIDO Device Onboard 1.1, section 5.2), by the place of their body.
use Rattle.std.specs.Prelude.{Option, Some, None, if◌then◌else◌}
use Rattle.cbor_core.specs.declared.item.Item.{out-Item}
use Rattle.cbor_core.specs.Spots.{Spot, spot_item}
use Rattle.key_codec.specs.Fault.{ok_of}
use Rattle.key_codec.specs.Hash.{hash_in}
use Rattle.voucher_chain.specs.Fault.{◌>>=◌}
use Rattle.voucher_chain.specs.Voucher.{header_inside}
use Rattle.fdo_msgs.specs.declared.msg.Msg.{Msg}
use Rattle.fdo_msgs.specs.declared.msg.Msg.TheVariants as msg
use Rattle.fdo_msgs.specs.Mfg.{mfg_in}
use Rattle.fdo_msgs.specs.Value.{one_spot, has_length}

abbrev pub app_start : Spot → Option Msg
app_start s = one_spot s >>= λ p. mfg_in (spot_item p) >>= λ info. Some (msg.AppStart info)

abbrev pub set_credentials : Spot → Option Msg
set_credentials s = one_spot s >>= λ p. header_inside (spot_item p) >>= λ header. Some (msg.SetCredentials header)

abbrev pub set_hmac : Spot → Option Msg
set_hmac s = one_spot s >>= λ p. ok_of (hash_in (spot_item p)) >>= λ hmac. Some (msg.SetHmac hmac)

abbrev pub di_done : Spot → Option Msg
di_done s = if has_length 0 (out-Item (spot_item s)) then Some msg.DiDone else None

-- The messages of TO2 that are not signed (FIDO Device Onboard 1.1, section 5.5), and errors (section 5.1), by the place of
-- their body.
use Rattle.std.specs.Prelude.{Option, Some, None}
use Rattle.cbor_core.specs.declared.item.Item.{out-Item}
use Rattle.cbor_core.specs.Numbers.{integer_in}
use Rattle.cbor_core.specs.Shapes.{two_spots, five_spots, six_spots}
use Rattle.cbor_core.specs.Spots.{Spot, spot_item, text_in}
use Rattle.key_codec.specs.Fault.{ok_of}
use Rattle.key_codec.specs.SigInfo.{sig_info_in}
use Rattle.voucher_chain.specs.Entry.{entry_seen}
use Rattle.voucher_chain.specs.Fault.{◌>>=◌}
use Rattle.voucher_chain.specs.Header.{guid_in as sixteen_in, maybe_hash_in}
use Rattle.fdo_msgs.specs.declared.msg.Msg.{Msg}
use Rattle.fdo_msgs.specs.declared.msg.Msg.TheVariants as msg
use Rattle.fdo_msgs.specs.Value.{u8_in, u16_in, u64_in, maybe_size_in, one_spot}

abbrev pub hello_device_of : Spot × Spot × Spot × Spot × Spot × Spot → Option Msg
hello_device_of p =
    u16_in (spot_item p.0) >>= λ size. sixteen_in (spot_item p.1) >>= λ guid. sixteen_in (spot_item p.2) >>= λ nonce. text_in (out-Item (spot_item p.3)) >>= λ kex.
    integer_in (spot_item p.4) >>= λ cipher. ok_of (sig_info_in (spot_item p.5)) >>= λ sig. Some (msg.HelloDevice size guid nonce kex cipher sig)

abbrev pub hello_device : Spot → Option Msg
hello_device s = six_spots s >>= hello_device_of

abbrev pub get_ov_next_entry : Spot → Option Msg
get_ov_next_entry s = one_spot s >>= λ p. u8_in (spot_item p) >>= λ n. Some (msg.GetOvNextEntry n)

abbrev pub ov_next_entry_of : Spot × Spot → Option Msg
ov_next_entry_of p = u8_in (spot_item p.0) >>= λ n. entry_seen p.1 >>= λ entry. Some (msg.OvNextEntry n entry)

abbrev pub ov_next_entry : Spot → Option Msg
ov_next_entry s = two_spots s >>= ov_next_entry_of

abbrev pub device_ready_of : Spot × Spot → Option Msg
device_ready_of p = maybe_hash_in (spot_item p.0) >>= λ hmac. maybe_size_in (spot_item p.1) >>= λ size. Some (msg.DeviceReady hmac size)

abbrev pub device_ready : Spot → Option Msg
device_ready s = two_spots s >>= device_ready_of

abbrev pub owner_ready : Spot → Option Msg
owner_ready s = one_spot s >>= λ p. maybe_size_in (spot_item p) >>= λ size. Some (msg.OwnerReady size)

abbrev pub done : Spot → Option Msg
done s = one_spot s >>= λ p. sixteen_in (spot_item p) >>= λ nonce. Some (msg.Done nonce)

abbrev pub done2 : Spot → Option Msg
done2 s = one_spot s >>= λ p. sixteen_in (spot_item p) >>= λ nonce. Some (msg.Done2 nonce)

abbrev pub error_of : Spot × Spot × Spot × Spot × Spot → Option Msg
error_of p = u16_in (spot_item p.0) >>= λ code. u64_in (spot_item p.1) >>= λ kind. text_in (out-Item (spot_item p.2)) >>= λ text. Some (msg.Error code kind text (spot_item p.3) (spot_item p.4))

abbrev pub error : Spot → Option Msg
error s = five_spots s >>= error_of

-- The messages of TO0 and TO1 that are not signed (FIDO Device Onboard 1.1, sections 5.3 and 5.4), by the place of their
-- body.
use Rattle.std.specs.Prelude.{Option, Some, None, if◌then◌else◌}
use Rattle.cbor_core.specs.declared.item.Item.{out-Item}
use Rattle.cbor_core.specs.Shapes.{two_spots}
use Rattle.cbor_core.specs.Spots.{Spot, spot_item}
use Rattle.key_codec.specs.Fault.{ok_of}
use Rattle.key_codec.specs.SigInfo.{sig_info_in}
use Rattle.voucher_chain.specs.Fault.{◌>>=◌}
use Rattle.voucher_chain.specs.Header.{guid_in as sixteen_in}
use Rattle.fdo_msgs.specs.declared.msg.Msg.{Msg}
use Rattle.fdo_msgs.specs.declared.msg.Msg.TheVariants as msg
use Rattle.fdo_msgs.specs.Value.{u32_in, one_spot, has_length}

abbrev pub hello : Spot → Option Msg
hello s = if has_length 0 (out-Item (spot_item s)) then Some msg.Hello else None

abbrev pub hello_ack : Spot → Option Msg
hello_ack s = one_spot s >>= λ p. sixteen_in (spot_item p) >>= λ nonce. Some (msg.HelloAck nonce)

abbrev pub accept_owner : Spot → Option Msg
accept_owner s = one_spot s >>= λ p. u32_in (spot_item p) >>= λ seconds. Some (msg.AcceptOwner seconds)

abbrev pub hello_rv_of : Spot × Spot → Option Msg
hello_rv_of p = sixteen_in (spot_item p.0) >>= λ guid. ok_of (sig_info_in (spot_item p.1)) >>= λ sig. Some (msg.HelloRv guid sig)

abbrev pub hello_rv : Spot → Option Msg
hello_rv s = two_spots s >>= hello_rv_of

abbrev pub hello_rv_ack_of : Spot × Spot → Option Msg
hello_rv_ack_of p = sixteen_in (spot_item p.0) >>= λ nonce. ok_of (sig_info_in (spot_item p.1)) >>= λ sig. Some (msg.HelloRvAck nonce sig)

abbrev pub hello_rv_ack : Spot → Option Msg
hello_rv_ack s = two_spots s >>= hello_rv_ack_of

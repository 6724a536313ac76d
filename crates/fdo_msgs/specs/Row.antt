-- Bodies that are rows of parts: what the parts are by the message's type (FIDO Device Onboard 1.1, sections 5.2 to 5.5),
-- and where a body is at fault whose parts are not of these shapes.
use Rattle.std.specs.Prelude.{ℕ, List, [], ◌∷◌, length, ◌==◌, if◌then◌else◌, Bool, true, is_some, Option, Some, None, option_map}
use Rattle.cbor_core.specs.declared.item.Item.{out-Item}
use Rattle.cbor_core.specs.Numbers.{integer_in}
use Rattle.cbor_core.specs.Shapes.{is_text}
use Rattle.cbor_core.specs.Spots.{Spot, start, spot_item, spot_parts}
use Rattle.cbor_core.specs.Whole.{whole}
use Rattle.key_codec.specs.Fault.{ok_of}
use Rattle.key_codec.specs.Hash.{hash_in}
use Rattle.key_codec.specs.Places.{hash_place, sig_info_place}
use Rattle.key_codec.specs.SigInfo.{sig_info_in}
use Rattle.voucher_chain.specs.Entry.{entry_seen, entry_place}
use Rattle.voucher_chain.specs.Header.{guid_in as sixteen_in, maybe_hash_in}
use Rattle.voucher_chain.specs.Voucher.{header_inside}
use Rattle.fdo_msgs.specs.declared.shape.Shape.{Shape}
use Rattle.fdo_msgs.specs.declared.shape.Shape.TheVariants as shape
use Rattle.fdo_msgs.specs.Info.{pairs_in, pairs_place}
use Rattle.fdo_msgs.specs.Kind as kind
use Rattle.fdo_msgs.specs.Mfg.{mfg_in, mfg_place}
use Rattle.fdo_msgs.specs.Value.{u8_in, u16_in, u32_in, u64_in, flag_in, maybe_size_in, has_length}

-- ---- what the parts are

-- of the body of a type, where it is a row
unfoldable pub shapes_of : ℕ → Option (List Shape)
shapes_of k =
    if k == kind.app_start then Some (shape.Mfg ∷ [])
    else if k == kind.set_credentials then Some (shape.Header ∷ [])
    else if k == kind.set_hmac then Some (shape.Hash ∷ [])
    else if k == kind.di_done then Some []
    else if k == kind.hello then Some []
    else if k == kind.hello_ack then Some (shape.Sixteen ∷ [])
    else if k == kind.accept_owner then Some (shape.U32 ∷ [])
    else if k == kind.hello_rv then Some (shape.Sixteen ∷ shape.SigInfo ∷ [])
    else if k == kind.hello_rv_ack then Some (shape.Sixteen ∷ shape.SigInfo ∷ [])
    else if k == kind.hello_device then Some (shape.U16 ∷ shape.Sixteen ∷ shape.Sixteen ∷ shape.Text ∷ shape.I64 ∷ shape.SigInfo ∷ [])
    else if k == kind.get_ov_next_entry then Some (shape.U8 ∷ [])
    else if k == kind.ov_next_entry then Some (shape.U8 ∷ shape.Entry ∷ [])
    else if k == kind.device_ready then Some (shape.MaybeHash ∷ shape.MaybeSize ∷ [])
    else if k == kind.owner_ready then Some (shape.MaybeSize ∷ [])
    else if k == kind.device_info then Some (shape.Flag ∷ shape.Pairs ∷ [])
    else if k == kind.owner_info then Some (shape.Flag ∷ shape.Flag ∷ shape.Pairs ∷ [])
    else if k == kind.done then Some (shape.Sixteen ∷ [])
    else if k == kind.done2 then Some (shape.Sixteen ∷ [])
    else if k == kind.error then Some (shape.U16 ∷ shape.U64 ∷ shape.Text ∷ shape.Any ∷ shape.Any ∷ [])
    else None

-- a part is of a shape
abbrev pub is_shape : Shape → Spot → Bool
is_shape shape.U8 s = is_some (u8_in (spot_item s))
is_shape shape.U16 s = is_some (u16_in (spot_item s))
is_shape shape.U32 s = is_some (u32_in (spot_item s))
is_shape shape.U64 s = is_some (u64_in (spot_item s))
is_shape shape.I64 s = is_some (integer_in (spot_item s))
is_shape shape.Flag s = is_some (flag_in (out-Item (spot_item s)))
is_shape shape.Text s = is_text (out-Item (spot_item s))
is_shape shape.Sixteen s = is_some (sixteen_in (spot_item s))
is_shape shape.Any s = true
is_shape shape.SigInfo s = is_some (ok_of (sig_info_in (spot_item s)))
is_shape shape.Hash s = is_some (ok_of (hash_in (spot_item s)))
is_shape shape.MaybeHash s = is_some (maybe_hash_in (spot_item s))
is_shape shape.MaybeSize s = is_some (maybe_size_in (spot_item s))
is_shape shape.Mfg s = is_some (mfg_in (spot_item s))
is_shape shape.Header s = is_some (header_inside (spot_item s))
is_shape shape.Entry s = is_some (entry_seen s)
is_shape shape.Pairs s = is_some (pairs_in (spot_item s))

-- ---- where a part is at fault that is not of its shape: the first part inside that is not of its form, or itself

abbrev pub place_at : Shape → Spot → ℕ
place_at shape.SigInfo s = sig_info_place s
place_at shape.Hash s = hash_place s
place_at shape.MaybeHash s = hash_place s
place_at shape.Mfg s = mfg_place s
place_at shape.Entry s = entry_place None s
place_at shape.Pairs s = pairs_place s
place_at _ s = s.at

-- the first of a row's parts that is not of its shape
unfoldable pub parts_place : ℕ → List Shape → List Spot → ℕ
parts_place at [] spots = at
parts_place at (shape ∷ shapes) [] = at
parts_place at (shape ∷ shapes) (s ∷ spots) = if is_shape shape s then parts_place at shapes spots else place_at shape s

-- an array of another length is at fault itself
abbrev pub row_place : List Shape → Spot → ℕ
row_place shapes s = if has_length (length shapes) (out-Item (spot_item s)) then parts_place s.at shapes (spot_parts s) else s.at

-- ---- bytes that hold one item, to their end

-- where the item stands
abbrev pub inside : List ℕ → Option Spot
inside bytes = option_map (λ item. start bytes) (whole bytes)

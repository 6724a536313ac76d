-- The pairs of ServiceInfo in a message (FIDO Device Onboard 1.1, section 3.8.2, "ServiceInfo"): an array of pairs, each an
-- array of its key, a text, and of the bytes of its value, which hold one item to their end.
use Rattle.std.specs.Prelude.{ℕ, List, [], ◌∷◌, map, is_some, Option, Some, None, if◌then◌else◌}
use Rattle.cbor_core.specs.declared.item.Item.{Item, out-Item}
use Rattle.cbor_core.specs.declared.item.Item.TheVariants as items
use Rattle.cbor_core.specs.Shapes.{is_array, is_text, array_layer, two_items, two_spots, three_spots}
use Rattle.cbor_core.specs.Spots.{Spot, spot_item, spot_parts, bytes_in, text_in}
use Rattle.cbor_core.specs.Whole.{whole}
use Rattle.voucher_chain.specs.Fault.{◌>>=◌, all_in, first_fault, place_or}
use Rattle.service_info.specs.declared.pair.Pair.{Pair}
use Rattle.fdo_msgs.specs.declared.msg.Msg.{Msg}
use Rattle.fdo_msgs.specs.declared.msg.Msg.TheVariants as msg
use Rattle.fdo_msgs.specs.Value.{flag_in}

-- ---- reading

-- bytes that hold one item, to their end
abbrev pub value_in : Item → Option (List ℕ)
value_in x = bytes_in (out-Item x) >>= λ bytes. whole bytes >>= λ item. Some bytes

abbrev pub pair_of : Item × Item → Option Pair
pair_of parts = text_in (out-Item parts.0) >>= λ key. value_in parts.1 >>= λ value. Some (record { key = key; value = value })

abbrev pub pair_in : Item → Option Pair
pair_in x = two_items x >>= pair_of

abbrev pub pairs_in : Item → Option (List Pair)
pairs_in x = array_layer (out-Item x) >>= λ xs. all_in pair_in xs

-- ---- where it is at fault

abbrev pub pair_parts_fault : ℕ → Option (Spot × Spot) → Option ℕ
pair_parts_fault at None = Some at
pair_parts_fault at (Some parts) =
    if is_text (out-Item (spot_item parts.0)) then (if is_some (value_in (spot_item parts.1)) then None else Some parts.1.at)
    else Some parts.0.at

abbrev pub pair_fault : Spot → Option ℕ
pair_fault s = pair_parts_fault s.at (two_spots s)

abbrev pub pairs_fault : Spot → Option ℕ
pairs_fault s = if is_array (out-Item (spot_item s)) then first_fault pair_fault (spot_parts s) else Some s.at

abbrev pub pairs_place : Spot → ℕ
pairs_place s = place_or s.at (pairs_fault s)

-- ---- writing

abbrev pub item_of_pair : Pair → Item
item_of_pair p = items.Array (items.Text p.key ∷ items.Bytes p.value ∷ [])

abbrev pub item_of_pairs : List Pair → Item
item_of_pairs ps = items.Array (map item_of_pair ps)

-- ---- the messages (sections 5.5.10 and 5.5.11)

abbrev pub device_info_of : Spot × Spot → Option Msg
device_info_of p = flag_in (out-Item (spot_item p.0)) >>= λ more. pairs_in (spot_item p.1) >>= λ pairs. Some (msg.DeviceInfo more pairs)

abbrev pub device_info : Spot → Option Msg
device_info s = two_spots s >>= device_info_of

abbrev pub owner_info_of : Spot × Spot × Spot → Option Msg
owner_info_of p = flag_in (out-Item (spot_item p.0)) >>= λ more. flag_in (out-Item (spot_item p.1)) >>= λ done. pairs_in (spot_item p.2) >>= λ pairs. Some (msg.OwnerInfo more done pairs)

abbrev pub owner_info : Spot → Option Msg
owner_info s = three_spots s >>= owner_info_of

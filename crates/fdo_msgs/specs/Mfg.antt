-- What a device says of itself in DI.AppStart (FIDO Device Onboard 1.1, section 5.2.1, DeviceMfgInfo): an array of key
-- type, key encoding, serial number, DeviceInfo, and the key's body by its encoding.
use Rattle.std.specs.Prelude.{ℕ, ℤ, [], ◌∷◌, Bool, false, is_some, Option, Some, None, if◌then◌else◌}
use Rattle.cbor_core.specs.declared.item.Item.{Item, out-Item}
use Rattle.cbor_core.specs.declared.item.Item.TheVariants as items
use Rattle.cbor_core.specs.Numbers.{integer_in, item_of_integer}
use Rattle.cbor_core.specs.Shapes.{is_text, five_items, five_spots}
use Rattle.cbor_core.specs.Spots.{Spot, spot_item, text_in}
use Rattle.key_codec.specs.Fault.{ok_of}
use Rattle.key_codec.specs.Key.{form_of, is_key_type, body_in, item_of_body}
use Rattle.key_codec.specs.Places.{is_type, encoded_place}
use Rattle.voucher_chain.specs.Fault.{◌>>=◌}
use Rattle.fdo_msgs.specs.declared.mfg.MfgInfo.{MfgInfo}

abbrev pub mfg_of : Item × Item × Item × Item × Item → Option MfgInfo
mfg_of parts = integer_in parts.0 >>= λ kind. integer_in parts.1 >>= λ enc. text_in (out-Item parts.2) >>= λ serial. text_in (out-Item parts.3) >>= λ info.
    if is_key_type kind then (ok_of (body_in enc parts.4) >>= λ body. Some (record { pk_type = kind; pk_enc = enc; serial = serial; info = info; body = body })) else None

unfoldable pub mfg_in : Item → Option MfgInfo
mfg_in x = five_items x >>= mfg_of

-- ---- where it is at fault

abbrev pub is_encoding : Option ℤ → Bool
is_encoding None = false
is_encoding (Some enc) = is_some (form_of enc)

-- an unknown type or encoding has the place of its number
abbrev pub mfg_place_in : ℕ → Option (Spot × Spot × Spot × Spot × Spot) → ℕ
mfg_place_in at None = at
mfg_place_in at (Some p) =
    if is_type (integer_in (spot_item p.0)) then
    if is_encoding (integer_in (spot_item p.1)) then
    if is_text (out-Item (spot_item p.2)) then
    if is_text (out-Item (spot_item p.3)) then encoded_place (integer_in (spot_item p.1)) p.1 p.4
    else p.3.at
    else p.2.at
    else p.1.at
    else p.0.at

unfoldable pub mfg_place : Spot → ℕ
mfg_place s = mfg_place_in s.at (five_spots s)

-- ---- writing

abbrev pub item_of_mfg : MfgInfo → Item
item_of_mfg m = items.Array (item_of_integer m.pk_type ∷ item_of_integer m.pk_enc ∷ items.Text m.serial ∷ items.Text m.info ∷ item_of_body m.body ∷ [])

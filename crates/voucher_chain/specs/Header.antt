-- The header of an ownership voucher (FIDO Device Onboard 1.1, section 3.4.2, "OVHeader"): an array of the version, the
-- GUID, the rendezvous information, DeviceInfo, the manufacturer's key, and the hash of the device's certificate chain
-- or null.
use Rattle.std.specs.Prelude.{◌≡◌, IfSome, length, ℕ, List, [], ◌∷◌, Bool, false, Option, Some, None, if◌then◌else◌, ◌==◌, is_some, Result}
use Rattle.cbor_core.specs.declared.item.Item.{Item, out-Item}
use Rattle.cbor_core.specs.declared.item.Item.TheOpen.{Item-F}
use Rattle.cbor_core.specs.declared.item.Item.TheVariants as items
use Rattle.cbor_core.specs.Deterministic.{det}
use Rattle.cbor_core.specs.Shapes.{null, is_null, is_text, of_length, six_spots}
use Rattle.cbor_core.specs.Spots.{Spot, spot_item, spot_raw, bytes_in, text_in}
use Rattle.cbor_core.specs.Whole.{seen_at, Shows}
use Rattle.hash_hmac.specs.declared.hash.Hash.{Hash}
use Rattle.hash_hmac.specs.Value.{IsConsistent}
use Rattle.key_codec.specs.declared.key.PublicKey.{PublicKey}
use Rattle.key_codec.specs.Fault.{ok_of}
use Rattle.key_codec.specs.Hash.{hash_in, item_of_hash}
use Rattle.key_codec.specs.Key.{key_in, item_of_key}
use Rattle.key_codec.specs.Places.{hash_place, key_place}
use Rattle.voucher_chain.specs.declared.header.Header.{Header}
use Rattle.voucher_chain.specs.declared.rv_info.RvInstr.{RvInstr}
use Rattle.voucher_chain.specs.Fault.{◌>>=◌}
use Rattle.voucher_chain.specs.RvInfo.{rv_in, rv_place, item_of_rv}

-- ---- parts

-- the version of the protocol, 1.1
abbrev pub is_version : Item-F Item → Bool
is_version (Item-F.Uint n) = n == 101
is_version _ = false

abbrev pub guid_in : Item → Option (List ℕ)
guid_in x = bytes_in (out-Item x) >>= λ bytes. of_length 16 bytes

abbrev pub maybe_hash_in : Item → Option (Option Hash)
maybe_hash_in x = if is_null (out-Item x) then Some None else (ok_of (hash_in x) >>= λ hash. Some (Some hash))

-- ---- reading

-- a header with the bytes of itself and of its key as they were received
abbrev pub header_values : Spot → Spot → Spot → Spot → Spot → Spot → Option Header
header_values s guid rv info key hash =
    guid_in (spot_item guid) >>= λ guid. rv_in (spot_item rv) >>= λ rv. text_in (out-Item (spot_item info)) >>= λ info.
    ok_of (key_in (spot_item key)) >>= λ own. maybe_hash_in (spot_item hash) >>= λ chain_hash.
    Some (record { raw = spot_raw s; guid = guid; rv = rv; info = info; key = own; key_raw = spot_raw key; chain_hash = chain_hash })

abbrev pub header_of : Spot → Spot × Spot × Spot × Spot × Spot × Spot → Option Header
header_of s parts = if is_version (out-Item (spot_item parts.0)) then header_values s parts.1 parts.2 parts.3 parts.4 parts.5 else None

-- the header that stands at a place
unfoldable pub header_seen : Spot → Option Header
header_seen s = six_spots s >>= header_of s

-- ---- where it is at fault

abbrev pub later_parts_place : Spot → Spot → Spot → Spot → ℕ
later_parts_place rv info key hash =
    if is_some (rv_in (spot_item rv)) then
    if is_text (out-Item (spot_item info)) then
    if is_some (ok_of (key_in (spot_item key))) then hash_place hash
    else key_place key
    else info.at
    else rv_place rv

abbrev pub header_parts_place : ℕ → Option (Spot × Spot × Spot × Spot × Spot × Spot) → ℕ
header_parts_place at None = at
header_parts_place at (Some parts) =
    if is_version (out-Item (spot_item parts.0)) then
    if is_some (guid_in (spot_item parts.1)) then later_parts_place parts.2 parts.3 parts.4 parts.5
    else parts.1.at
    else parts.0.at

unfoldable pub header_place : Spot → ℕ
header_place s = header_parts_place s.at (six_spots s)

-- the header that bytes spell, to their end, or the place of their first fault
abbrev pub header_at : List ℕ → Result Header ℕ
header_at bytes = seen_at header_seen header_place bytes

abbrev pub IsHeader : List ℕ → Header → Type 0
IsHeader bytes header = Shows header_seen bytes header

-- ---- writing

abbrev pub item_of_maybe_hash : Option Hash → Item
item_of_maybe_hash None = null
item_of_maybe_hash (Some hash) = item_of_hash hash

abbrev pub item_of_header : List ℕ → List (List RvInstr) → List ℕ → PublicKey → Option Hash → Item
item_of_header guid rv info key chain_hash = items.Array (items.Uint 101 ∷ items.Bytes guid ∷ item_of_rv rv ∷ items.Text info ∷ item_of_key key ∷ item_of_maybe_hash chain_hash ∷ [])

-- a hash of the form, or none
abbrev pub IsMaybeHash : Option Hash → Type 0
IsMaybeHash hash = IfSome hash IsConsistent

-- with room for the longest
abbrev pub HasRoom : Option Hash → Type 0
HasRoom hash = IfSome hash (λ h. length h.bytes ≡ 48)

-- the header with these parts, in the deterministic encoding
abbrev pub header_with : List ℕ → List (List RvInstr) → List ℕ → PublicKey → Option Hash → Header
header_with guid rv info key chain_hash =
    record { raw = det (item_of_header guid rv info key chain_hash); guid = guid; rv = rv; info = info; key = key; key_raw = det (item_of_key key); chain_hash = chain_hash }

-- Ownership vouchers (FIDO Device Onboard 1.1, section 3.4.2): an array of the version, the bytes of the header, the
-- header's HMAC, the device's certificates or null, and the entries.
use Rattle.std.specs.Prelude.{ℕ, pos, ℤ, List, [], ◌∷◌, ◌++◌, length, map, flat_map, Bool, false, ◌||◌, Option, Some, None, if◌then◌else◌, is_some, is_none}
use Rattle.std.specs.Ordering.{int_eq}
use Rattle.cbor_core.specs.declared.item.Item.{Item, out-Item}
use Rattle.cbor_core.specs.declared.item.Item.TheVariants as items
use Rattle.cbor_core.specs.Deterministic.{det}
use Rattle.cbor_core.specs.Head.{head}
use Rattle.cbor_core.specs.Numbers.{integer_in}
use Rattle.cbor_core.specs.Shapes.{null, is_null, is_array, two_spots, five_spots}
use Rattle.cbor_core.specs.Spots.{Spot, spot_item, spot_raw, spot_parts, bytes_in}
use Rattle.hash_hmac.specs.declared.hash.Hash.{Hash}
use Rattle.key_codec.specs.Fault.{ok_of}
use Rattle.key_codec.specs.Hash.{hash_in}
use Rattle.key_codec.specs.Key.{chain_in}
use Rattle.key_codec.specs.Places.{chain_place}
use Rattle.voucher_chain.specs.declared.entry.Entry.{Entry}
use Rattle.voucher_chain.specs.declared.header.Header.{Header}
use Rattle.voucher_chain.specs.declared.voucher.Voucher.{Voucher}
use Rattle.voucher_chain.specs.Deep.{deep_entry}
use Rattle.voucher_chain.specs.Entry.{entry_seen, entry_place}
use Rattle.voucher_chain.specs.Fault.{◌>>=◌, all_in, value_in}
use Rattle.voucher_chain.specs.Header.{is_version, header_at}

-- ---- parts

-- the header is in a byte string
abbrev pub header_inside : Item → Option Header
header_inside x = bytes_in (out-Item x) >>= λ bytes. value_in (header_at bytes)

-- the kinds of HMACs: HMAC-SHA-256 and HMAC-SHA-384 (RFC 9053, section 3.1)
abbrev pub is_mac : ℤ → Bool
is_mac kind = int_eq kind (pos 5) || int_eq kind (pos 6)

abbrev pub mac_if : Hash → Option Hash
mac_if hash = if is_mac hash.kind then Some hash else None

abbrev pub mac_in : Item → Option Hash
mac_in x = ok_of (hash_in x) >>= mac_if

-- null, or an array of at least one certificate
abbrev pub certificates_in : Item → Option (Option (List (List ℕ)))
certificates_in x =
    if is_null (out-Item x) then Some None
    else if is_array (out-Item x) then (ok_of (chain_in x) >>= λ chain. Some (Some chain))
    else None

-- an entry with nothing too deep in it
abbrev pub entry_inside : Spot → Option Entry
entry_inside s = if is_none (deep_entry s) then entry_seen s else None

abbrev pub entries_inside : Spot → Option (List Entry)
entries_inside s = if is_array (out-Item (spot_item s)) then all_in entry_inside (spot_parts s) else None

-- ---- reading

-- a voucher with the bytes of itself and of its HMAC as they were received
abbrev pub voucher_values : Spot → Spot → Spot → Spot → Spot → Option Voucher
voucher_values s header mac chain entries =
    mac_in (spot_item mac) >>= λ hmac. header_inside (spot_item header) >>= λ header. certificates_in (spot_item chain) >>= λ chain. entries_inside entries >>= λ entries.
    Some (record { raw = spot_raw s; header = header; hmac = hmac; hmac_raw = spot_raw mac; chain = chain; entries = entries })

abbrev pub voucher_of : Spot → Spot × Spot × Spot × Spot × Spot → Option Voucher
voucher_of s parts = if is_version (out-Item (spot_item parts.0)) then voucher_values s parts.1 parts.2 parts.3 parts.4 else None

-- the voucher that stands at a place, with any number of entries
unfoldable pub voucher_seen : Spot → Option Voucher
voucher_seen s = five_spots s >>= voucher_of s

-- ---- where it is at fault

abbrev pub is_mac_number : Option ℤ → Bool
is_mac_number None = false
is_mac_number (Some kind) = is_mac kind

abbrev pub mac_place_in : ℕ → Option (Spot × Spot) → ℕ
mac_place_in at None = at
mac_place_in at (Some parts) = if is_mac_number (integer_in (spot_item parts.0)) then parts.1.at else parts.0.at

-- another kind has the place of its number, another length that of the bytes
abbrev pub mac_place : Spot → ℕ
mac_place s = mac_place_in s.at (two_spots s)

abbrev pub entries_place : ℕ → List Spot → ℕ
entries_place at [] = at
entries_place at (s ∷ ss) = if is_some (entry_inside s) then entries_place at ss else entry_place (deep_entry s) s

abbrev pub entries_part_place : Spot → ℕ
entries_part_place s = if is_array (out-Item (spot_item s)) then entries_place s.at (spot_parts s) else s.at

abbrev pub later_parts_place : Spot → Spot → Spot → ℕ
later_parts_place mac chain entries =
    if is_some (mac_in (spot_item mac)) then
    if is_some (certificates_in (spot_item chain)) then entries_part_place entries
    else chain_place chain
    else mac_place mac

abbrev pub voucher_parts_place : ℕ → Option (Spot × Spot × Spot × Spot × Spot) → ℕ
voucher_parts_place at None = at
voucher_parts_place at (Some parts) =
    if is_version (out-Item (spot_item parts.0)) then
    if is_some (header_inside (spot_item parts.1)) then later_parts_place parts.2 parts.3 parts.4
    else parts.1.at
    else parts.0.at

unfoldable pub voucher_place : Spot → ℕ
voucher_place s = voucher_parts_place s.at (five_spots s)

-- ---- writing

abbrev pub item_of_certificates : Option (List (List ℕ)) → Item
item_of_certificates None = null
item_of_certificates (Some chain) = items.Array (map items.Bytes chain)

-- the bytes of a voucher, in the deterministic encoding but for its HMAC and its entries, which stand as they were received
abbrev pub voucher_bytes : List ℕ → List ℕ → Option (List (List ℕ)) → List Entry → List ℕ
voucher_bytes header hmac chain entries = head 4 5 ++ head 0 101 ++ head 2 (length header) ++ header ++ hmac ++ det (item_of_certificates chain) ++ head 4 (length entries) ++ flat_map (λ (e : Entry). e.raw) entries

-- the voucher of these parts
abbrev pub voucher_with : Header → Hash → List ℕ → Option (List (List ℕ)) → List Entry → Voucher
voucher_with header hmac hmac_raw chain entries =
    record { raw = voucher_bytes header.raw hmac_raw chain entries; header = header; hmac = hmac; hmac_raw = hmac_raw; chain = chain; entries = entries }

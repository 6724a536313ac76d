-- The entries of an ownership voucher (FIDO Device Onboard 1.1, section 3.4.2, "OVEntry"): a Sign1 whose payload is an
-- array of the hash of what stands before, the hash of the header's information, null or bytes, and the next owner's key.
use Rattle.std.specs.Prelude.{ℕ, List, [], ◌∷◌, Bool, Option, Some, None, if◌then◌else◌, is_some, Result, option_map}
use Rattle.cbor_core.specs.declared.item.Item.{Item, out-Item}
use Rattle.cbor_core.specs.declared.item.Item.TheVariants as items
use Rattle.cbor_core.specs.Shapes.{null, is_null, is_map, four_items, four_spots}
use Rattle.cbor_core.specs.Spots.{Spot, spot_item, spot_raw, bytes_in}
use Rattle.cbor_core.specs.Whole.{whole, seen_at, Shows}
use Rattle.hash_hmac.specs.declared.hash.Hash.{Hash}
use Rattle.key_codec.specs.declared.key.PublicKey.{PublicKey}
use Rattle.key_codec.specs.Fault.{ok_of}
use Rattle.key_codec.specs.Hash.{hash_in, item_of_hash}
use Rattle.key_codec.specs.Key.{key_in, item_of_key}
use Rattle.cose_envelopes.specs.declared.sign1.Sign1.{Sign1}
use Rattle.cose_envelopes.specs.Envelope.{sign1_in}
use Rattle.cose_envelopes.specs.Places.{content_at, is_protected}
use Rattle.voucher_chain.specs.declared.entry.Entry.{Entry}
use Rattle.voucher_chain.specs.declared.entry.Payload.{Payload}
use Rattle.voucher_chain.specs.Fault.{◌>>=◌}

-- ---- reading

abbrev pub extra_in : Item → Option (Option (List ℕ))
extra_in x = if is_null (out-Item x) then Some None else (bytes_in (out-Item x) >>= λ bytes. Some (Some bytes))

abbrev pub payload_of : Item × Item × Item × Item → Option Payload
payload_of parts =
    ok_of (hash_in parts.0) >>= λ prev. ok_of (hash_in parts.1) >>= λ hdr. extra_in parts.2 >>= λ extra. ok_of (key_in parts.3) >>= λ key.
    Some (record { prev = prev; hdr = hdr; extra = extra; key = key })

abbrev pub payload_item : Item → Option Payload
payload_item x = four_items x >>= payload_of

-- what a payload's bytes say, to their end
unfoldable pub payload_in : List ℕ → Option Payload
payload_in bytes = whole bytes >>= payload_item

abbrev pub entry_of : List ℕ → Sign1 → Payload → Entry
entry_of raw sign p = record { raw = raw; prev = p.prev; hdr = p.hdr; extra = p.extra; key = p.key; sign = sign }

-- the entry that an envelope is, whose bytes are as they were received
abbrev pub signed_entry : List ℕ → Sign1 → Option Entry
signed_entry raw sign = option_map (entry_of raw sign) (payload_in sign.payload)

-- the entry that stands at a place
unfoldable pub entry_seen : Spot → Option Entry
entry_seen s = sign1_in (spot_item s) >>= signed_entry (spot_raw s)

-- ---- where it is at fault

-- a byte string that holds the payload of an entry
abbrev pub is_payload : Spot → Bool
is_payload s = is_some (bytes_in (out-Item (spot_item s)) >>= payload_in)

abbrev pub later_place : Option ℕ → Spot → Spot → ℕ
later_place (Some place) payload sig = place
later_place None payload sig = if is_payload payload then sig.at else payload.at

-- where something stands too deep in the unprotected header, that counts in the order of offsets
abbrev pub entry_parts_place : Option ℕ → ℕ → Option (Spot × Spot × Spot × Spot) → ℕ
entry_parts_place deep at None = at
entry_parts_place deep at (Some parts) =
    if is_protected parts.0 then
    if is_map (out-Item (spot_item parts.1)) then later_place deep parts.2 parts.3
    else parts.1.at
    else parts.0.at

abbrev pub content_fault : Option ℕ → Spot → ℕ
content_fault deep s = entry_parts_place deep s.at (four_spots s)

unfoldable pub entry_place : Option ℕ → Spot → ℕ
entry_place deep s = content_fault deep (content_at 18 s)

-- the entry that bytes spell, to their end, or the place of their first fault
abbrev pub entry_at : List ℕ → Result Entry ℕ
entry_at bytes = seen_at entry_seen (entry_place None) bytes

abbrev pub IsEntry : List ℕ → Entry → Type 0
IsEntry bytes entry = Shows entry_seen bytes entry

-- ---- writing

abbrev pub item_of_payload : Hash → Hash → PublicKey → Item
item_of_payload prev hdr key = items.Array (item_of_hash prev ∷ item_of_hash hdr ∷ null ∷ item_of_key key ∷ [])

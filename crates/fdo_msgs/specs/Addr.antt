-- Where an owner can be reached (FIDO Device Onboard 1.1, section 5.3.3, "RVTO2AddrEntry"): an array of the bytes of an IP
-- address or null, a name or null, a port and a protocol.
use Rattle.std.specs.Prelude.{ℕ, List, [], ◌∷◌, map, Option, Some, None, if◌then◌else◌}
use Rattle.cbor_core.specs.declared.item.Item.{Item, out-Item}
use Rattle.cbor_core.specs.declared.item.Item.TheVariants as items
use Rattle.cbor_core.specs.Shapes.{null, is_null, array_layer, four_items}
use Rattle.cbor_core.specs.Spots.{bytes_in, text_in}
use Rattle.voucher_chain.specs.Fault.{◌>>=◌, all_in}
use Rattle.fdo_msgs.specs.Value.{u16_in}
use Rattle.fdo_msgs.specs.declared.addr.AddrEntry.{AddrEntry}

abbrev pub maybe_bytes_in : Item → Option (Option (List ℕ))
maybe_bytes_in x = if is_null (out-Item x) then Some None else (bytes_in (out-Item x) >>= λ bytes. Some (Some bytes))

abbrev pub maybe_text_in : Item → Option (Option (List ℕ))
maybe_text_in x = if is_null (out-Item x) then Some None else (text_in (out-Item x) >>= λ text. Some (Some text))

abbrev pub addr_of : Item × Item × Item × Item → Option AddrEntry
addr_of parts =
    maybe_bytes_in parts.0 >>= λ ip. maybe_text_in parts.1 >>= λ dns. u16_in parts.2 >>= λ port. u16_in parts.3 >>= λ protocol.
    Some (record { ip = ip; dns = dns; port = port; protocol = protocol })

abbrev pub addr_in : Item → Option AddrEntry
addr_in x = four_items x >>= addr_of

-- the addresses that an item says
abbrev pub addrs_in : Item → Option (List AddrEntry)
addrs_in x = array_layer (out-Item x) >>= λ xs. all_in addr_in xs

-- ---- writing

abbrev pub item_of_maybe_bytes : Option (List ℕ) → Item
item_of_maybe_bytes None = null
item_of_maybe_bytes (Some bytes) = items.Bytes bytes

abbrev pub item_of_maybe_text : Option (List ℕ) → Item
item_of_maybe_text None = null
item_of_maybe_text (Some text) = items.Text text

abbrev pub item_of_addr : AddrEntry → Item
item_of_addr a = items.Array (item_of_maybe_bytes a.ip ∷ item_of_maybe_text a.dns ∷ items.Uint a.port ∷ items.Uint a.protocol ∷ [])

abbrev pub item_of_addrs : List AddrEntry → Item
item_of_addrs addrs = items.Array (map item_of_addr addrs)

-- The bytes of the owners' keys in a voucher as they were received (FIDO Device Onboard 1.1, section 3.4.2).
use Rattle.std.specs.Prelude.{ℕ, false, List, [], ◌∷◌, Option, Some, None, Result, Ok, Err}
use Rattle.cbor_core.specs.declared.fault.CborFault.{CborFault}
use Rattle.cbor_core.specs.declared.item.Item.{Item}
use Rattle.cbor_core.specs.Reading.{first_item}
use Rattle.cbor_core.specs.Shapes.{four_spots}
use Rattle.cbor_core.specs.Spots.{Spot, start, spot_raw}
use Rattle.voucher_chain.specs.declared.entry.Entry.{Entry}
use Rattle.voucher_chain.specs.declared.voucher.Voucher.{Voucher}

-- the bytes of the last of four parts
abbrev pub fourth_raw : Option (Spot × Spot × Spot × Spot) → List ℕ
fourth_raw None = []
fourth_raw (Some parts) = spot_raw parts.3

abbrev pub key_in_payload : List ℕ → Result (Item × ℕ) CborFault → List ℕ
key_in_payload payload (Ok x) = fourth_raw (four_spots (start payload))
key_in_payload payload (Err fault) = []

-- the next owner's key is the last of the four parts of an entry's payload; a payload of another form, which no entry has
-- that was read, holds none
unfoldable pub key_received : Entry → List ℕ
key_received e = key_in_payload e.sign.payload (first_item false e.sign.payload)

-- the last owner's key
abbrev pub last_received : List ℕ → List Entry → List ℕ
last_received key [] = key
last_received key (e ∷ es) = last_received (key_received e) es

abbrev pub owner_received : Voucher → List ℕ
owner_received v = last_received v.header.key_raw v.entries

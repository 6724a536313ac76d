-- What the parts of bodies say, and how their values are written (FIDO Device Onboard 1.1, section 3.3).
use Rattle.std.specs.Prelude.{ℕ, ◌^◌, ◌-◌, List, [], ◌∷◌, ◌++◌, length, Bool, true, false, nat_le, ◌==◌, Option, Some, None, option_map, Result, Ok, Err, if◌then◌else◌}
use Rattle.std.specs.List.{concat}
use Rattle.cbor_core.specs.declared.item.Item.{Item, out-Item}
use Rattle.cbor_core.specs.declared.item.Item.TheOpen.{Item-F}
use Rattle.cbor_core.specs.declared.item.Item.TheVariants as items
use Rattle.cbor_core.specs.Head.{head}
use Rattle.cbor_core.specs.Shapes.{null, is_null, is_array, four_of}
use Rattle.cbor_core.specs.Spots.{Spot, spot_item, spot_parts}
use Rattle.voucher_chain.specs.declared.fault.ChainFault.{ChainFault}
use Rattle.voucher_chain.specs.declared.voucher.Voucher.{Voucher}
use Rattle.voucher_chain.specs.Fault.{◌>>=◌}
use Rattle.voucher_chain.specs.Reading.{voucher_at}

-- ---- numbers

-- a number up to a greatest one
abbrev pub up_to : ℕ → Item-F Item → Option ℕ
up_to most (Item-F.Uint n) = if nat_le n most then Some n else None
up_to most _ = None

abbrev pub u8_in : Item → Option ℕ
u8_in x = up_to (2 ^ 8 - 1) (out-Item x)

abbrev pub u16_in : Item → Option ℕ
u16_in x = up_to (2 ^ 16 - 1) (out-Item x)

abbrev pub u32_in : Item → Option ℕ
u32_in x = up_to (2 ^ 32 - 1) (out-Item x)

abbrev pub u64_in : Item → Option ℕ
u64_in x = up_to (2 ^ 64 - 1) (out-Item x)

-- a size of 16 bits, or null
abbrev pub maybe_size_in : Item → Option (Option ℕ)
maybe_size_in x = if is_null (out-Item x) then Some None else (u16_in x >>= λ n. Some (Some n))

abbrev pub item_of_maybe_size : Option ℕ → Item
item_of_maybe_size None = null
item_of_maybe_size (Some n) = items.Uint n

-- ---- true and false (RFC 8949, section 3.3)

abbrev pub flag_in : Item-F Item → Option Bool
flag_in (Item-F.Simple n) = if n == 20 then Some false else if n == 21 then Some true else None
flag_in _ = None

abbrev pub item_of_flag : Bool → Item
item_of_flag b = items.Simple (if b then 21 else 20)

-- ---- vouchers

-- one that bytes spell, whatever stands around them
abbrev pub found_voucher : Result Voucher ChainFault → Option Voucher
found_voucher (Ok voucher) = Some voucher
found_voucher (Err fault) = None

abbrev pub voucher_in : List ℕ → Option Voucher
voucher_in bytes = found_voucher (voucher_at bytes)

-- ---- rows

abbrev pub one_of : {A : Type 0} → List A → Option A
one_of (a ∷ []) = Some a
one_of _ = None

-- the first four, and the others
abbrev pub front_four : {A : Type 0} → List A → Option ((A × A × A × A) × List A)
front_four (a ∷ b ∷ c ∷ d ∷ rest) = Some ((a, b, c, d), rest)
front_four _ = None

abbrev pub eight_with : {A : Type 0} → (A × A × A × A) × List A → Option (A × A × A × A × A × A × A × A)
eight_with p = option_map (λ q. (p.0.0, p.0.1, p.0.2, p.0.3, q.0, q.1, q.2, q.3)) (four_of p.1)

abbrev pub eight_of : {A : Type 0} → List A → Option (A × A × A × A × A × A × A × A)
eight_of xs = front_four xs >>= eight_with

-- the place of the part of an array of one, and those of eight
abbrev pub one_spot : Spot → Option Spot
one_spot s = if is_array (out-Item (spot_item s)) then one_of (spot_parts s) else None

abbrev pub eight_spots : Spot → Option (Spot × Spot × Spot × Spot × Spot × Spot × Spot × Spot)
eight_spots s = if is_array (out-Item (spot_item s)) then eight_of (spot_parts s) else None

-- an array of so many parts
abbrev pub has_length : ℕ → Item-F Item → Bool
has_length n (Item-F.Array xs) = length xs == n
has_length n _ = false

-- an array of values, by the bytes of each
abbrev pub row_text : List (List ℕ) → List ℕ
row_text texts = head 4 (length texts) ++ concat texts

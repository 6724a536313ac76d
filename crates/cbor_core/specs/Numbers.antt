-- Numbers of 64 bits with a sign (RFC 8949, section 3.1: major type 0 is n, major type 1 is -1 - n).
use Rattle.std.specs.Prelude.{ℕ, ◌^◌, ◌<◌, nat_lt, ℤ, pos, negsuc, Option, Some, None, if◌then◌else◌}
use Rattle.cbor_core.specs.declared.item.Item.{Item, out-Item}
use Rattle.cbor_core.specs.declared.item.Item.TheOpen.{Item-F}
use Rattle.cbor_core.specs.declared.item.Item.TheVariants as items

-- a number, where its argument is small enough for 64 bits with a sign
abbrev pub within_i64 : ℕ → ℤ → Option ℤ
within_i64 n number = if nat_lt n (2 ^ 63) then Some number else None

abbrev pub integer_layer : Item-F Item → Option ℤ
integer_layer (Item-F.Uint n) = within_i64 n (pos n)
integer_layer (Item-F.Nint n) = within_i64 n (negsuc n)
integer_layer _ = None

-- the number that an item is
abbrev pub integer_in : Item → Option ℤ
integer_in item = integer_layer (out-Item item)

-- a number as an item
abbrev pub item_of_integer : ℤ → Item
item_of_integer (pos n) = items.Uint n
item_of_integer (negsuc n) = items.Nint n

-- a number is one of 64 bits with a sign
abbrev pub IsI64 : ℤ → Type 0
IsI64 (pos n) = n < 2 ^ 63
IsI64 (negsuc n) = n < 2 ^ 63

-- Keys of pairs: the name of a module, a colon, and the name of one of its messages (FIDO Device Onboard 1.1, section
-- 3.8.2.1). Both names have 1 to 64 bytes.
use Rattle.std.specs.Prelude.{ℕ, ◌+◌, List, length, take, drop, position, Bool, false, ◌==◌, ◌||◌, ◌&&◌, nat_le, Option, Some, None}
use Rattle.std.specs.List.{list_all}

abbrev pub is_within : ℕ → ℕ → ℕ → Bool
is_within first last byte = nat_le first byte && nat_le byte last

-- a to z, 0 to 9, '.', '-' and '_'
abbrev pub is_message_byte : ℕ → Bool
is_message_byte byte = is_within 97 122 byte || is_within 48 57 byte || byte == 46 || byte == 45 || byte == 95

-- and A to Z
abbrev pub is_module_byte : ℕ → Bool
is_module_byte byte = is_message_byte byte || is_within 65 90 byte

abbrev pub is_name : (ℕ → Bool) → List ℕ → Bool
is_name is_byte name = is_within 1 64 (length name) && list_all is_byte name

abbrev pub is_colon : ℕ → Bool
is_colon byte = byte == 58

abbrev pub parted : List ℕ → Option ℕ → Bool
parted key None = false
parted key (Some at) = is_name is_module_byte (take at key) && is_name is_message_byte (drop (at + 1) key)

-- a key is parted by its first colon; names have none
abbrev pub is_key : List ℕ → Bool
is_key key = parted key (position is_colon key)

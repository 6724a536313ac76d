-- Names of hosts (RFC 1123, section 2.1, with `_`, which some networks use).
use Rattle.std.specs.Prelude.{ℕ, List, [], ◌∷◌, Bool, true, length, ◌&&◌, ◌||◌, ◌==◌, nat_le}
use Rattle.std.specs.Char.{is_ascii_alphanumeric}

-- an ASCII letter, a digit, `.` (46), `-` (45) or `_` (95)
abbrev pub is_host_byte : ℕ → Bool
is_host_byte byte = is_ascii_alphanumeric byte || ((byte == 46) || ((byte == 45) || (byte == 95)))

abbrev pub are_host_bytes : List ℕ → Bool
are_host_bytes [] = true
are_host_bytes (byte ∷ bytes) = is_host_byte byte && are_host_bytes bytes

-- 1 to 253 such bytes
abbrev pub is_host_name : List ℕ → Bool
is_host_name bytes = (nat_le 1 (length bytes) && nat_le (length bytes) 253) && are_host_bytes bytes

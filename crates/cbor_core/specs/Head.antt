-- Heads of data items (RFC 8949, section 3): the major type in the three high bits of the first byte, and the
-- argument in its five low bits or in the 1, 2, 4 or 8 bytes after it.
use Rattle.std.specs.Prelude.{ℕ, ◌+◌, ◌*◌, ◌/◌, ◌%◌, ◌^◌, List, [], ◌∷◌, nat_lt, ◌==◌, if◌then◌else◌}
use Rattle.std.specs.Int.{w8, w16, w32, w64, to_be_bytes}
use Rattle.cbor_core.specs.declared.head.Major.{Major}
use Rattle.cbor_core.specs.declared.head.Major.TheVariants as major
use Rattle.cbor_core.specs.declared.head.Size.{Size}
use Rattle.cbor_core.specs.declared.head.Size.TheVariants as size

-- the head with the shortest argument (section 4.2.1)
unfoldable pub head : ℕ → ℕ → List ℕ
head m n =
    if nat_lt n 24 then (32 * m + n) ∷ []
    else if nat_lt n (2 ^ 8) then (32 * m + 24) ∷ to_be_bytes w8 n
    else if nat_lt n (2 ^ 16) then (32 * m + 25) ∷ to_be_bytes w16 n
    else if nat_lt n (2 ^ 32) then (32 * m + 26) ∷ to_be_bytes w32 n
    else (32 * m + 27) ∷ to_be_bytes w64 n

-- the three high bits and the five low bits of a first byte
abbrev pub high_of : ℕ → ℕ
high_of first = first / 32

abbrev pub low_of : ℕ → ℕ
low_of first = first % 32

-- the major type of a number below 7
unfoldable pub major_of : ℕ → Major
major_of n =
    if n == 0 then major.Unsigned
    else if n == 1 then major.Negative
    else if n == 2 then major.Bytes
    else if n == 3 then major.Text
    else if n == 4 then major.Array
    else if n == 5 then major.Map
    else major.Tag

-- where additional information of 0 to 31 puts the argument
unfoldable pub size_of : ℕ → Size
size_of low =
    if nat_lt low 24 then size.Inside
    else if low == 24 then size.One
    else if low == 25 then size.Two
    else if low == 26 then size.Four
    else if low == 27 then size.Eight
    else if low == 31 then size.Indefinite
    else size.Reserved

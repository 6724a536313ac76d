-- Lists of bytes.
use Rattle.std.specs.Prelude.{ℕ, ◌-◌, List, ◌++◌, length, map, replicate, bit_xor}

-- the bytes, and zeros up to a length
abbrev pub padded : ℕ → List ℕ → List ℕ
padded size bytes = bytes ++ replicate (size - length bytes) 0

-- each byte of a list, combined with one byte by exclusive or
abbrev pub xor_all : ℕ → List ℕ → List ℕ
xor_all byte bytes = map (λ b. bit_xor b byte) bytes

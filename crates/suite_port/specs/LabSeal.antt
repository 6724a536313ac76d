-- The sealing of the laboratory suite.
use Rattle.std.specs.Prelude.{ℕ, ℤ, negsuc, suc, ◌-◌, ◌/◌, ◌%◌, ◌^◌, ◌&&◌, List, [], ◌∷◌, ◌++◌, length, take, drop, nat_le, codes, bit_xor, slice_index_or, Option, None, Some, if◌then◌else◌}
use Rattle.std.specs.Int.{w32, w64, to_be_bytes}
use Rattle.std.specs.Ordering.{int_eq}
use Rattle.std.specs.Str.{bytes_eq}
use Rattle.sha2.specs.Sha256.{sha256}
use Rattle.suite_port.specs.Answer.{only_if}

-- -65538 has 128 bits, and -65539, of two keys, 256
abbrev pub lab_bits : ℤ → Option ℕ
lab_bits alg =
    if int_eq alg (negsuc 65537) then Some 128
    else if int_eq alg (negsuc 65538) then Some 256
    else None

-- the lower 32 bits of a number in 4 bytes, and a number in 8 bytes, most significant byte first
unfoldable pub in_four_bytes : ℕ → List ℕ
in_four_bytes number = to_be_bytes w32 (number % 2 ^ 32)

unfoldable pub in_eight_bytes : ℕ → List ℕ
in_eight_bytes number = to_be_bytes w64 number

-- a block of 32 bytes of the stream, by its number from 0, which is counted in 4 bytes
abbrev pub stream_block : List ℕ → List ℕ → ℕ → List ℕ
stream_block key iv number = sha256 (codes "FDO-LAB-STREAM" ++ key ++ iv ++ in_four_bytes number)

-- the byte of the stream at a place
abbrev pub stream : List ℕ → List ℕ → ℕ → ℕ
stream key iv place = slice_index_or (stream_block key iv (place / 32)) (place % 32) 0

-- the bytes from a place on, each combined with that of a stream by exclusive or
abbrev pub masked : (ℕ → ℕ) → ℕ → List ℕ → List ℕ
masked bytes place [] = []
masked bytes place (byte ∷ text) = bit_xor byte (bytes place) ∷ masked bytes (suc place) text

-- a text combined with the stream, which gives the other text back too
abbrev pub lab_combined : List ℕ → List ℕ → List ℕ → List ℕ
lab_combined key iv text = masked (stream key iv) 0 text

-- the tag of 16 bytes over the additional data, with its length in 8 bytes, and the combined text
abbrev pub lab_tag : List ℕ → List ℕ → List ℕ → List ℕ → List ℕ
lab_tag key iv aad text = take 16 (sha256 (codes "FDO-LAB-TAG" ++ key ++ iv ++ in_eight_bytes (length aad) ++ aad ++ text))

-- the combined text, and its tag
abbrev pub lab_seals : ℤ → List ℕ → List ℕ → List ℕ → List ℕ → List ℕ
lab_seals alg key iv aad plain = lab_combined key iv plain ++ lab_tag key iv aad (lab_combined key iv plain)

-- what stands before the last 16 bytes is the combined text, where they are its tag
abbrev pub lab_opens : ℤ → List ℕ → List ℕ → List ℕ → List ℕ → Option (List ℕ)
lab_opens alg key iv aad sealed =
    let text = take (length sealed - 16) sealed in
    only_if (nat_le 16 (length sealed) && bytes_eq (drop (length sealed - 16) sealed) (lab_tag key iv aad text)) (lab_combined key iv text)

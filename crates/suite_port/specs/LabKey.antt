-- The keys and signatures of the laboratory suite.
use Rattle.std.specs.Prelude.{ℕ, ℤ, negsuc, ◌+◌, ◌==◌, ◌&&◌, List, [], ◌∷◌, ◌++◌, length, nat_lt, nat_le, codes, Bool, false, Option, if◌then◌else◌}
use Rattle.std.specs.Ordering.{int_eq}
use Rattle.std.specs.Str.{bytes_eq}
use Rattle.sha2.specs.Sha256.{sha256}
use Rattle.suite_port.specs.Answer.{only_if}

-- a private key has 1 to 32 bytes
abbrev pub is_private : List ℕ → Bool
is_private private = nat_le 1 (length private) && nat_le (length private) 32

-- the head of a byte string of at most 255 bytes (RFC 8949, section 3)
abbrev pub string_head : ℕ → List ℕ
string_head n = if nat_lt n 24 then (0x40 + n) ∷ [] else 0x58 ∷ n ∷ []

-- the public key of a private one: an array of the type 200, the encoding 0 and the private bytes
abbrev pub public_key : List ℕ → List ℕ
public_key private = 0x83 ∷ 0x18 ∷ 0xc8 ∷ 0 ∷ string_head (length private) ++ private

-- a public key of the type 200: an array of three that begins with that number
abbrev pub is_lab_key : List ℕ → Bool
is_lab_key (a ∷ b ∷ c ∷ rest) = (a == 0x83) && (b == 0x18) && (c == 0xc8)
is_lab_key _ = false

-- -65537
abbrev pub signature_number : ℤ
signature_number = negsuc 65536

-- keys of the type 200 sign, and no others
abbrev pub lab_algorithm : List ℕ → Option ℤ
lab_algorithm key = only_if (is_lab_key key) signature_number

-- the signature of a text under a public key
abbrev pub lab_signature : List ℕ → List ℕ → List ℕ
lab_signature key text = sha256 (codes "FDO-LAB-SIG" ++ key ++ text)

-- a signature is right where it is the one that `sign` gives; other keys and other numbers are none of the suite's
abbrev pub lab_verifies : List ℕ → ℤ → List ℕ → List ℕ → Option Bool
lab_verifies key alg text sig = only_if (is_lab_key key && int_eq alg signature_number) (bytes_eq sig (lab_signature key text))

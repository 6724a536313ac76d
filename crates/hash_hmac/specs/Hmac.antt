-- HMAC (RFC 2104).
use Rattle.std.specs.Prelude.{ℕ, ℤ, List, ◌++◌, length, nat_lt, Option, None, Some, if◌then◌else◌}
use Rattle.std.specs.Ordering.{int_eq}
use Rattle.sha2.specs.Sha256.{sha256}
use Rattle.sha2.specs.Sha512.{sha384}
use Rattle.hash_hmac.specs.Bytes.{padded, xor_all}
use Rattle.hash_hmac.specs.Kind.{hmac_sha256_kind, hmac_sha384_kind}

-- the secret as one block of the hash: hashed where it is longer than a block, and then zeros (section 2)
abbrev pub key_block : (List ℕ → List ℕ) → ℕ → List ℕ → List ℕ
key_block hash block secret = padded block (if nat_lt block (length secret) then hash secret else secret)

-- H(K XOR opad, H(K XOR ipad, text)), where K is the key as a block, ipad the byte 0x36 and opad the byte 0x5c in
-- each place (section 2)
unfoldable pub hmac : (List ℕ → List ℕ) → ℕ → List ℕ → List ℕ → List ℕ
hmac hash block secret text =
    let key = key_block hash block secret in
    hash (xor_all 0x5c key ++ hash (xor_all 0x36 key ++ text))

-- HMAC-SHA-256, whose block has 64 bytes (FIPS 180-4, section 1)
abbrev pub hmac_sha256 : List ℕ → List ℕ → List ℕ
hmac_sha256 secret text = hmac sha256 64 secret text

-- HMAC-SHA-384, whose block has 128 bytes (FIPS 180-4, section 1)
abbrev pub hmac_sha384 : List ℕ → List ℕ → List ℕ
hmac_sha384 secret text = hmac sha384 128 secret text

-- the HMAC of a text, by its kind; none where the kind is that of no HMAC
unfoldable pub maced : ℤ → List ℕ → List ℕ → Option (List ℕ)
maced kind secret text =
    if int_eq kind hmac_sha256_kind then Some (hmac_sha256 secret text)
    else if int_eq kind hmac_sha384_kind then Some (hmac_sha384 secret text)
    else None

-- The kinds of hashes and HMACs by their numbers (FIDO Device Onboard 1.1, section 3.3.2; the numbers are COSE's,
-- RFC 9053, section 3.1, and RFC 9054, section 3.2).
use Rattle.std.specs.Prelude.{ℕ, ℤ, pos, negsuc, Option, None, Some, ◌||◌, if◌then◌else◌}
use Rattle.std.specs.Ordering.{int_eq}

-- SHA-256, -16
abbrev pub sha256_kind : ℤ
sha256_kind = negsuc 15

-- SHA-384, -43
abbrev pub sha384_kind : ℤ
sha384_kind = negsuc 42

-- HMAC-SHA-256
abbrev pub hmac_sha256_kind : ℤ
hmac_sha256_kind = pos 5

-- HMAC-SHA-384
abbrev pub hmac_sha384_kind : ℤ
hmac_sha384_kind = pos 6

-- how many bytes a value of a kind has, where the kind is known
abbrev pub length_of : ℤ → Option ℕ
length_of kind =
    if int_eq kind sha256_kind || int_eq kind hmac_sha256_kind then Some 32
    else if int_eq kind sha384_kind || int_eq kind hmac_sha384_kind then Some 48
    else None

-- The hash of a text, by its kind (FIPS 180-4).
use Rattle.std.specs.Prelude.{ℕ, ℤ, List, Option, None, Some, if◌then◌else◌}
use Rattle.std.specs.Ordering.{int_eq}
use Rattle.sha2.specs.Sha256.{sha256}
use Rattle.sha2.specs.Sha512.{sha384}
use Rattle.hash_hmac.specs.Kind.{sha256_kind, sha384_kind}

-- none where the kind is that of no hash
unfoldable pub hashed : ℤ → List ℕ → Option (List ℕ)
hashed kind text =
    if int_eq kind sha256_kind then Some (sha256 text)
    else if int_eq kind sha384_kind then Some (sha384 text)
    else None

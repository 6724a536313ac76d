-- The key of a session, in the form of the key derivation function of FIDO Device Onboard 1.1, section 3.6.4; the label
-- is ours.
use Rattle.std.specs.Prelude.{ℕ, ◌/◌, List, [], ◌∷◌, ◌++◌, take, codes}
use Rattle.std.specs.Int.{w16, to_be_bytes}
use Rattle.hash_hmac.specs.Bytes.{padded}
use Rattle.hash_hmac.specs.Hmac.{hmac_sha256}

-- what is hashed: the counter 1, the label, 0, the context, and the length of the key in bits
abbrev pub derivation_text : ℕ → List ℕ
derivation_text bits =
    1 ∷ [] ++ codes "FDO-KDF" ++ 0 ∷ [] ++ codes "AutomaticOnboardTunnel" ++ to_be_bytes w16 bits

-- the first bytes of one HMAC-SHA-256 keyed with the shared secret, and zeros up to 32 bytes
unfoldable pub derived_key : List ℕ → ℕ → List ℕ
derived_key shared bits = padded 32 (take (bits / 8) (hmac_sha256 shared (derivation_text bits)))

-- What ends make: hashes, HMACs and credentials by the strength of a key, envelopes, and the seconds of a draw.
use Rattle.std.specs.Prelude.{ℕ, ◌==◌, ℤ, List, if◌then◌else◌}
use Rattle.sha2.specs.Sha256.{sha256}
use Rattle.sha2.specs.Sha512.{sha384}
use Rattle.cbor_core.specs.declared.item.Item.{Item}
use Rattle.cbor_core.specs.Deterministic.{det}
use Rattle.cose_envelopes.specs.declared.sign1.Sign1.{Sign1}
use Rattle.cose_envelopes.specs.Envelope.{protected_of, item_of_sign1}
use Rattle.cose_envelopes.specs.Text.{sign1_structure}
use Rattle.hash_hmac.specs.declared.hash.Hash.{Hash}
use Rattle.hash_hmac.specs.Hmac.{hmac_sha256, hmac_sha384}
use Rattle.hash_hmac.specs.Kind.{sha256_kind, hmac_sha256_kind, hmac_sha384_kind}
use Rattle.hash_hmac.specs.Value.{hash_value}
use Rattle.voucher_chain.specs.declared.credential.Credential.{Credential}
use Rattle.voucher_chain.specs.declared.header.Header.{Header}
use Rattle.voucher_chain.specs.Extended.{strength_of, hash_kind}
use Rattle.voucher_chain.specs.RvInfo.{item_of_rv}

-- a hash of a strength: SHA-256 or SHA-384
unfoldable pub hash_by : ℕ → List ℕ → Hash
hash_by bits text = hash_value (hash_kind bits) (if bits == 384 then sha384 text else sha256 text)

abbrev pub mac_kind : ℕ → ℤ
mac_kind bits = if bits == 384 then hmac_sha384_kind else hmac_sha256_kind

-- its number in a credential
abbrev pub mac_number : ℕ → ℕ
mac_number bits = if bits == 384 then 6 else 5

unfoldable pub mac_by : ℕ → List ℕ → List ℕ → Hash
mac_by bits secret text = hash_value (mac_kind bits) (if bits == 384 then hmac_sha384 secret text else hmac_sha256 secret text)

-- the hash of a message or of to0d, always SHA-256
unfoldable pub message_hash : List ℕ → Hash
message_hash text = hash_value sha256_kind (sha256 text)

-- the credential of a header, under a secret: the hash is over these bytes of the header's key
unfoldable pub credential_of : Header → List ℕ → List ℕ → Credential
credential_of header key secret =
    record { guid = header.guid; rv = det (item_of_rv header.rv); info = header.info; secret = secret; key_hash = hash_by (strength_of header.key) key; alg = mac_number (strength_of header.key) }

-- the HMAC of a header under a secret
abbrev pub hmac_of : Header → List ℕ → Hash
hmac_of header secret = mac_by (strength_of header.key) secret header.raw

-- an envelope with these unprotected labels, signed with an algorithm
abbrev pub envelope : ℤ → List (Item × Item) → List ℕ → List ℕ → Sign1
envelope alg unprotected payload sig = record { protected = protected_of alg; alg = alg; unprotected = unprotected; payload = payload; sig = sig }

-- what is signed for it
abbrev pub text_to_sign : ℤ → List ℕ → List ℕ
text_to_sign alg payload = sign1_structure (protected_of alg) payload

abbrev pub signed_bytes : Sign1 → List ℕ
signed_bytes sign = det (item_of_sign1 sign)

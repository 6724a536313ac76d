-- Hashes and HMACs of a strength.
use Rattle.std.proofs.Common.{◌≡◌, ℕ, ℤ, ◌==◌, if◌then◌else◌, Bool, true, false, List, [], ◌++◌, Option, Some, None, refl, sym, ap, subst, ◌∙◌}
use Rattle.std.specs.Option.{option_map}
use Rattle.std.proofs.lemmas.List.{append-nil}
use Rattle.sha2.specs.Sha256.{sha256}
use Rattle.sha2.specs.Sha512.{sha384}
use Rattle.hash_hmac.specs.declared.hash.Hash.{Hash}
use Rattle.hash_hmac.specs.Hashing.{hashed}
use Rattle.hash_hmac.specs.Hmac.{hmac_sha256, hmac_sha384, maced}
use Rattle.hash_hmac.specs.Kind.{sha256_kind, sha384_kind, hmac_sha256_kind, hmac_sha384_kind}
use Rattle.hash_hmac.specs.Value.{hash_value}
use Rattle.fdo_rules.specs.Made.{mac_by, mac_kind}

some_is : (a b : Hash) → Some a ≡ Some b → a ≡ b
some_is a b e = ap (or_else a) e where
  or_else : Hash → Option Hash → Hash
  or_else a None = a
  or_else a (Some b) = b

hashed_by : (b : Bool) (text : List ℕ) → hashed (if b then sha384_kind else sha256_kind) text ≡ Some (if b then sha384 text else sha256 text)
unfolding hashed
hashed_by true text = refl
hashed_by false text = refl

maced_by : (b : Bool) (secret text : List ℕ) → maced (if b then hmac_sha384_kind else hmac_sha256_kind) secret text ≡ Some (if b then hmac_sha384 secret text else hmac_sha256 secret text)
unfolding maced
maced_by true secret text = refl
maced_by false secret text = refl

pub sha256_is : (text : List ℕ) (hash : Hash) → Some hash ≡ option_map (hash_value sha256_kind) (hashed sha256_kind (text ++ [])) → hash ≡ hash_value sha256_kind (sha256 text)
sha256_is text hash made =
    some_is hash (hash_value sha256_kind (sha256 text))
    (made ∙ ap (λ (t : List ℕ). option_map (hash_value sha256_kind) (hashed sha256_kind t)) (append-nil text) ∙ ap (option_map (hash_value sha256_kind)) (hashed_by false text))

pub sha384_is : (text : List ℕ) (hash : Hash) → Some hash ≡ option_map (hash_value sha384_kind) (hashed sha384_kind (text ++ [])) → hash ≡ hash_value sha384_kind (sha384 text)
sha384_is text hash made =
    some_is hash (hash_value sha384_kind (sha384 text))
    (made ∙ ap (λ (t : List ℕ). option_map (hash_value sha384_kind) (hashed sha384_kind t)) (append-nil text) ∙ ap (option_map (hash_value sha384_kind)) (hashed_by true text))

pub mac_is : (bits : ℕ) (kind : ℤ) (secret text : List ℕ) (hmac : Hash) → kind ≡ mac_kind bits → Some hmac ≡ option_map (hash_value kind) (maced kind secret text) → hmac ≡ mac_by bits secret text
unfolding mac_by
mac_is bits kind secret text hmac is made =
    some_is hmac (mac_by bits secret text)
    (made ∙ ap (λ (k : ℤ). option_map (hash_value k) (maced k secret text)) is ∙ ap (option_map (hash_value (mac_kind bits))) (maced_by (bits == 384) secret text))

-- Device credentials (FIDO Device Onboard 1.1, section 3.4.1) and the vouchers that they match.
use Rattle.std.specs.Prelude.{◌≡◌, ℕ, pos, List, Some, option_map}
use Rattle.hash_hmac.specs.declared.hash.Hash.{Hash}
use Rattle.hash_hmac.specs.Hashing.{hashed}
use Rattle.hash_hmac.specs.Hmac.{maced}
use Rattle.hash_hmac.specs.Value.{hash_value}
use Rattle.voucher_chain.specs.declared.credential.Credential.{Credential}
use Rattle.voucher_chain.specs.declared.voucher.Voucher.{Voucher}

-- a hash value is the hash of a text, by its own kind
abbrev pub IsHashOf : Hash → List ℕ → Type 0
IsHashOf hash text = option_map (hash_value hash.kind) (hashed hash.kind text) ≡ Some hash

abbrev pub IsMacOf : Hash → List ℕ → List ℕ → Type 0
IsMacOf hmac secret text = option_map (hash_value hmac.kind) (maced hmac.kind secret text) ≡ Some hmac

-- equal GUIDs, the credential's kind of HMAC, the key hash of the header's key and the HMAC of the header, both over
-- bytes as they were received
pub record IsMatch (c : Credential) (v : Voucher) : Type 0 where
  pub guid : c.guid ≡ v.header.guid
  pub alg : v.hmac.kind ≡ pos c.alg
  pub key : IsHashOf c.key_hash v.header.key_raw
  pub hmac : IsMacOf v.hmac c.secret v.header.raw

-- What a hash value holds.
use Rattle.std.specs.Prelude.{◌≡◌, ℕ, ℤ, ◌-◌, List, Some, length, take, drop, replicate}
use Rattle.hash_hmac.specs.Bytes.{padded}
use Rattle.hash_hmac.specs.Kind.{length_of}
use Rattle.hash_hmac.specs.declared.hash.Hash.{Hash}

-- the bytes of a hash value
abbrev pub content : Hash → List ℕ
content hash = take hash.len hash.bytes

-- its kind is known, its length is the kind's, and the bytes past it are zero
pub record IsConsistent (hash : Hash) : Type 0 where
  pub len : length_of hash.kind ≡ Some hash.len
  pub zeros : drop hash.len hash.bytes ≡ replicate (48 - hash.len) 0

-- the hash value of a kind with these bytes
abbrev pub hash_value : ℤ → List ℕ → Hash
hash_value kind bytes = record { kind = kind; len = length bytes; bytes = padded 48 bytes }

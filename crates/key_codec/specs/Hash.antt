-- Hashes and HMACs (FIDO Device Onboard 1.1, "Hash / HMac"): an array of a kind and bytes.
use Rattle.std.specs.Prelude.{ℕ, ℤ, List, [], ◌∷◌, length, ◌==◌, Option, Some, None, Result, Ok, Err, if◌then◌else◌}
use Rattle.cbor_core.specs.declared.item.Item.{Item}
use Rattle.cbor_core.specs.declared.item.Item.TheVariants as items
use Rattle.hash_hmac.specs.declared.hash.Hash.{Hash}
use Rattle.hash_hmac.specs.Kind.{length_of}
use Rattle.hash_hmac.specs.Value.{content, hash_value}
use Rattle.key_codec.specs.declared.fault.KeyFault.{KeyFault}
use Rattle.key_codec.specs.declared.fault.KeyFault.TheVariants as fault
use Rattle.key_codec.specs.Fault.{◌>>=◌}
use Rattle.cbor_core.specs.Numbers.{item_of_integer}
use Rattle.key_codec.specs.Parts.{two_in, bytes_in, number_in}

-- bytes of a kind, whose length is known or not
abbrev pub hash_if_known : ℤ → Option ℕ → List ℕ → Result Hash KeyFault
hash_if_known kind None bytes = Err (fault.BadType kind)
hash_if_known kind (Some len) bytes = if length bytes == len then Ok (hash_value kind bytes) else Err (fault.BadLength (length bytes))

-- the hash of a kind with these bytes, whose number is the kind's
unfoldable pub hash_by_kind : ℤ → List ℕ → Result Hash KeyFault
hash_by_kind kind bytes = hash_if_known kind (length_of kind) bytes

-- the hash that an item says, or the first of its faults
unfoldable pub hash_in : Item → Result Hash KeyFault
hash_in item = two_in item >>= λ parts. number_in parts.0 >>= λ kind. bytes_in parts.1 >>= λ bytes. hash_by_kind kind bytes

-- the one item that a hash is written as
abbrev pub item_of_hash : Hash → Item
item_of_hash hash = items.Array (item_of_integer hash.kind ∷ items.Bytes (content hash) ∷ [])

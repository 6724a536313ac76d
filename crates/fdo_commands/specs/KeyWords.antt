-- The words of a command that say bytes and keys.
use Rattle.std.specs.Prelude.{ℕ, List, [], ◌∷◌, Option, Some, None, Result, Ok, Err}
use Rattle.cbor_core.specs.Whole.{whole}
use Rattle.cbor_core.specs.declared.item.Item.{Item}
use Rattle.hex.specs.Hex.{decode_of}
use Rattle.hex.specs.declared.error.FromHexError.{FromHexError}
use Rattle.key_codec.specs.declared.key.PublicKey.{PublicKey}
use Rattle.key_codec.specs.Fault.{ok_of}
use Rattle.key_codec.specs.Key.{key_in}

abbrev pub decoded : Result (List ℕ) FromHexError → Option (List ℕ)
decoded (Ok []) = None
decoded (Ok (byte ∷ bytes)) = Some (byte ∷ bytes)
decoded (Err error) = None

-- the bytes, one at least, that a word says in hex, with digits of either case
abbrev pub bytes_said : List ℕ → Option (List ℕ)
bytes_said word = decoded (decode_of word)

abbrev pub key_of_item : Option Item → Option PublicKey
key_of_item (Some item) = ok_of (key_in item)
key_of_item None = None

abbrev pub key_of_bytes : Option (List ℕ) → Option PublicKey
key_of_bytes (Some bytes) = key_of_item (whole bytes)
key_of_bytes None = None

-- the key that a word says: the hex of the bytes of one item, to their end
abbrev pub key_said : List ℕ → Option PublicKey
key_said word = key_of_bytes (bytes_said word)

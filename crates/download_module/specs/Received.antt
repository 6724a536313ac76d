-- What the pairs of the module say. They come in this order: that it is active, the file's name, its length, its
-- SHA-384 hash, and its bytes in any number of pieces.
use Rattle.std.specs.Prelude.{◌≡◌, ◌≤◌, true, ℕ, ◌+◌, ◌-◌, ◌^◌, List, [], ◌∷◌, ◌++◌, length, min, filter, nat_lt, codes, Bool, ◌==◌, if◌then◌else◌, Option, Some, None, option_and_then, Result, Ok, Err, ok_or}
use Rattle.std.specs.Cmp.Lexicographic.{pointwise}
use Rattle.std.specs.List.{flat_map, starts_with}
use Rattle.sha2.specs.Sha512.{sha384}
use Rattle.cbor_core.specs.declared.item.Item.{Item, out-Item}
use Rattle.cbor_core.specs.Shapes.{of_length}
use Rattle.cbor_core.specs.Spots.{bytes_in}
use Rattle.cbor_core.specs.Whole.{whole}
use Rattle.service_info.specs.declared.pair.Pair.{Pair}
use Rattle.service_info.specs.Devmod.{has_key, text_of, true_of, unsigned_of}
use Rattle.service_info.specs.Key.{is_module_byte, is_name}
use Rattle.download_module.specs.declared.down_fault.DownFault.{DownFault}
use Rattle.download_module.specs.declared.down_fault.DownFault.TheVariants as fault
use Rattle.download_module.specs.declared.file.File.{File}

-- then, where nothing is at fault
infixl 10 ◌>>=◌
abbrev pub ◌>>=◌ : {A B : Type 0} → Result A DownFault → (A → Result B DownFault) → Result B DownFault
(Ok x) >>= f = f x
(Err e) >>= f = Err e

-- ---- the module's pairs

abbrev pub is_of_module : Pair → Bool
is_of_module pair = starts_with ◌==◌ pair.key (codes "fdo.download:")

abbrev pub of_module : List Pair → List Pair
of_module pairs = filter is_of_module pairs

abbrev pub active_key : List ℕ
active_key = codes "fdo.download:active"

abbrev pub name_key : List ℕ
name_key = codes "fdo.download:name"

abbrev pub length_key : List ℕ
length_key = codes "fdo.download:length"

abbrev pub hash_key : List ℕ
hash_key = codes "fdo.download:sha-384"

abbrev pub data_key : List ℕ
data_key = codes "fdo.download:data"

-- what the pair of a place says, which is to have a key and a value of a form
unfoldable pub said_at : {A : Type 0} → ℕ → List ℕ → (Item → Option A) → Pair → Result A DownFault
said_at place key said pair =
    if has_key key pair then ok_or (option_and_then said (whole pair.value)) (fault.BadValue place)
    else Err (fault.Order place)

-- ---- the forms of values

-- the name of a file, of the bytes that a module's name has
abbrev pub named : List ℕ → Option (List ℕ)
named name = if is_name is_module_byte name then Some name else None

abbrev pub name_of : Item → Option (List ℕ)
name_of item = option_and_then named (text_of item)

abbrev pub bytes_of : Item → Option (List ℕ)
bytes_of item = bytes_in (out-Item item)

abbrev pub hash_of : Item → Option (List ℕ)
hash_of item = option_and_then (of_length 48) (bytes_of item)

-- ---- what is received, from each place on, by a device that takes files of at most `limit` bytes

-- a count stands still at its end
abbrev pub next_place : ℕ → ℕ
next_place place = min (place + 1) (2 ^ 64 - 1)

-- all pieces came
abbrev pub file_of : List ℕ → ℕ → List ℕ → List ℕ → Result (Option File) DownFault
file_of name size hash bytes =
    if nat_lt (length bytes) size then Err (fault.Cut size (length bytes))
    else if pointwise ◌==◌ hash (sha384 bytes) then Ok (Some (record { name = name; bytes = bytes }))
    else Err (fault.HashDiffers hash (sha384 bytes))

-- one piece more
abbrev pub with_piece : ℕ → List ℕ → List ℕ → Result (List ℕ) DownFault
with_piece size bytes piece =
    if nat_lt size (length bytes + length piece) then Err (fault.TooLong (length bytes + length piece)) else Ok (bytes ++ piece)

abbrev pub pieces_received : List ℕ → ℕ → List ℕ → ℕ → List ℕ → List Pair → Result (Option File) DownFault
pieces_received name size hash place bytes [] = file_of name size hash bytes
pieces_received name size hash place bytes (pair ∷ pairs) =
    said_at place data_key bytes_of pair
    >>= λ piece. with_piece size bytes piece
    >>= λ more. pieces_received name size hash (next_place place) more pairs

abbrev pub hash_received : List ℕ → ℕ → List Pair → Result (Option File) DownFault
hash_received name size [] = Err (fault.Order 3)
hash_received name size (pair ∷ pairs) = said_at 3 hash_key hash_of pair >>= λ hash. pieces_received name size hash 4 [] pairs

abbrev pub within : ℕ → ℕ → Result ℕ DownFault
within limit size = if nat_lt limit size then Err (fault.TooLarge size) else Ok size

abbrev pub size_said : ℕ → Pair → Result ℕ DownFault
size_said limit pair = said_at 2 length_key unsigned_of pair >>= λ size. within limit size

abbrev pub size_received : ℕ → List ℕ → List Pair → Result (Option File) DownFault
size_received limit name [] = Err (fault.Order 2)
size_received limit name (pair ∷ pairs) = size_said limit pair >>= λ size. hash_received name size pairs

abbrev pub name_received : ℕ → List Pair → Result (Option File) DownFault
name_received limit [] = Err (fault.Order 1)
name_received limit (pair ∷ pairs) = said_at 1 name_key name_of pair >>= λ name. size_received limit name pairs

-- nothing is received where no pair came
abbrev pub received : ℕ → List Pair → Result (Option File) DownFault
received limit [] = Ok None
received limit (pair ∷ pairs) = said_at 0 active_key true_of pair >>= λ active. name_received limit pairs

-- ---- a whole transfer

-- a pair has a key and says a value
abbrev pub Says : {A : Type 0} → List ℕ → (Item → Option A) → Pair → A → Type 0
Says key said pair value = (has_key key pair ≡ true) × (option_and_then said (whole pair.value) ≡ Some value)

abbrev pub AreData : List Pair → List (List ℕ) → Type 0
AreData [] pieces = pieces ≡ []
AreData (pair ∷ pairs) [] = ⊥
AreData (pair ∷ pairs) (piece ∷ pieces) = Says data_key bytes_of pair piece × AreData pairs pieces

-- the module's pairs are those of a transfer of this file, of at most `limit` bytes: each is of its form, the pieces are
-- its bytes, and their number and their hash are those announced
pub record IsTransfer (limit : ℕ) (pairs : List Pair) (file : File) : Type 0 where
  pub active : Pair
  pub name : Pair
  pub size : Pair
  pub hash : Pair
  pub data_pairs : List Pair
  pub pieces : List (List ℕ)
  pub order : pairs ≡ active ∷ name ∷ size ∷ hash ∷ data_pairs
  pub is_active : Says active_key true_of active tt
  pub says_name : Says name_key name_of name file.name
  pub says_size : Says length_key unsigned_of size (length file.bytes)
  pub says_hash : Says hash_key hash_of hash (sha384 file.bytes)
  pub says_pieces : AreData data_pairs pieces
  pub whole_bytes : flat_map (λ piece. piece) pieces ≡ file.bytes
  pub within_limit : length file.bytes ≤ limit

-- The parts of arrays and maps, and byte strings (RFC 8949, section 3.1).
use Rattle.std.specs.Prelude.{ℕ, ℤ, List, [], ◌∷◌, Result, Ok, option_and_then}
use Rattle.cbor_core.specs.declared.item.Item.{Item, out-Item}
use Rattle.cbor_core.specs.Shapes.{array_layer, two_of, three_of, labelled}
use Rattle.cbor_core.specs.Spots.{bytes_in as bytes_layer}
use Rattle.key_codec.specs.declared.fault.KeyFault.{KeyFault}
use Rattle.key_codec.specs.Fault.{◌>>=◌, shaped}
use Rattle.cbor_core.specs.Numbers.{integer_in}

-- the items of an array of two, and of one of three
abbrev pub two_in : Item → Result (Item × Item) KeyFault
two_in item = shaped (option_and_then two_of (array_layer (out-Item item)))

abbrev pub three_in : Item → Result (Item × Item × Item) KeyFault
three_in item = shaped (option_and_then three_of (array_layer (out-Item item)))

-- the bytes of a byte string
abbrev pub bytes_in : Item → Result (List ℕ) KeyFault
bytes_in item = shaped (bytes_layer (out-Item item))

-- a number of 64 bits with a sign, and nothing else
abbrev pub number_in : Item → Result ℤ KeyFault
number_in item = shaped (integer_in item)

-- the bytes of each, where all are byte strings
abbrev pub all_bytes : List Item → Result (List (List ℕ)) KeyFault
all_bytes [] = Ok []
all_bytes (x ∷ xs) = bytes_in x >>= λ b. all_bytes xs >>= λ bs. Ok (b ∷ bs)

-- ---- the values of labels

abbrev pub number_at : ℤ → List (Item × Item) → Result ℤ KeyFault
number_at label ps = shaped (labelled label ps) >>= λ value. number_in value

abbrev pub bytes_at : ℤ → List (Item × Item) → Result (List ℕ) KeyFault
bytes_at label ps = shaped (labelled label ps) >>= λ value. bytes_in value

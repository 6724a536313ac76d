-- Parts of a known form: null, arrays of a known length, strings of a known length, and the labels of maps.
use Rattle.std.specs.Prelude.{ℕ, ℤ, List, [], ◌∷◌, length, ◌==◌, Bool, true, false, if◌then◌else◌, Option, Some, None, option_and_then, is_some}
use Rattle.std.specs.Ordering.{int_eq}
use Rattle.cbor_core.specs.declared.item.Item.{Item, out-Item}
use Rattle.cbor_core.specs.declared.item.Item.TheOpen.{Item-F}
use Rattle.cbor_core.specs.declared.item.Item.TheVariants as items
use Rattle.cbor_core.specs.Numbers.{integer_in}
use Rattle.cbor_core.specs.Spots.{Spot, spot_item, spot_parts, bytes_in, text_in}

-- null (RFC 8949, section 3.3)
abbrev pub null : Item
null = items.Simple 22

abbrev pub is_null : Item-F Item → Bool
is_null (Item-F.Simple n) = n == 22
is_null _ = false

-- a byte string, and a text (RFC 8949, section 3.1)
abbrev pub is_bytes : Item-F Item → Bool
is_bytes f = is_some (bytes_in f)

abbrev pub is_text : Item-F Item → Bool
is_text f = is_some (text_in f)

-- bytes of a known length
abbrev pub of_length : ℕ → List ℕ → Option (List ℕ)
of_length n bytes = if length bytes == n then Some bytes else None

-- ---- arrays

abbrev pub is_array : Item-F Item → Bool
is_array (Item-F.Array xs) = true
is_array _ = false

abbrev pub array_layer : Item-F Item → Option (List Item)
array_layer (Item-F.Array xs) = Some xs
array_layer _ = None

abbrev pub two_of : {A : Type 0} → List A → Option (A × A)
two_of (a ∷ b ∷ []) = Some (a, b)
two_of _ = None

abbrev pub three_of : {A : Type 0} → List A → Option (A × A × A)
three_of (a ∷ b ∷ c ∷ []) = Some (a, b, c)
three_of _ = None

abbrev pub four_of : {A : Type 0} → List A → Option (A × A × A × A)
four_of (a ∷ b ∷ c ∷ d ∷ []) = Some (a, b, c, d)
four_of _ = None

abbrev pub five_of : {A : Type 0} → List A → Option (A × A × A × A × A)
five_of (a ∷ b ∷ c ∷ d ∷ e ∷ []) = Some (a, b, c, d, e)
five_of _ = None

abbrev pub six_of : {A : Type 0} → List A → Option (A × A × A × A × A × A)
six_of (a ∷ b ∷ c ∷ d ∷ e ∷ f ∷ []) = Some (a, b, c, d, e, f)
six_of _ = None

-- the items of an array of so many
abbrev pub two_items : Item → Option (Item × Item)
two_items x = option_and_then two_of (array_layer (out-Item x))

abbrev pub three_items : Item → Option (Item × Item × Item)
three_items x = option_and_then three_of (array_layer (out-Item x))

abbrev pub four_items : Item → Option (Item × Item × Item × Item)
four_items x = option_and_then four_of (array_layer (out-Item x))

abbrev pub five_items : Item → Option (Item × Item × Item × Item × Item)
five_items x = option_and_then five_of (array_layer (out-Item x))

abbrev pub six_items : Item → Option (Item × Item × Item × Item × Item × Item)
six_items x = option_and_then six_of (array_layer (out-Item x))

-- their places
abbrev pub two_spots : Spot → Option (Spot × Spot)
two_spots s = if is_array (out-Item (spot_item s)) then two_of (spot_parts s) else None

abbrev pub three_spots : Spot → Option (Spot × Spot × Spot)
three_spots s = if is_array (out-Item (spot_item s)) then three_of (spot_parts s) else None

abbrev pub four_spots : Spot → Option (Spot × Spot × Spot × Spot)
four_spots s = if is_array (out-Item (spot_item s)) then four_of (spot_parts s) else None

abbrev pub five_spots : Spot → Option (Spot × Spot × Spot × Spot × Spot)
five_spots s = if is_array (out-Item (spot_item s)) then five_of (spot_parts s) else None

abbrev pub six_spots : Spot → Option (Spot × Spot × Spot × Spot × Spot × Spot)
six_spots s = if is_array (out-Item (spot_item s)) then six_of (spot_parts s) else None

-- ---- labels (RFC 9052, section 1.5)

abbrev pub is_map : Item-F Item → Bool
is_map (Item-F.Map ps) = true
is_map _ = false

abbrev pub pairs_layer : Item-F Item → Option (List (Item × Item))
pairs_layer (Item-F.Map ps) = Some ps
pairs_layer _ = None

abbrev pub is_number : ℤ → Option ℤ → Bool
is_number label (Some n) = int_eq n label
is_number label None = false

-- the value beside the first key that is the label; in a map that was read from bytes, no two keys are equal
abbrev pub labelled : ℤ → List (Item × Item) → Option Item
labelled label [] = None
labelled label (p ∷ ps) = if is_number label (integer_in p.0) then Some p.1 else labelled label ps

-- the value with a label in a map
abbrev pub labelled_in : ℤ → Item → Option Item
labelled_in label x = option_and_then (labelled label) (pairs_layer (out-Item x))

-- its place, among those of keys and values in turn
abbrev pub labelled_spot : ℤ → List Spot → Option Spot
labelled_spot label (k ∷ v ∷ ss) = if is_number label (integer_in (spot_item k)) then Some v else labelled_spot label ss
labelled_spot label _ = None

abbrev pub labelled_at : ℤ → Spot → Option Spot
labelled_at label s = if is_map (out-Item (spot_item s)) then labelled_spot label (spot_parts s) else None

-- ---- tags (RFC 8949, section 3.4)

-- what a tag of this number holds
abbrev pub tagged_layer : ℕ → Item-F Item → Option Item
tagged_layer number (Item-F.Tag t content) = if t == number then Some content else None
tagged_layer number _ = None

abbrev pub tagged_in : ℕ → Item → Option Item
tagged_in number x = tagged_layer number (out-Item x)

abbrev pub is_tag : ℕ → Item-F Item → Bool
is_tag number (Item-F.Tag t content) = t == number
is_tag number _ = false

-- its place
abbrev pub head_of : List Spot → Option Spot
head_of [] = None
head_of (s ∷ ss) = Some s

abbrev pub tagged_at : ℕ → Spot → Option Spot
tagged_at number s = if is_tag number (out-Item (spot_item s)) then head_of (spot_parts s) else None

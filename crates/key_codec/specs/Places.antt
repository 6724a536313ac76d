-- Where the first part stands that is not of its form: the offset of its head, in an item that is no key, no hash or
-- no signature information.
use Rattle.std.specs.Prelude.{ℕ, ℤ, pos, negsuc, List, [], ◌∷◌, Bool, true, false, ◌||◌, ◌&&◌, Option, Some, None, is_some, if◌then◌else◌}
use Rattle.std.specs.Ordering.{int_eq}
use Rattle.cbor_core.specs.declared.item.Item.{out-Item}
use Rattle.cbor_core.specs.Spots.{Spot, spot_item, spot_parts}
use Rattle.hash_hmac.specs.Kind.{length_of}
use Rattle.key_codec.specs.declared.encoding.Form.{Form}
use Rattle.key_codec.specs.declared.encoding.Form.TheVariants as form
use Rattle.cbor_core.specs.Shapes.{is_array, is_bytes, labelled_at, two_spots, three_spots}
use Rattle.key_codec.specs.Key.{is_key_type, is_curve, form_of}
use Rattle.cbor_core.specs.Numbers.{integer_in}
use Rattle.cbor_core.specs.Shapes.{is_number}

-- ---- parts

abbrev pub is_integer : Spot → Bool
is_integer s = is_some (integer_in (spot_item s))

-- ---- signature information, hashes

abbrev pub sig_info_place_in : ℕ → Option (Spot × Spot) → ℕ
sig_info_place_in at None = at
sig_info_place_in at (Some p) = if is_integer p.0 then p.1.at else p.0.at

unfoldable pub sig_info_place : Spot → ℕ
sig_info_place s = sig_info_place_in s.at (two_spots s)

abbrev pub is_kind : Option ℤ → Bool
is_kind None = false
is_kind (Some kind) = is_some (length_of kind)

abbrev pub hash_place_in : ℕ → Option (Spot × Spot) → ℕ
hash_place_in at None = at
hash_place_in at (Some p) = if is_kind (integer_in (spot_item p.0)) then p.1.at else p.0.at

unfoldable pub hash_place : Spot → ℕ
hash_place s = hash_place_in s.at (two_spots s)

-- ---- bodies of keys

-- the first certificate that is no byte string, or the array
abbrev pub first_not_bytes : ℕ → List Spot → ℕ
first_not_bytes at [] = at
first_not_bytes at (s ∷ ss) = if is_bytes (out-Item (spot_item s)) then first_not_bytes at ss else s.at

unfoldable pub chain_place : Spot → ℕ
chain_place s = if is_array (out-Item (spot_item s)) then first_not_bytes s.at (spot_parts s) else s.at

-- a map that has the label
abbrev pub has_label : ℤ → Spot → Bool
has_label label s = is_some (labelled_at label s)

-- a map with all labels of a COSE key
abbrev pub is_whole : Spot → Bool
is_whole s = has_label (pos 1) s && has_label (negsuc 0) s && has_label (negsuc 1) s && has_label (negsuc 2) s

abbrev pub is_one_curve : Option ℤ → Bool
is_one_curve None = false
is_one_curve (Some n) = is_curve n

-- the value of a label of a COSE key is of its form; other labels are read over
abbrev pub fits_number : ℤ → Spot → Bool
fits_number label v =
    if int_eq label (pos 1) then is_number (pos 2) (integer_in (spot_item v))
    else if int_eq label (negsuc 0) then is_one_curve (integer_in (spot_item v))
    else if int_eq label (negsuc 1) || int_eq label (negsuc 2) then is_bytes (out-Item (spot_item v))
    else true

abbrev pub fits_label : Option ℤ → Spot → Bool
fits_label None v = true
fits_label (Some label) v = fits_number label v

abbrev pub first_unfit : ℕ → List Spot → ℕ
first_unfit at (k ∷ v ∷ ss) = if fits_label (integer_in (spot_item k)) v then first_unfit at ss else v.at
first_unfit at _ = at

-- a map that lacks a label is at fault itself
unfoldable pub cose_place : Spot → ℕ
cose_place s = if is_whole s then first_unfit s.at (spot_parts s) else s.at

abbrev pub form_place : Form → Spot → ℕ
form_place form.Bytes s = s.at
form_place form.Chain s = chain_place s
form_place form.Cose s = cose_place s

-- a body by the encoding that stands at an offset
abbrev pub body_place_in : ℕ → Option Form → Spot → ℕ
body_place_in at None s = at
body_place_in at (Some f) s = form_place f s

unfoldable pub body_place : ℕ → ℤ → Spot → ℕ
body_place at enc s = body_place_in at (form_of enc) s

-- ---- keys

abbrev pub is_type : Option ℤ → Bool
is_type None = false
is_type (Some kind) = is_key_type kind

abbrev pub encoded_place : Option ℤ → Spot → Spot → ℕ
encoded_place None e b = e.at
encoded_place (Some enc) e b = body_place e.at enc b

abbrev pub key_place_in : ℕ → Option (Spot × Spot × Spot) → ℕ
key_place_in at None = at
key_place_in at (Some p) = if is_type (integer_in (spot_item p.0)) then encoded_place (integer_in (spot_item p.1)) p.1 p.2 else p.0.at

unfoldable pub key_place : Spot → ℕ
key_place s = key_place_in s.at (three_spots s)

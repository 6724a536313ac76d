-- Public keys (FIDO Device Onboard 1.1, "Public Key"): an array of a type, an encoding and a body.
use Rattle.std.specs.Prelude.{◌≡◌, ◌≢◌, ◌⊎◌, ℕ, ℤ, pos, negsuc, List, [], ◌∷◌, map, Bool, true, ◌&&◌, ◌||◌, Option, Some, None, Result, Ok, Err, if◌then◌else◌}
use Rattle.std.specs.List.{list_any}
use Rattle.std.specs.Ordering.{int_eq}
use Rattle.cbor_core.specs.declared.item.Item.{Item, out-Item}
use Rattle.cbor_core.specs.declared.item.Item.TheOpen.{Item-F}
use Rattle.cbor_core.specs.declared.item.Item.TheVariants as items
use Rattle.key_codec.specs.declared.fault.KeyFault.{KeyFault}
use Rattle.key_codec.specs.declared.fault.KeyFault.TheVariants as fault
use Rattle.key_codec.specs.declared.encoding.Form.{Form}
use Rattle.key_codec.specs.declared.encoding.Form.TheVariants as form
use Rattle.key_codec.specs.declared.key.CoseKey.{CoseKey}
use Rattle.key_codec.specs.declared.key.KeyBody.{KeyBody}
use Rattle.key_codec.specs.declared.key.KeyBody.TheVariants as body
use Rattle.key_codec.specs.declared.key.PublicKey.{PublicKey}
use Rattle.key_codec.specs.Fault.{◌>>=◌, shaped}
use Rattle.cbor_core.specs.Numbers.{item_of_integer}
use Rattle.key_codec.specs.Parts.{three_in, bytes_in, number_in, all_bytes, number_at, bytes_at}
use Rattle.cbor_core.specs.Shapes.{labelled, pairs_layer}

-- ---- types

-- RSA2048RESTR, RSAPKCS, RSAPSS, SECP256R1, SECP384R1, and two of our own: laboratory keys and HSS-LMS (RFC 8554)
abbrev pub key_types : List ℤ
key_types = pos 1 ∷ pos 5 ∷ pos 6 ∷ pos 10 ∷ pos 11 ∷ pos 200 ∷ pos 201 ∷ []

abbrev pub is_key_type : ℤ → Bool
is_key_type kind = list_any (λ known. int_eq kind known) key_types

-- ---- bodies

-- what a body is made of, by the encoding: bytes (0 Crypto, 1 X509), a chain of certificates (2 X5CHAIN), or a COSE
-- key (3 COSEKEY)
abbrev pub form_of : ℤ → Option Form
form_of enc =
    if int_eq enc (pos 0) || int_eq enc (pos 1) then Some form.Bytes
    else if int_eq enc (pos 2) then Some form.Chain
    else if int_eq enc (pos 3) then Some form.Cose
    else None

-- at least one
abbrev pub chain_of : List (List ℕ) → Result (List (List ℕ)) KeyFault
chain_of [] = Err fault.BadShape
chain_of (b ∷ bs) = Ok (b ∷ bs)

-- the byte strings of an array, or one byte string in the place of an array of one
abbrev pub chain_layer : Item-F Item → Result (List (List ℕ)) KeyFault
chain_layer (Item-F.Bytes b) = Ok (b ∷ [])
chain_layer (Item-F.Array xs) = all_bytes xs >>= chain_of
chain_layer _ = Err fault.BadShape

abbrev pub chain_in : Item → Result (List (List ℕ)) KeyFault
chain_in item = chain_layer (out-Item item)

-- P-256 and P-384 (RFC 9053, section 7.1)
abbrev pub is_curve : ℤ → Bool
is_curve curve = int_eq curve (pos 1) || int_eq curve (pos 2)

-- a key on a curve (RFC 9052, section 7; RFC 9053, section 7.1.1): label 1 is the key type, EC2 (2), -1 the curve, -2
-- and -3 the coordinates x and y
abbrev pub cose_of : List (Item × Item) → Result CoseKey KeyFault
cose_of ps =
    number_at (pos 1) ps >>= λ family. number_at (negsuc 0) ps >>= λ curve. bytes_at (negsuc 1) ps >>= λ x. bytes_at (negsuc 2) ps >>= λ y.
    if int_eq family (pos 2) && is_curve curve then Ok (record { curve = curve; x = x; y = y }) else Err fault.BadShape

abbrev pub cose_in : Item → Result CoseKey KeyFault
cose_in item = shaped (pairs_layer (out-Item item)) >>= cose_of

-- the body of a form
abbrev pub body_of_form : Form → Item → Result KeyBody KeyFault
body_of_form form.Bytes item = bytes_in item >>= λ b. Ok (body.Bytes b)
body_of_form form.Chain item = chain_in item >>= λ bs. Ok (body.Chain bs)
body_of_form form.Cose item = cose_in item >>= λ c. Ok (body.Cose c)

-- the body by an encoding, whose form is known or not
abbrev pub body_if_known : ℤ → Option Form → Item → Result KeyBody KeyFault
body_if_known enc None item = Err (fault.BadEncoding enc)
body_if_known enc (Some f) item = body_of_form f item

unfoldable pub body_in : ℤ → Item → Result KeyBody KeyFault
body_in enc item = body_if_known enc (form_of enc) item

-- ---- keys

-- a key of a type with a body by its encoding: the type comes before the encoding, and both before the body
abbrev pub key_of : ℤ → ℤ → Item → Result PublicKey KeyFault
key_of kind enc item =
    if is_key_type kind then (body_in enc item >>= λ b. Ok (record { kind = kind; enc = enc; body = b }))
    else Err (fault.BadType kind)

-- the key that an item says, or the first of its faults
unfoldable pub key_in : Item → Result PublicKey KeyFault
key_in item = three_in item >>= λ parts. number_in parts.0 >>= λ kind. number_in parts.1 >>= λ enc. key_of kind enc parts.2

-- ---- items

abbrev pub item_of_cose : CoseKey → Item
item_of_cose c = items.Map (
    (items.Uint 1, items.Uint 2)
    ∷ (items.Nint 0, item_of_integer c.curve)
    ∷ (items.Nint 1, items.Bytes c.x)
    ∷ (items.Nint 2, items.Bytes c.y)
    ∷ [])

-- a chain is written as an array, also a chain of one
abbrev pub item_of_body : KeyBody → Item
item_of_body (body.Bytes b) = items.Bytes b
item_of_body (body.Chain bs) = items.Array (map items.Bytes bs)
item_of_body (body.Cose c) = item_of_cose c

-- the one item that a key is written as
abbrev pub item_of_key : PublicKey → Item
item_of_key key = items.Array (item_of_integer key.kind ∷ item_of_integer key.enc ∷ item_of_body key.body ∷ [])

-- ---- keys of the form

-- what a body is made of, and what holds of it
abbrev pub form_of_body : KeyBody → Form
form_of_body (body.Bytes b) = form.Bytes
form_of_body (body.Chain bs) = form.Chain
form_of_body (body.Cose c) = form.Cose

abbrev pub IsBody : KeyBody → Type 0
IsBody (body.Bytes b) = Unit {0}
IsBody (body.Chain bs) = bs ≢ []
IsBody (body.Cose c) = is_curve c.curve ≡ true

-- the type and the encoding are known, and the body is of the encoding's form
pub record IsKey (key : PublicKey) : Type 0 where
  pub kind : is_key_type key.kind ≡ true
  pub enc : form_of key.enc ≡ Some (form_of_body key.body)
  pub body : IsBody key.body

-- ---- the items that a key can be read from

-- a map with the labels of a COSE key, and others
pub record IsCoseMap (c : CoseKey) (ps : List (Item × Item)) : Type 0 where
  pub family : labelled (pos 1) ps ≡ Some (items.Uint 2)
  pub curve : labelled (negsuc 0) ps ≡ Some (item_of_integer c.curve)
  pub x : labelled (negsuc 1) ps ≡ Some (items.Bytes c.x)
  pub y : labelled (negsuc 2) ps ≡ Some (items.Bytes c.y)

-- a chain of one also stands as a byte string, and a COSE key in any map with its labels
abbrev pub IsBodyItem : KeyBody → Item → Type 0
IsBodyItem (body.Bytes b) item = item ≡ items.Bytes b
IsBodyItem (body.Chain bs) item = (item ≡ items.Array (map items.Bytes bs)) ⊎ ((b : List ℕ) × ((bs ≡ b ∷ []) × (item ≡ items.Bytes b)))
IsBodyItem (body.Cose c) item = (ps : List (Item × Item)) × ((item ≡ items.Map ps) × IsCoseMap c ps)

-- an array of the type, the encoding and an item of the body, of a key that is of the form
pub record IsKeyItem (key : PublicKey) (item : Item) : Type 0 where
  pub form : IsKey key
  pub content : Item
  pub body : IsBodyItem key.body content
  pub array : item ≡ items.Array (item_of_integer key.kind ∷ item_of_integer key.enc ∷ content ∷ [])

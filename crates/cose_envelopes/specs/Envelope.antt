-- The envelopes of COSE: which parts a Sign1 (RFC 9052, section 4.2), an Encrypt0 (section 5.2) and a Mac0 (section 6.2)
-- have, and the one item that each is written as.
use Rattle.std.specs.Prelude.{◌≡◌, ℕ, ℤ, pos, List, [], ◌∷◌, map, Option, Some, None, option_map}
use Rattle.cbor_core.specs.declared.item.Item.{Item, out-Item}
use Rattle.cbor_core.specs.declared.item.Item.TheVariants as items
use Rattle.cbor_core.specs.Deterministic.{det}
use Rattle.cbor_core.specs.Norm.{norm, in_order, IsFit}
use Rattle.cbor_core.specs.Numbers.{integer_in, item_of_integer}
use Rattle.cbor_core.specs.Shapes.{of_length, three_items, four_items, pairs_layer, labelled_in, tagged_in}
use Rattle.cbor_core.specs.Spots.{bytes_in}
use Rattle.cbor_core.specs.Whole.{whole, Says}
use Rattle.cose_envelopes.specs.declared.encrypt0.Encrypt0.{Encrypt0}
use Rattle.cose_envelopes.specs.declared.mac0.Mac0.{Mac0}
use Rattle.cose_envelopes.specs.declared.sign1.Sign1.{Sign1}
use Rattle.cose_envelopes.specs.Fault.{◌>>=◌}

-- ---- parts

-- an envelope stands in its tag, or without it
abbrev pub item_or : Item → Option Item → Item
item_or x None = x
item_or x (Some content) = content

abbrev pub content_of : ℕ → Item → Item
content_of tag x = item_or x (tagged_in tag x)

abbrev pub bytes_of : Item → Option (List ℕ)
bytes_of x = bytes_in (out-Item x)

-- the algorithm that a protected header names (RFC 9052, section 3.1, label 1): the bytes spell, to their end, a map that
-- has it; other labels are read over
unfoldable pub algorithm_in : List ℕ → Option ℤ
algorithm_in protected = whole protected >>= λ header. labelled_in (pos 1) header >>= λ alg. integer_in alg

-- a byte string with the algorithm that it names
abbrev pub header_in : Item → Option (List ℕ × ℤ)
header_in x = bytes_of x >>= λ protected. option_map (λ alg. (protected, alg)) (algorithm_in protected)

-- the initialization vector in an unprotected header (label 5): 12 bytes
unfoldable pub iv_in : Item → Option (List ℕ)
iv_in header = labelled_in (pos 5) header >>= λ iv. bytes_of iv >>= λ bytes. of_length 12 bytes

-- ---- Sign1, tag 18

abbrev pub sign1_of : Item × Item × Item × Item → Option Sign1
sign1_of parts =
    bytes_of parts.0 >>= λ protected. algorithm_in protected >>= λ alg. pairs_layer (out-Item parts.1) >>= λ unprotected.
    bytes_of parts.2 >>= λ payload. bytes_of parts.3 >>= λ sig.
    Some (record { protected = protected; alg = alg; unprotected = unprotected; payload = payload; sig = sig })

abbrev pub sign1_content : Item → Option Sign1
sign1_content x = four_items x >>= sign1_of

-- the Sign1 that an item says
unfoldable pub sign1_in : Item → Option Sign1
sign1_in x = sign1_content (content_of 18 x)

-- the bytes spell it, to their end
abbrev pub IsSign1 : List ℕ → Sign1 → Type 0
IsSign1 bytes value = Says sign1_in bytes value

abbrev pub item_of_sign1 : Sign1 → Item
item_of_sign1 value = items.Tag 18 (items.Array (items.Bytes value.protected ∷ items.Map value.unprotected ∷ items.Bytes value.payload ∷ items.Bytes value.sig ∷ []))

-- it can be written, and its protected bytes name its algorithm
pub record IsWhole1 (value : Sign1) : Type 0 where
  pub fit : IsFit (item_of_sign1 value)
  pub names : algorithm_in value.protected ≡ Some value.alg

-- with the pairs of its unprotected header, and of the maps inside, in order
abbrev pub normed_pairs : List (Item × Item) → List (Item × Item)
normed_pairs ps = in_order (map (λ p. (norm p.0, norm p.1)) ps)

abbrev pub norm_sign1 : Sign1 → Sign1
norm_sign1 value = record value { unprotected = normed_pairs value.unprotected }

-- ---- Mac0, tag 17

abbrev pub mac0_of : Item × Item × Item × Item → Option Mac0
mac0_of parts =
    bytes_of parts.0 >>= λ protected. algorithm_in protected >>= λ alg. pairs_layer (out-Item parts.1) >>= λ unprotected.
    bytes_of parts.2 >>= λ payload. bytes_of parts.3 >>= λ tag.
    Some (record { protected = protected; alg = alg; payload = payload; tag = tag })

abbrev pub mac0_content : Item → Option Mac0
mac0_content x = four_items x >>= mac0_of

unfoldable pub mac0_in : Item → Option Mac0
mac0_in x = mac0_content (content_of 17 x)

abbrev pub IsMac0 : List ℕ → Mac0 → Type 0
IsMac0 bytes value = Says mac0_in bytes value

-- its unprotected header is written empty
abbrev pub item_of_mac0 : Mac0 → Item
item_of_mac0 value = items.Tag 17 (items.Array (items.Bytes value.protected ∷ items.Map [] ∷ items.Bytes value.payload ∷ items.Bytes value.tag ∷ []))

pub record IsWholeMac (value : Mac0) : Type 0 where
  pub fit : IsFit (item_of_mac0 value)
  pub names : algorithm_in value.protected ≡ Some value.alg

-- ---- Encrypt0, tag 16

abbrev pub encrypt0_of : Item × Item × Item → Option Encrypt0
encrypt0_of parts =
    bytes_of parts.0 >>= λ protected. algorithm_in protected >>= λ alg. iv_in parts.1 >>= λ iv. bytes_of parts.2 >>= λ sealed.
    Some (record { protected = protected; alg = alg; iv = iv; sealed = sealed })

abbrev pub encrypt0_content : Item → Option Encrypt0
encrypt0_content x = three_items x >>= encrypt0_of

unfoldable pub encrypt0_in : Item → Option Encrypt0
encrypt0_in x = encrypt0_content (content_of 16 x)

abbrev pub IsEncrypt0 : List ℕ → Encrypt0 → Type 0
IsEncrypt0 bytes value = Says encrypt0_in bytes value

-- its unprotected header has the initialization vector alone
abbrev pub item_of_encrypt0 : Encrypt0 → Item
item_of_encrypt0 value = items.Tag 16 (items.Array (items.Bytes value.protected ∷ items.Map ((items.Uint 5, items.Bytes value.iv) ∷ []) ∷ items.Bytes value.sealed ∷ []))

pub record IsWhole0 (value : Encrypt0) : Type 0 where
  pub fit : IsFit (item_of_encrypt0 value)
  pub names : algorithm_in value.protected ≡ Some value.alg

-- ---- what is made

-- the protected header that names an algorithm and nothing else
abbrev pub header_of : ℤ → Item
header_of alg = items.Map ((items.Uint 1, item_of_integer alg) ∷ [])

unfoldable pub protected_of : ℤ → List ℕ
protected_of alg = det (header_of alg)

-- The claims that a device makes of itself, and the labels of unprotected headers (FIDO Device Onboard 1.1, sections 3.3.6,
-- "EAT signatures", 5.5.3 and 5.5.6).
use Rattle.std.specs.Prelude.{ℕ, ℤ, pos, negsuc, List, [], ◌∷◌, ◌==◌, Option, Some, None, if◌then◌else◌}
use Rattle.cbor_core.specs.declared.item.Item.{Item, out-Item}
use Rattle.cbor_core.specs.declared.item.Item.TheVariants as items
use Rattle.cbor_core.specs.Deterministic.{det}
use Rattle.cbor_core.specs.Numbers.{item_of_integer}
use Rattle.cbor_core.specs.Shapes.{of_length, array_layer, labelled, labelled_in}
use Rattle.cbor_core.specs.Spots.{bytes_in}
use Rattle.cbor_core.specs.Whole.{whole}
use Rattle.key_codec.specs.declared.key.PublicKey.{PublicKey}
use Rattle.key_codec.specs.Fault.{ok_of}
use Rattle.key_codec.specs.Key.{key_in, item_of_key}
use Rattle.voucher_chain.specs.Fault.{◌>>=◌}
use Rattle.voucher_chain.specs.Header.{guid_in as sixteen_in}
use Rattle.fdo_msgs.specs.Value.{one_of}

-- ---- labels

-- EATNonce
abbrev pub nonce_label : ℤ
nonce_label = pos 10

-- EATUEID
abbrev pub ueid_label : ℤ
ueid_label = pos 256

-- EAT-FDO
abbrev pub fdo_label : ℤ
fdo_label = negsuc 256

-- CUPHNonce
abbrev pub prove_dv_label : ℤ
prove_dv_label = pos 256

-- CUPHOwnerPubKey
abbrev pub owner_key_label : ℤ
owner_key_label = pos 257

-- EUPHNonce
abbrev pub setup_dv_label : ℤ
setup_dv_label = negsuc 258

-- ---- values

-- a Guid behind the byte 1
abbrev pub guid_of : List ℕ → Option (List ℕ)
guid_of [] = None
guid_of (mark ∷ guid) = if mark == 1 then of_length 16 guid else None

abbrev pub ueid_in : Item → Option (List ℕ)
ueid_in x = bytes_in (out-Item x) >>= guid_of

-- an array of the device's half of the key exchange
abbrev pub xb_in : Item → Option (List ℕ)
xb_in x = array_layer (out-Item x) >>= one_of >>= λ a. bytes_in (out-Item a)

-- ---- the claims of TO1.ProveToRV, to the end of a payload: nonce and Guid

abbrev pub proof_of : Item → Option (List ℕ × List ℕ)
proof_of x = labelled_in nonce_label x >>= sixteen_in >>= λ nonce. labelled_in ueid_label x >>= ueid_in >>= λ guid. Some (nonce, guid)

unfoldable pub proof_in : List ℕ → Option (List ℕ × List ℕ)
proof_in payload = whole payload >>= proof_of

abbrev pub item_of_ueid : List ℕ → Item
item_of_ueid guid = items.Bytes (1 ∷ guid)

abbrev pub item_of_proof : List ℕ → List ℕ → Item
item_of_proof nonce guid = items.Map ((item_of_integer nonce_label, items.Bytes nonce) ∷ (item_of_integer ueid_label, item_of_ueid guid) ∷ [])

-- ---- the claims of TO2.ProveDevice: nonce, Guid and the device's half of the key exchange

abbrev pub device_proof_of : Item → Option (List ℕ × List ℕ × List ℕ)
device_proof_of x = proof_of x >>= λ proof. labelled_in fdo_label x >>= xb_in >>= λ xb. Some (proof.0, proof.1, xb)

unfoldable pub device_proof_in : List ℕ → Option (List ℕ × List ℕ × List ℕ)
device_proof_in payload = whole payload >>= device_proof_of

abbrev pub item_of_device_proof : List ℕ → List ℕ → List ℕ → Item
item_of_device_proof nonce guid xb =
    items.Map ((item_of_integer nonce_label, items.Bytes nonce) ∷ (item_of_integer ueid_label, item_of_ueid guid) ∷ (item_of_integer fdo_label, items.Array (items.Bytes xb ∷ [])) ∷ [])

-- ---- unprotected headers

-- that of TO2.ProveOVHdr: NonceTO2ProveDv and the owner's key
unfoldable pub owner_claims_in : List (Item × Item) → Option (List ℕ × PublicKey)
owner_claims_in pairs = labelled prove_dv_label pairs >>= sixteen_in >>= λ nonce. labelled owner_key_label pairs >>= λ x. ok_of (key_in x) >>= λ key. Some (nonce, key)

abbrev pub owner_claims : List ℕ → PublicKey → List (Item × Item)
owner_claims nonce key = (item_of_integer prove_dv_label, items.Bytes nonce) ∷ (item_of_integer owner_key_label, item_of_key key) ∷ []

-- that of TO2.ProveDevice: NonceTO2SetupDv
unfoldable pub device_claims_in : List (Item × Item) → Option (List ℕ)
device_claims_in pairs = labelled setup_dv_label pairs >>= sixteen_in

abbrev pub device_claims : List ℕ → List (Item × Item)
device_claims nonce = (item_of_integer setup_dv_label, items.Bytes nonce) ∷ []

-- The body of a record that holds a device's credential: an array in the core deterministic encoding (RFC 8949, section
-- 4.2.1). Version 2 has the number 2, the GUID, the bytes of the rendezvous information, DeviceInfo, the secret, the hash of the
-- header's key, and the kind of the HMAC. Version 1 has the number 1 and no kind, which is that of HMAC-SHA-256 (5), and at most
-- 8,000 bytes.
use Rattle.std.specs.Str.{is_utf8}
use Rattle.std.specs.Prelude.{◌≡◌, ℕ, ◌<◌, ◌^◌, ◌==◌, ◌||◌, nat_le, List, [], ◌∷◌, length, Bool, true, false, if◌then◌else◌, is_some, Option, Some, None, Result}
use Rattle.cbor_core.specs.declared.item.Item.{Item, out-Item}
use Rattle.cbor_core.specs.declared.item.Item.TheOpen.{Item-F}
use Rattle.cbor_core.specs.declared.item.Item.TheVariants as items
use Rattle.cbor_core.specs.Deterministic.{det}
use Rattle.cbor_core.specs.Reading.{first_item}
use Rattle.cbor_core.specs.Shapes.{array_layer, is_text, of_length, six_spots}
use Rattle.cbor_core.specs.Spots.{Spot, spot_item, bytes_in, text_in}
use Rattle.cbor_core.specs.Whole.{whole, said_of}
use Rattle.hash_hmac.specs.Value.{IsConsistent}
use Rattle.key_codec.specs.Fault.{ok_of}
use Rattle.key_codec.specs.Hash.{hash_in, item_of_hash}
use Rattle.key_codec.specs.Places.{hash_place}
use Rattle.voucher_chain.specs.declared.credential.Credential.{Credential}
use Rattle.voucher_chain.specs.Fault.{◌>>=◌}
use Rattle.voucher_chain.specs.Header.{guid_in}
use Rattle.voucher_chain.specs.RvInfo.{rv_in}
use Rattle.credential_store.specs.Parts.{seven_spots}

-- ---- parts

abbrev pub is_number : ℕ → Item-F Item → Bool
is_number n (Item-F.Uint m) = m == n
is_number n _ = false

-- bytes that spell rendezvous information, to their end, in any spelling
unfoldable pub is_rv : List ℕ → Bool
is_rv bytes = is_some (whole bytes >>= rv_in)

abbrev pub rv_bytes_in : Item → Option (List ℕ)
rv_bytes_in x = bytes_in (out-Item x) >>= λ bytes. if is_rv bytes then Some bytes else None

abbrev pub secret_in : Item → Option (List ℕ)
secret_in x = bytes_in (out-Item x) >>= of_length 32

-- HMAC-SHA-256 or HMAC-SHA-384
abbrev pub is_alg : ℕ → Bool
is_alg n = (n == 5) || (n == 6)

abbrev pub alg_of : Item-F Item → Option ℕ
alg_of (Item-F.Uint n) = if is_alg n then Some n else None
alg_of _ = None

-- ---- reading

abbrev pub credential_with : Item → Item → Item → Item → Item → Option ℕ → Option Credential
credential_with guid rv info secret hash alg =
    guid_in guid >>= λ guid. rv_bytes_in rv >>= λ rv. text_in (out-Item info) >>= λ info. secret_in secret >>= λ secret.
    ok_of (hash_in hash) >>= λ hash. alg >>= λ alg.
    Some (record { guid = guid; rv = rv; info = info; secret = secret; key_hash = hash; alg = alg })

-- the credential in the parts of a body of so many bytes
abbrev pub credential_of : ℕ → List Item → Option Credential
credential_of n (version ∷ guid ∷ rv ∷ info ∷ secret ∷ hash ∷ []) =
    if nat_le n 8000 then if is_number 1 (out-Item version) then credential_with guid rv info secret hash (Some 5) else None else None
credential_of n (version ∷ guid ∷ rv ∷ info ∷ secret ∷ hash ∷ alg ∷ []) =
    if is_number 2 (out-Item version) then credential_with guid rv info secret hash (alg_of (out-Item alg)) else None
credential_of n _ = None

unfoldable pub credential_in : ℕ → Item → Option Credential
credential_in n x = array_layer (out-Item x) >>= credential_of n

-- ---- where a body is at fault

-- the first of the parts behind the number that is not right, where `last` is the place of the last one's fault
abbrev pub parts_place : Spot → Spot → Spot → Spot → Spot → ℕ → ℕ
parts_place guid rv info secret hash last =
    if is_some (guid_in (spot_item guid)) then
    if is_some (rv_bytes_in (spot_item rv)) then
    if is_text (out-Item (spot_item info)) then
    if is_some (secret_in (spot_item secret)) then
    if is_some (ok_of (hash_in (spot_item hash))) then last
    else hash_place hash
    else secret.at
    else info.at
    else rv.at
    else guid.at

-- in version 1, of which a longer one is at fault as a whole
abbrev pub first_place : ℕ → ℕ → Spot × Spot × Spot × Spot × Spot × Spot → ℕ
first_place n at p =
    if nat_le n 8000 then
    if is_number 1 (out-Item (spot_item p.0)) then parts_place p.1 p.2 p.3 p.4 p.5 at
    else p.0.at
    else at

-- in version 2
abbrev pub second_place : Spot × Spot × Spot × Spot × Spot × Spot × Spot → ℕ
second_place p =
    if is_number 2 (out-Item (spot_item p.0)) then parts_place p.1 p.2 p.3 p.4 p.5 p.6.at
    else p.0.at

abbrev pub place_by_seven : ℕ → Option (Spot × Spot × Spot × Spot × Spot × Spot × Spot) → ℕ
place_by_seven at (Some parts) = second_place parts
place_by_seven at None = at

abbrev pub place_by : ℕ → Spot → Option (Spot × Spot × Spot × Spot × Spot × Spot) → ℕ
place_by n s (Some parts) = first_place n s.at parts
place_by n s None = place_by_seven s.at (seven_spots s)

unfoldable pub credential_place : ℕ → Spot → ℕ
credential_place n s = place_by n s (six_spots s)

-- the credential that a body holds, or the place of its first fault: of the deterministic encoding first, then of the first part
-- that is not of the form, then of the first byte after the array
abbrev pub body_at : List ℕ → Result Credential ℕ
body_at body = said_of (credential_in (length body)) (credential_place (length body)) body (first_item true body)

-- ---- writing

abbrev pub item_of_credential : Credential → Item
item_of_credential c = items.Array (
    items.Uint 2
    ∷ items.Bytes c.guid
    ∷ items.Bytes c.rv
    ∷ items.Text c.info
    ∷ items.Bytes c.secret
    ∷ item_of_hash c.key_hash
    ∷ items.Uint c.alg
    ∷ [])

-- the body that a credential is written as, which is of version 2
abbrev pub body_of_credential : Credential → List ℕ
body_of_credential c = det (item_of_credential c)

-- a credential that can be kept: its rendezvous information is some, its hash is of a known kind, and so is its HMAC
pub record IsKept (c : Credential) : Type 0 where
  pub rv : is_rv c.rv ≡ true
  pub key_hash : IsConsistent c.key_hash
  pub alg : is_alg c.alg ≡ true

-- what holds of any credential in memory
pub record IsInMemory (c : Credential) : Type 0 where
  pub guid : length c.guid ≡ 16
  pub rv : length c.rv < 2 ^ 64
  pub info : length c.info < 2 ^ 64
  pub text : is_utf8 c.info ≡ true
  pub secret : length c.secret ≡ 32
  pub hash : length c.key_hash.bytes ≡ 48

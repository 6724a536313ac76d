-- What is claimed in signed messages is read as it was written.
use Rattle.std.specs.Prelude.{◌≡◌, ◌^◌, ◌<◌, ℕ, List, length, Option, Some}
use Rattle.cbor_core.specs.Deterministic.{det}
use Rattle.key_codec.specs.declared.key.PublicKey.{PublicKey}
use Rattle.key_codec.specs.Key.{IsKey}
use Rattle.fdo_msgs.specs.Claims.{proof_in, device_proof_in, owner_claims_in, device_claims_in, item_of_proof, item_of_device_proof, owner_claims, device_claims}

-- a nonce or a Guid
abbrev pub IsSixteen : List ℕ → Type 0
IsSixteen bytes = length bytes ≡ 16

abbrev pub ProofIsReadBack : Type 0
ProofIsReadBack = (nonce guid : List ℕ) → IsSixteen nonce → IsSixteen guid → proof_in (det (item_of_proof nonce guid)) ≡ Some (nonce, guid)

abbrev pub DeviceProofIsReadBack : Type 0
DeviceProofIsReadBack = (nonce guid xb : List ℕ) → IsSixteen nonce → IsSixteen guid → length xb < 2 ^ 64 →
    device_proof_in (det (item_of_device_proof nonce guid xb)) ≡ Some (nonce, guid, xb)

abbrev pub OwnerClaimsAreReadBack : Type 0
OwnerClaimsAreReadBack = (nonce : List ℕ) (key : PublicKey) → IsSixteen nonce → IsKey key → owner_claims_in (owner_claims nonce key) ≡ Some (nonce, key)

abbrev pub DeviceClaimsAreReadBack : Type 0
DeviceClaimsAreReadBack = (nonce : List ℕ) → IsSixteen nonce → device_claims_in (device_claims nonce) ≡ Some nonce

abbrev pub OneProof : Type 0
OneProof = (nonce guid nonce' guid' : List ℕ) → IsSixteen nonce → IsSixteen guid → IsSixteen nonce' → IsSixteen guid' →
    det (item_of_proof nonce guid) ≡ det (item_of_proof nonce' guid') → (nonce ≡ nonce') × (guid ≡ guid')

abbrev pub OneDeviceProof : Type 0
OneDeviceProof = (nonce guid xb nonce' guid' xb' : List ℕ) → IsSixteen nonce → IsSixteen guid → length xb < 2 ^ 64 → IsSixteen nonce' → IsSixteen guid' → length xb' < 2 ^ 64 →
    det (item_of_device_proof nonce guid xb) ≡ det (item_of_device_proof nonce' guid' xb') → (nonce ≡ nonce') × (guid ≡ guid') × (xb ≡ xb')

abbrev pub OneOwnerClaims : Type 0
OneOwnerClaims = (nonce nonce' : List ℕ) (key key' : PublicKey) → IsSixteen nonce → IsSixteen nonce' → IsKey key → IsKey key' →
    owner_claims nonce key ≡ owner_claims nonce' key' → (nonce ≡ nonce') × (key ≡ key')

abbrev pub OneDeviceClaims : Type 0
OneDeviceClaims = (nonce nonce' : List ℕ) → IsSixteen nonce → IsSixteen nonce' → device_claims nonce ≡ device_claims nonce' → nonce ≡ nonce'

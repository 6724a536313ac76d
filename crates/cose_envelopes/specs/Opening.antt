-- Signing and verifying, sealing and opening, over what a suite's calls mean.
use Rattle.std.specs.Prelude.{◌≡◌, ℕ, ◌/◌, ℤ, pos, negsuc, List, take, drop, Bool, true, false, ◌&&◌, is_some, Option, Some, None, Result, Ok, Err, if◌then◌else◌}
use Rattle.std.specs.Ordering.{int_eq}
use Rattle.std.specs.Str.{bytes_eq}
use Rattle.cbor_core.specs.Deterministic.{det}
use Rattle.cbor_core.specs.Whole.{said_at}
use Rattle.hash_hmac.specs.Hmac.{hmac_sha256}
use Rattle.port_base.specs.Count.{Rises}
use Rattle.cose_envelopes.specs.declared.encrypt0.Encrypt0.{Encrypt0}
use Rattle.cose_envelopes.specs.declared.mac0.Mac0.{Mac0}
use Rattle.cose_envelopes.specs.declared.sign1.Sign1.{Sign1}
use Rattle.cose_envelopes.specs.declared.fault.CoseFault.{CoseFault}
use Rattle.cose_envelopes.specs.declared.fault.CoseFault.TheVariants as fault
use Rattle.cose_envelopes.specs.Envelope.{encrypt0_in, mac0_in, sign1_in, item_of_encrypt0, item_of_mac0, protected_of}
use Rattle.cose_envelopes.specs.Places.{encrypt0_place, mac0_place, sign1_place}
use Rattle.cose_envelopes.specs.Text.{encrypt0_structure, mac0_structure}

-- ---- reading

abbrev pub sign1_at : List ℕ → Result Sign1 ℕ
sign1_at bytes = said_at sign1_in sign1_place bytes

abbrev pub mac0_at : List ℕ → Result Mac0 ℕ
mac0_at bytes = said_at mac0_in mac0_place bytes

abbrev pub encrypt0_at : List ℕ → Result Encrypt0 ℕ
encrypt0_at bytes = said_at encrypt0_in encrypt0_place bytes

-- ---- signatures

-- NoAlgorithm(0) exactly where the key has no algorithm, and else nothing but a failure or want of memory
abbrev pub Refuses : {A : Type 0} → Option ℤ → Result A CoseFault → Type 0
Refuses None result = result ≡ Err (fault.NoAlgorithm (pos 0))
Refuses (Some alg) (Ok value) = Unit {0}
Refuses (Some alg) (Err fault.Failed) = Unit {0}
Refuses (Some alg) (Err fault.NoMemory) = Unit {0}
Refuses (Some alg) (Err f) = ⊥

-- the suite's count of faults rose exactly where the call failed
abbrev pub Counts : {A : Type 0} → ℕ → ℕ → Result A CoseFault → Type 0
Counts before now (Err fault.Failed) = Rises before now
Counts before now result = now ≡ before

-- what `verify` answers by the suite's answer, want of memory aside
abbrev pub Verifies : ℤ → Option Bool → Result (Unit {0}) CoseFault → Type 0
Verifies alg told (Ok _) = told ≡ Some true
Verifies alg told (Err fault.NotVerified) = told ≡ Some false
Verifies alg told (Err (fault.NoAlgorithm number)) = (told ≡ None) × (number ≡ alg)
Verifies alg told (Err fault.NoMemory) = Unit {0}
Verifies alg told (Err f) = ⊥

-- ---- sealing

-- the first bits of a key
abbrev pub key_front : ℕ → List ℕ → List ℕ
key_front bits key = take (bits / 8) key

-- the number of the laboratory algorithm of 128 bits, and of HMAC-SHA-256 (RFC 9053, section 3.1)
abbrev pub inner_number : ℤ
inner_number = negsuc 65537

abbrev pub mac_number : ℤ
mac_number = pos 5

-- the Encrypt0 of a text, by what the suite's `seal` gives
abbrev pub sealed_value : (ℤ → List ℕ → List ℕ → List ℕ → List ℕ → List ℕ) → ℤ → List ℕ → List ℕ → List ℕ → Encrypt0
sealed_value seals alg key iv plain = record { protected = protected_of alg; alg = alg; iv = iv; sealed = seals alg key iv (encrypt0_structure (protected_of alg)) plain }

unfoldable pub sealed_bytes : (ℤ → List ℕ → List ℕ → List ℕ → List ℕ → List ℕ) → ℤ → List ℕ → List ℕ → List ℕ → List ℕ
sealed_bytes seals alg key iv plain = det (item_of_encrypt0 (sealed_value seals alg key iv plain))

-- a Mac0 over a payload under a key
abbrev pub maced_value : List ℕ → List ℕ → Mac0
maced_value key payload = record { protected = protected_of mac_number; alg = mac_number; payload = payload; tag = hmac_sha256 key (mac0_structure (protected_of mac_number) payload) }

-- encrypt-then-MAC: an Encrypt0 under the first 16 bytes of a key of 32 is the payload of a Mac0 under the others
unfoldable pub sealed_etm : (ℤ → List ℕ → List ℕ → List ℕ → List ℕ → List ℕ) → List ℕ → List ℕ → List ℕ → List ℕ
sealed_etm seals key iv plain = det (item_of_mac0 (maced_value (drop 16 key) (sealed_bytes seals inner_number (take 16 key) iv plain)))

-- ---- opening

abbrev pub of_shape : {A : Type 0} → Result A ℕ → (A → Result (List ℕ × List ℕ) CoseFault) → Result (List ℕ × List ℕ) CoseFault
of_shape (Ok value) next = next value
of_shape (Err place) next = Err (fault.BadShape place)

abbrev pub opened : List ℕ → Option (List ℕ) → Result (List ℕ × List ℕ) CoseFault
opened iv (Some plain) = Ok (iv, plain)
opened iv None = Err fault.NotOpened

-- with a key of an algorithm that the suite has, if the envelope names it
abbrev pub opened_by : (ℤ → List ℕ → List ℕ → List ℕ → List ℕ → Option (List ℕ)) → ℤ → List ℕ → Encrypt0 → Option ℕ → Result (List ℕ × List ℕ) CoseFault
opened_by opens alg key value None = Err (fault.NoAlgorithm alg)
opened_by opens alg key value (Some bits) =
    if int_eq value.alg alg then opened value.iv (opens alg (key_front bits key) value.iv (encrypt0_structure value.protected) value.sealed)
    else Err (fault.NoAlgorithm alg)

-- the IV and the plain text of an Encrypt0, or the first refusal
unfoldable pub opening : (ℤ → Option ℕ) → (ℤ → List ℕ → List ℕ → List ℕ → List ℕ → Option (List ℕ)) → ℤ → List ℕ → List ℕ → Result (List ℕ × List ℕ) CoseFault
opening bits opens alg key bytes = of_shape (encrypt0_at bytes) (λ value. opened_by opens alg key value (bits alg))

-- every refusal of the inner envelope is that it is not opened
abbrev pub or_not_opened : Result (List ℕ × List ℕ) CoseFault → Result (List ℕ × List ℕ) CoseFault
or_not_opened (Ok both) = Ok both
or_not_opened (Err f) = Err fault.NotOpened

-- the tag is compared whole, before the inner envelope is read
abbrev pub opened_mac : (ℤ → Option ℕ) → (ℤ → List ℕ → List ℕ → List ℕ → List ℕ → Option (List ℕ)) → ℤ → List ℕ → Mac0 → Result (List ℕ × List ℕ) CoseFault
opened_mac bits opens alg key value =
    if is_some (bits alg) && int_eq value.alg mac_number then
    if bytes_eq value.tag (hmac_sha256 (drop 16 key) (mac0_structure value.protected value.payload)) then or_not_opened (opening bits opens inner_number key value.payload)
    else Err fault.NotOpened
    else Err (fault.NoAlgorithm alg)

unfoldable pub opening_etm : (ℤ → Option ℕ) → (ℤ → List ℕ → List ℕ → List ℕ → List ℕ → Option (List ℕ)) → ℤ → List ℕ → List ℕ → Result (List ℕ × List ℕ) CoseFault
opening_etm bits opens alg key bytes = of_shape (mac0_at bytes) (opened_mac bits opens alg key)

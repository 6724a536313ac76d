-- What signing, verifying, sealing and opening ask of a suite, where it tells.
use Rattle.std.specs.Prelude.{◌≡◌, ◌⊎◌, ℕ, ℤ, List, [], ◌∷◌, drop, ◌&&◌, is_some, Option, None, Some, Result, Ok, Err, if◌then◌else◌}
use Rattle.std.specs.Ordering.{int_eq}
use Rattle.std.specs.Str.{bytes_eq}
use Rattle.hash_hmac.specs.Hmac.{hmac_sha256}
use Rattle.port_base.specs.Told.{grown}
use Rattle.suite_port.specs.Asked.{Ask}
use Rattle.suite_port.specs.Asked.Ask.{Opened, Sealed, Signed, Verified}
use Rattle.cose_envelopes.specs.declared.encrypt0.Encrypt0.{Encrypt0}
use Rattle.cose_envelopes.specs.declared.mac0.Mac0.{Mac0}
use Rattle.cose_envelopes.specs.declared.sign1.Sign1.{Sign1}
use Rattle.cose_envelopes.specs.declared.fault.CoseFault.{CoseFault}
use Rattle.cose_envelopes.specs.declared.fault.CoseFault.TheVariants as fault
use Rattle.cose_envelopes.specs.Envelope.{protected_of}
use Rattle.cose_envelopes.specs.Opening.{encrypt0_at, inner_number, key_front, mac0_at, mac_number}
use Rattle.cose_envelopes.specs.Text.{encrypt0_structure, mac0_structure, sign1_structure}

-- ---- signatures

-- one signature, over the text to be signed, where there is one, and else nothing
abbrev pub AsksToSign : Option (List Ask) → Option (List Ask) → List ℕ → Result Sign1 CoseFault → Type 0
AsksToSign before after key (Ok value) = after ≡ grown before (Signed key (sign1_structure value.protected value.payload) ∷ [])
AsksToSign before after key (Err f) = after ≡ before

-- whether the signature is right
abbrev pub verifying : List ℕ → Sign1 → Ask
verifying key value = Verified key value.alg (sign1_structure value.protected value.payload) value.sig

-- that, once, where the suite has the algorithm, and else nothing
abbrev pub AsksToVerify : Option (List Ask) → Option (List Ask) → Ask → Result (Unit {0}) CoseFault → Type 0
AsksToVerify before after ask (Ok value) = after ≡ grown before (ask ∷ [])
AsksToVerify before after ask (Err fault.NotVerified) = after ≡ grown before (ask ∷ [])
AsksToVerify before after ask (Err f) = after ≡ before

-- ---- sealing

-- the text is sealed, and the protected header with it
abbrev pub sealing : ℤ → List ℕ → List ℕ → List ℕ → Ask
sealing alg key iv plain = Sealed alg key iv (encrypt0_structure (protected_of alg)) plain

-- that, once; where memory runs out, which is the only refusal of an algorithm that the suite has, that or nothing
abbrev pub AsksToSeal : {A E : Type 0} → Option (List Ask) → Option (List Ask) → Ask → Result A E → Type 0
AsksToSeal before after ask (Ok value) = after ≡ grown before (ask ∷ [])
AsksToSeal before after ask (Err f) = (after ≡ before) ⊎ (after ≡ grown before (ask ∷ []))

-- ---- opening

-- what is asked to open an envelope under a key of so many bits; nothing where it is refused before
abbrev pub opening_of : ℤ → List ℕ → Encrypt0 → Option ℕ → Option Ask
opening_of alg key value None = None
opening_of alg key value (Some bits) =
    if int_eq value.alg alg then Some (Opened alg (key_front bits key) value.iv (encrypt0_structure value.protected) value.sealed)
    else None

abbrev pub where_read : {A : Type 0} → Result A ℕ → (A → Option Ask) → Option Ask
where_read (Ok value) next = next value
where_read (Err place) next = None

unfoldable pub asked_to_open : (ℤ → Option ℕ) → ℤ → List ℕ → List ℕ → Option Ask
asked_to_open bits alg key bytes = where_read (encrypt0_at bytes) (λ value. opening_of alg key value (bits alg))

-- of encrypt-then-MAC; nothing where the tag is wrong
abbrev pub opening_of_mac : (ℤ → Option ℕ) → ℤ → List ℕ → Mac0 → Option Ask
opening_of_mac bits alg key value =
    if is_some (bits alg) && int_eq value.alg mac_number then
    if bytes_eq value.tag (hmac_sha256 (drop 16 key) (mac0_structure value.protected value.payload)) then asked_to_open bits inner_number key value.payload
    else None
    else None

unfoldable pub asked_to_open_etm : (ℤ → Option ℕ) → ℤ → List ℕ → List ℕ → Option Ask
asked_to_open_etm bits alg key bytes = where_read (mac0_at bytes) (opening_of_mac bits alg key)

abbrev pub also : Option (List Ask) → Option Ask → Option (List Ask)
also before None = before
also before (Some ask) = grown before (ask ∷ [])

-- that, once; where memory runs out, nothing
abbrev pub AsksToOpen : {A : Type 0} → Option (List Ask) → Option (List Ask) → Option Ask → Result A CoseFault → Type 0
AsksToOpen before after ask (Err fault.NoMemory) = after ≡ before
AsksToOpen before after ask result = after ≡ also before ask

-- A voucher with one more entry, and the strength of the hashes that are made for it.
use Rattle.std.specs.Prelude.{◌≡◌, ◌⊎◌, ℕ, ◌==◌, ℤ, pos, List, [], ◌∷◌, ◌++◌, length, ◌<◌, nat_lt, Bool, true, false, ◌||◌, ◌&&◌, Option, None, Some, IsSome, Result, Ok, Err, if◌then◌else◌}
use Rattle.std.specs.Ordering.{int_eq}
use Rattle.cbor_core.specs.Deterministic.{det}
use Rattle.hash_hmac.specs.Kind.{sha256_kind, sha384_kind}
use Rattle.key_codec.specs.declared.key.KeyBody.{KeyBody}
use Rattle.key_codec.specs.declared.key.KeyBody.TheVariants as body
use Rattle.key_codec.specs.declared.key.PublicKey.{PublicKey}
use Rattle.key_codec.specs.Key.{IsKey}
use Rattle.cose_envelopes.specs.Envelope.{algorithm_in, item_of_sign1, protected_of}
use Rattle.port_base.specs.Count.{Rises}
use Rattle.port_base.specs.Told.{grown}
use Rattle.suite_port.specs.Asked.{Ask}
use Rattle.suite_port.specs.Asked.Ask.{Signed}
use Rattle.cose_envelopes.specs.declared.sign1.Sign1.{Sign1}
use Rattle.cose_envelopes.specs.Text.{sign1_structure}
use Rattle.voucher_chain.specs.declared.fault.ChainFault.{ChainFault}
use Rattle.voucher_chain.specs.declared.fault.ChainFault.TheVariants as fault
use Rattle.voucher_chain.specs.declared.entry.Entry.{Entry}
use Rattle.voucher_chain.specs.declared.voucher.Voucher.{Voucher}
use Rattle.voucher_chain.specs.Chain.{Verifies, Follows, front, last_bytes, last_key}
use Rattle.voucher_chain.specs.Entry.{item_of_payload, IsEntry}
use Rattle.voucher_chain.specs.Reading.{IsInMemory, IsVoucher, most_entries}
use Rattle.voucher_chain.specs.Voucher.{voucher_with}

-- ---- strength

-- a laboratory key whose bytes are more than 16
abbrev pub is_long : KeyBody → Bool
is_long (body.Bytes b) = nat_lt 16 (length b)
is_long _ = false

-- 384 for keys on P-384, type 11, and for long laboratory keys, type 200
abbrev pub strength_of : PublicKey → ℕ
strength_of key = if int_eq key.kind (pos 11) || (int_eq key.kind (pos 200) && is_long key.body) then 384 else 256

-- the hash of a strength: SHA-256 or SHA-384
abbrev pub hash_kind : ℕ → ℤ
hash_kind bits = if bits == 384 then sha384_kind else sha256_kind

-- ---- the longer voucher

-- an entry that goes on from a voucher to a next owner, with hashes of the kind of the header's key; its protected header
-- names the algorithm of its signature, and nothing else
pub record IsNext (verifies : Verifies) (v : Voucher) (next : PublicKey) (entry : Entry) : Type 0 where
  pub follows : Follows verifies v.header (last_bytes (front v) v.entries) (last_key v.header.key v.entries) entry
  pub prev : entry.prev.kind ≡ hash_kind (strength_of v.header.key)
  pub hdr : entry.hdr.kind ≡ hash_kind (strength_of v.header.key)
  pub extra : entry.extra ≡ None
  pub key : entry.key ≡ next
  pub protected : entry.sign.protected ≡ protected_of entry.sign.alg
  pub names : algorithm_in entry.sign.protected ≡ Some entry.sign.alg
  pub unprotected : entry.sign.unprotected ≡ []
  pub payload : entry.sign.payload ≡ det (item_of_payload entry.prev entry.hdr next)
  pub raw : entry.raw ≡ det (item_of_sign1 entry.sign)

-- where the next owner's key is of the form, the entry is read from its bytes as it stands
abbrev pub IsReadAgain : PublicKey → Entry → Type 0
IsReadAgain next entry = IsKey next → IsEntry entry.raw entry

-- the same for the voucher with the entry, where the one without it was read
abbrev pub IsReadBack : Voucher → PublicKey → Voucher → Type 0
IsReadBack v next longer = (bytes : List ℕ) → IsVoucher bytes v → IsKey next → IsVoucher longer.raw longer

-- all that the voucher had, its header, HMAC and entries byte for byte, and such an entry
pub record IsExtended (verifies : Verifies) (v : Voucher) (next : PublicKey) (longer : Voucher) : Type 0 where
  pub entry : Entry
  pub is_next : IsNext verifies v next entry
  pub back : IsReadAgain next entry
  pub all : longer ≡ voucher_with v.header v.hmac v.hmac_raw v.chain (v.entries ++ entry ∷ [])

-- the entry that a longer voucher has more than these is signed with this algorithm
abbrev pub IsSignedWith : Option ℤ → List Entry → Voucher → Type 0
IsSignedWith told entries longer = (entry : Entry) × (longer.entries ≡ entries ++ entry ∷ []) × (told ≡ Some entry.sign.alg)

-- ---- bytes in memory

pub record AreSized (v longer : Voucher) : Type 0 where
  pub few : length v.entries < most_entries
  pub old : IsInMemory v.raw
  pub new : IsInMemory longer.raw

-- ---- refusals

-- NoAlgorithm with the number of entries exactly where the last owner's key has none, and else nothing but a failure or
-- running out of memory, which may also come first
abbrev pub RefusesNext : {A : Type 0} → Option ℤ → ℕ → Result A ChainFault → Type 0
RefusesNext told index (Ok value) = IsSome told
RefusesNext told index (Err (fault.NoAlgorithm number)) = (told ≡ None) × (number ≡ index)
RefusesNext told index (Err fault.Failed) = IsSome told
RefusesNext told index (Err fault.NoMemory) = Unit {0}
RefusesNext told index (Err f) = ⊥

-- too long comes first, exactly where there are as many entries as may be
abbrev pub RefusesBelow : {A : Type 0} → Bool → Option ℤ → ℕ → Result A ChainFault → Type 0
RefusesBelow false told count result = result ≡ Err fault.TooLong
RefusesBelow true told count result = RefusesNext told count result

abbrev pub Refuses : {A : Type 0} → Option ℤ → ℕ → Result A ChainFault → Type 0
Refuses told count result = RefusesBelow (nat_lt count most_entries) told count result

-- the suite's count of faults rose exactly where the call failed
abbrev pub Counts : {A : Type 0} → ℕ → ℕ → Result A ChainFault → Type 0
Counts before now (Ok value) = now ≡ before
Counts before now (Err fault.Failed) = Rises before now
Counts before now (Err f) = now ≡ before

-- ---- what is asked of the suite

-- one signature under a key, over an envelope
abbrev pub Signs : Option (List Ask) → Option (List Ask) → List ℕ → Sign1 → Type 0
Signs before after key sign = after ≡ grown before (Signed key (sign1_structure sign.protected sign.payload) ∷ [])

-- where memory runs out, nothing, or one signature under the key
abbrev pub MaySign : Option (List Ask) → Option (List Ask) → List ℕ → Type 0
MaySign before after key = (after ≡ before) ⊎ ((text : List ℕ) × (after ≡ grown before (Signed key text ∷ [])))

-- one signature over what is given; where memory runs out, one or none, and where it is refused, none
abbrev pub AsksNext : {A : Type 0} → (A → Sign1) → Option (List Ask) → Option (List Ask) → List ℕ → Result A ChainFault → Type 0
AsksNext envelope before after key (Ok value) = Signs before after key (envelope value)
AsksNext envelope before after key (Err fault.NoMemory) = MaySign before after key
AsksNext envelope before after key (Err f) = after ≡ before

-- the same for a voucher with an entry more than these
abbrev pub AsksLonger : Option (List Ask) → Option (List Ask) → List ℕ → List Entry → Result Voucher ChainFault → Type 0
AsksLonger before after key entries (Ok longer) = (entry : Entry) × (longer.entries ≡ entries ++ entry ∷ []) × Signs before after key entry.sign
AsksLonger before after key entries (Err fault.NoMemory) = MaySign before after key
AsksLonger before after key entries (Err f) = after ≡ before

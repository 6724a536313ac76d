-- The chain of a voucher's owners (FIDO Device Onboard 1.1, section 3.4): each entry is signed by the owner before it,
-- holds the hash of the bytes before it and of the header's information, and names the next owner's key.
use Rattle.std.specs.Prelude.{◌≡◌, ℕ, zero, suc, ◌+◌, ℤ, length, List, [], ◌∷◌, ◌++◌, flat_map, Bool, true, false, ◌&&◌, ◌==◌, Option, Some, None, Result, Ok, Err}
use Rattle.std.specs.Ordering.{int_eq}
use Rattle.std.specs.Str.{bytes_eq}
use Rattle.cbor_core.specs.Deterministic.{det}
use Rattle.hash_hmac.specs.declared.hash.Hash.{Hash}
use Rattle.hash_hmac.specs.Hashing.{hashed}
use Rattle.hash_hmac.specs.Value.{hash_value}
use Rattle.key_codec.specs.declared.key.PublicKey.{PublicKey}
use Rattle.key_codec.specs.Key.{item_of_key}
use Rattle.cose_envelopes.specs.declared.sign1.Sign1.{Sign1}
use Rattle.cose_envelopes.specs.Asking.{verifying}
use Rattle.cose_envelopes.specs.Text.{sign1_structure}
use Rattle.port_base.specs.Told.{grown}
use Rattle.suite_port.specs.Asked.{Ask}
use Rattle.voucher_chain.specs.declared.entry.Entry.{Entry}
use Rattle.voucher_chain.specs.declared.header.Header.{Header}
use Rattle.voucher_chain.specs.declared.voucher.Voucher.{Voucher}
use Rattle.voucher_chain.specs.declared.fault.ChainFault.{ChainFault}
use Rattle.voucher_chain.specs.declared.fault.ChainFault.TheVariants as fault
use Rattle.voucher_chain.specs.Fault.{or_else}
use Rattle.voucher_chain.specs.Match.{IsHashOf}

-- what a suite's `verify` means: by the key's bytes, the algorithm, the text and the signature
abbrev pub Verifies : Type 0
Verifies = List ℕ → ℤ → List ℕ → List ℕ → Option Bool

-- ---- the chain

-- what is hashed as the header's information: the GUID and DeviceInfo
abbrev pub information : Header → List ℕ
information header = header.guid ++ header.info

-- the signature of an entry is right under a key
abbrev pub signature_told : Verifies → PublicKey → Sign1 → Option Bool
signature_told verifies key sign = verifies (det (item_of_key key)) sign.alg (sign1_structure sign.protected sign.payload) sign.sig

-- an entry goes on from the bytes before it and the key of the owner before
pub record Follows (verifies : Verifies) (header : Header) (before : List ℕ) (key : PublicKey) (entry : Entry) : Type 0 where
  pub prev : IsHashOf entry.prev before
  pub hdr : IsHashOf entry.hdr (information header)
  pub signed : signature_told verifies key entry.sign ≡ Some true

-- the owners' keys: the first, and one for each entry
abbrev pub Links : Verifies → Header → List ℕ → PublicKey → List Entry → List PublicKey → Type 0
Links verifies header before key [] keys = keys ≡ key ∷ []
Links verifies header before key (e ∷ es) keys = (later : List PublicKey) × Follows verifies header before key e × Links verifies header e.raw e.key es later × (keys ≡ key ∷ later)

-- the certificates' bytes in a row have the header's hash, or both are null
abbrev pub HasCertificates : Option (List (List ℕ)) → Option Hash → Type 0
HasCertificates None None = Unit {0}
HasCertificates None (Some hash) = ⊥
HasCertificates (Some chain) None = ⊥
HasCertificates (Some chain) (Some hash) = IsHashOf hash (flat_map (λ certificate. certificate) chain)

-- before the first entry stand the bytes of the header and of its HMAC
abbrev pub front : Voucher → List ℕ
front v = v.header.raw ++ v.hmac_raw

pub record Chain (verifies : Verifies) (v : Voucher) (keys : List PublicKey) : Type 0 where
  pub certificates : HasCertificates v.chain v.header.chain_hash
  pub links : Links verifies v.header (front v) v.header.key v.entries keys

-- the last owner's key
abbrev pub last_key : PublicKey → List Entry → PublicKey
last_key key [] = key
last_key key (e ∷ es) = last_key e.key es

-- the bytes by which a suite knows it
abbrev pub owner_bytes : Voucher → List ℕ
owner_bytes v = det (item_of_key (last_key v.header.key v.entries))

-- what stands before the next entry
abbrev pub last_bytes : List ℕ → List Entry → List ℕ
last_bytes before [] = before
last_bytes before (e ∷ es) = last_bytes e.raw es

-- ---- the first break

abbrev pub same_hash : Hash → Hash → Bool
same_hash a b = int_eq a.kind b.kind && (a.len == b.len) && bytes_eq a.bytes b.bytes

-- whether a hash is that of a text, by its own kind; none where that is none of a hash's
abbrev pub told_of : Hash → Option (List ℕ) → Option Bool
told_of hash None = None
told_of hash (Some bytes) = Some (same_hash (hash_value hash.kind bytes) hash)

abbrev pub hash_told : Hash → List ℕ → Option Bool
hash_told hash text = told_of hash (hashed hash.kind text)

-- a hash of a kind that is none of a hash's, or one of another text
abbrev pub told_break : ChainFault → ChainFault → Option Bool → Option ChainFault
told_break unknown wrong None = Some unknown
told_break unknown wrong (Some true) = None
told_break unknown wrong (Some false) = Some wrong

abbrev pub hash_break : ChainFault → ChainFault → Hash → List ℕ → Option ChainFault
hash_break unknown wrong hash text = told_break unknown wrong (hash_told hash text)

abbrev pub signature_break : ℕ → Option Bool → Option ChainFault
signature_break index None = Some (fault.NoAlgorithm index)
signature_break index (Some true) = None
signature_break index (Some false) = Some (fault.BadSignature index)

-- the first of an entry's clauses that does not hold
unfoldable pub entry_break : Verifies → Header → ℕ → List ℕ → PublicKey → Entry → Option ChainFault
entry_break verifies header index before key e =
    or_else (hash_break (fault.NoAlgorithm index) (fault.BadPrevHash index) e.prev before)
    (or_else (hash_break (fault.NoAlgorithm index) (fault.BadInfoHash index) e.hdr (information header)) (signature_break index (signature_told verifies key e.sign)))

unfoldable pub links_break : Verifies → Header → ℕ → List ℕ → PublicKey → List Entry → Option ChainFault
links_break verifies header index before key [] = None
links_break verifies header index before key (e ∷ es) = or_else (entry_break verifies header index before key e) (links_break verifies header (index + 1) e.raw e.key es)

abbrev pub certificates_break : Option (List (List ℕ)) → Option Hash → Option ChainFault
certificates_break None None = None
certificates_break None (Some hash) = Some fault.BadCertHash
certificates_break (Some chain) None = Some fault.BadCertHash
certificates_break (Some chain) (Some hash) = hash_break fault.BadCertHash fault.BadCertHash hash (flat_map (λ certificate. certificate) chain)

-- the certificates come first, then the first entry that breaks the chain, with the first clause that does not hold
unfoldable pub first_break : Verifies → Voucher → Option ChainFault
first_break verifies v = or_else (certificates_break v.chain v.header.chain_hash) (links_break verifies v.header 0 (front v) v.header.key v.entries)

abbrev pub checked : Option ChainFault → Result (Unit {0}) ChainFault
checked None = Ok tt
checked (Some f) = Err f

-- ---- what is asked of the suite

-- whether the signature of an entry is right under a key, once, where it is or the signature alone is wrong, and else
-- nothing; a refusal names the entry
abbrev pub AsksToCheck : Option (List Ask) → Option (List Ask) → Ask → ℕ → Result (Unit {0}) ChainFault → Type 0
AsksToCheck before after ask index (Ok value) = after ≡ grown before (ask ∷ [])
AsksToCheck before after ask index (Err (fault.BadSignature number)) = (number ≡ index) × (after ≡ grown before (ask ∷ []))
AsksToCheck before after ask index (Err (fault.BadPrevHash number)) = (number ≡ index) × (after ≡ before)
AsksToCheck before after ask index (Err (fault.BadInfoHash number)) = (number ≡ index) × (after ≡ before)
AsksToCheck before after ask index (Err (fault.NoAlgorithm number)) = (number ≡ index) × (after ≡ before)
AsksToCheck before after ask index (Err fault.NoMemory) = after ≡ before
AsksToCheck before after ask index (Err f) = ⊥

-- the signatures of the first entries of some, the first one under a key
abbrev pub checkings : ℕ → PublicKey → List Entry → List Ask
checkings zero key es = []
checkings (suc n) key [] = []
checkings (suc n) key (e ∷ es) = verifying (det (item_of_key key)) e.sign ∷ checkings n e.key es

-- how many entries have had their signatures asked for where a chain is refused so
abbrev pub asked_before : ChainFault → ℕ
asked_before (fault.BadPrevHash index) = index
asked_before (fault.BadInfoHash index) = index
asked_before (fault.NoAlgorithm index) = index
asked_before (fault.BadSignature index) = index + 1
asked_before _ = 0

-- those, in their order; where memory runs out, those of some first entries
abbrev pub AsksUpTo : Option (List Ask) → Option (List Ask) → PublicKey → List Entry → ChainFault → Type 0
AsksUpTo before after key entries fault.NoMemory = (n : ℕ) × (after ≡ grown before (checkings n key entries))
AsksUpTo before after key entries f = after ≡ grown before (checkings (asked_before f) key entries)

-- that of each entry, once, up to the first break
abbrev pub AsksToCheckAll : {A : Type 0} → Option (List Ask) → Option (List Ask) → PublicKey → List Entry → Result A ChainFault → Type 0
AsksToCheckAll before after key entries (Ok value) = after ≡ grown before (checkings (length entries) key entries)
AsksToCheckAll before after key entries (Err f) = AsksUpTo before after key entries f

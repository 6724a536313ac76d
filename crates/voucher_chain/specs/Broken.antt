-- Where a voucher's chain of owners breaks first (FIDO Device Onboard 1.1, section 3.4): at the certificates, or at an
-- entry before which all hold, by the first of its parts that does not hold.
use Rattle.std.specs.Prelude.{◌≡◌, ◌≢◌, ◌⊎◌, ℕ, List, ◌∷◌, ◌++◌, length, Bool, false, Option, Some, None}
use Rattle.hash_hmac.specs.declared.hash.Hash.{Hash}
use Rattle.hash_hmac.specs.Hashing.{hashed}
use Rattle.hash_hmac.specs.Value.{hash_value}
use Rattle.key_codec.specs.declared.key.PublicKey.{PublicKey}
use Rattle.voucher_chain.specs.declared.entry.Entry.{Entry}
use Rattle.voucher_chain.specs.declared.header.Header.{Header}
use Rattle.voucher_chain.specs.declared.voucher.Voucher.{Voucher}
use Rattle.voucher_chain.specs.declared.fault.ChainFault.{ChainFault}
use Rattle.voucher_chain.specs.declared.fault.ChainFault.TheVariants as fault
use Rattle.voucher_chain.specs.Chain.{Verifies, Links, HasCertificates, information, signature_told, front, last_bytes, last_key}
use Rattle.voucher_chain.specs.Match.{IsHashOf}

-- ---- one entry

-- a hash of a kind that is none of a hash's
abbrev pub IsOfUnknownKind : Hash → List ℕ → Type 0
IsOfUnknownKind hash text = hashed hash.kind text ≡ None

-- a hash where the text has another one of its kind
abbrev pub IsOfAnotherText : Hash → List ℕ → Type 0
IsOfAnotherText hash text = (bytes : List ℕ) × (hashed hash.kind text ≡ Some bytes) × (hash_value hash.kind bytes ≢ hash)

-- a hash is not that of a text: which fault it is
abbrev pub BreaksHash : ChainFault → ChainFault → Hash → List ℕ → ChainFault → Type 0
BreaksHash unknown wrong hash text found = (IsOfUnknownKind hash text × (found ≡ unknown)) ⊎ (IsOfAnotherText hash text × (found ≡ wrong))

-- a signature has no algorithm, or is not right
abbrev pub BreaksSignature : ℕ → Option Bool → ChainFault → Type 0
BreaksSignature index told found = ((told ≡ None) × (found ≡ fault.NoAlgorithm index)) ⊎ ((told ≡ Some false) × (found ≡ fault.BadSignature index))

-- the first part of an entry that does not hold: the hash of what stands before, the hash of the header's information,
-- or the signature
abbrev pub BreaksEntry : Verifies → Header → ℕ → List ℕ → PublicKey → Entry → ChainFault → Type 0
BreaksEntry verifies header index before key entry found =
    BreaksHash (fault.NoAlgorithm index) (fault.BadPrevHash index) entry.prev before found
    ⊎ (IsHashOf entry.prev before × BreaksHash (fault.NoAlgorithm index) (fault.BadInfoHash index) entry.hdr (information header) found)
    ⊎ (IsHashOf entry.prev before × IsHashOf entry.hdr (information header) × BreaksSignature index (signature_told verifies key entry.sign) found)

-- ---- the whole chain

-- the certificates hold, and so do the entries before one, which does not
pub record BrokenAt (verifies : Verifies) (v : Voucher) (found : ChainFault) : Type 0 where
  pub certificates : HasCertificates v.chain v.header.chain_hash
  pub sound : List Entry
  pub entry : Entry
  pub later : List Entry
  pub entries : v.entries ≡ sound ++ entry ∷ later
  pub keys : List PublicKey
  pub links : Links verifies v.header (front v) v.header.key sound keys
  pub breaks : BreaksEntry verifies v.header (length sound) (last_bytes (front v) sound) (last_key v.header.key sound) entry found

-- the first break of a chain
abbrev pub IsFirstBreak : Verifies → Voucher → ChainFault → Type 0
IsFirstBreak verifies v found = (¬ HasCertificates v.chain v.header.chain_hash × (found ≡ fault.BadCertHash)) ⊎ BrokenAt verifies v found

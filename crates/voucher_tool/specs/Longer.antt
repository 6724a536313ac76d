-- A longer voucher made of the bytes of one.
use Rattle.std.specs.Prelude.{◌≡◌, ℕ, ℤ, List, length, Bool, true, false, Option, Result, Ok, Err}
use Rattle.key_codec.specs.declared.key.PublicKey.{PublicKey}
use Rattle.key_codec.specs.Key.{IsKey}
use Rattle.voucher_chain.specs.declared.fault.ChainFault.{ChainFault}
use Rattle.voucher_chain.specs.declared.fault.ChainFault.TheVariants as fault
use Rattle.voucher_chain.specs.declared.voucher.Voucher.{Voucher}
use Rattle.voucher_chain.specs.Chain.{Verifies, owner_bytes}
use Rattle.voucher_chain.specs.Extended.{AsksLonger, IsExtended, IsReadBack, MaySign, Refuses}
use Rattle.suite_port.specs.Asked.{Ask}
use Rattle.voucher_chain.specs.Reading.{IsVoucher, voucher_at}

-- the bytes of a voucher that has one more entry; they are read as it where the next key is of the form and the voucher was
-- read
pub record IsRawExtended (verifies : Verifies) (v : Voucher) (next : PublicKey) (made : List ℕ) : Type 0 where
  pub longer : Voucher
  pub extended : IsExtended verifies v next longer
  pub raw : made ≡ longer.raw
  pub back : IsReadBack v next longer

-- than the voucher that the bytes spell; they are read as the longer voucher, where the next owner's key is of the form
pub record IsLonger (verifies : Verifies) (bytes : List ℕ) (next : PublicKey) (made : List ℕ) : Type 0 where
  pub voucher : Voucher
  pub read : IsVoucher bytes voucher
  pub extended : IsRawExtended verifies voucher next made
  pub again : IsKey next → IsVoucher made extended.longer

-- BadSignature with the number of entries exactly where the last owner's key is not held
abbrev pub RefusesOwner : {A : Type 0} → Bool → Option ℤ → ℕ → Result A ChainFault → Type 0
RefusesOwner false told count result = result ≡ Err (fault.BadSignature count)
RefusesOwner true told count result = Refuses told count result

abbrev pub RefusesVoucher : {A : Type 0} → (List ℕ → Bool) → (List ℕ → Option ℤ) → Voucher → Result A ChainFault → Type 0
RefusesVoucher held algorithm v result = RefusesOwner (held (owner_bytes v)) (algorithm (owner_bytes v)) (length v.entries) result

-- the refusals of reading come first
abbrev pub RefusesBytes : {A : Type 0} → (List ℕ → Bool) → (List ℕ → Option ℤ) → Result Voucher ChainFault → Result A ChainFault → Type 0
RefusesBytes held algorithm (Err f) result = result ≡ Err f
RefusesBytes held algorithm (Ok v) result = RefusesVoucher held algorithm v result

-- NoMemory may come at any place
abbrev pub UnlessMemory : {A : Type 0} → (Result A ChainFault → Type 0) → Result A ChainFault → Type 0
UnlessMemory said (Err fault.NoMemory) = Unit {0}
UnlessMemory said result = said result

abbrev pub RefusesFile : {A : Type 0} → (List ℕ → Bool) → (List ℕ → Option ℤ) → List ℕ → Result A ChainFault → Type 0
RefusesFile held algorithm bytes result = UnlessMemory (RefusesBytes held algorithm (voucher_at bytes)) result

-- ---- what is asked of the suite

-- for bytes that are made, one signature under the last owner's key, over the entry that they have more; where memory runs
-- out, one or none, and where the voucher is refused, none
abbrev pub AsksRaw : Verifies → Option (List Ask) → Option (List Ask) → PublicKey → Voucher → Result (List ℕ) ChainFault → Type 0
AsksRaw verifies before after next v (Ok made) =
    (longer : Voucher) × IsExtended verifies v next longer × (made ≡ longer.raw) × AsksLonger before after (owner_bytes v) v.entries (Ok longer)
AsksRaw verifies before after next v (Err fault.NoMemory) = MaySign before after (owner_bytes v)
AsksRaw verifies before after next v (Err f) = after ≡ before

-- for bytes that are no voucher, none
abbrev pub AsksFile : Verifies → Option (List Ask) → Option (List Ask) → PublicKey → Result Voucher ChainFault → Result (List ℕ) ChainFault → Type 0
AsksFile verifies before after next (Ok v) result = AsksRaw verifies before after next v result
AsksFile verifies before after next (Err f) result = after ≡ before

-- What is read is spelled, and what is spelled is read.
use Rattle.std.proofs.Common.{◌≡◌, ℕ, List, length, Bool, true, false, Option, Result, Ok, Err, IfOk, refl, ap, subst, ◌∙◌}
use Rattle.std.specs.Prelude.{nat_le, ◌≤◌, if◌then◌else◌}
use Rattle.std.proofs.lemmas.Bool.{le-leb, leb-true}
use Rattle.cbor_core.specs.Spots.{Spot}
use Rattle.cbor_core.specs.Whole.{seen_at, Shows}
use Rattle.cbor_core.proofs.Bytes.{IsBytes}
use Rattle.cbor_core.proofs.WholeLaws.{shows_found, shows_again}
use Rattle.voucher_chain.specs.declared.fault.ChainFault.{ChainFault}
use Rattle.voucher_chain.specs.declared.fault.ChainFault.TheVariants as fault
use Rattle.voucher_chain.specs.declared.voucher.Voucher.{Voucher}
use Rattle.voucher_chain.specs.Fault.{Reads, Answers}
use Rattle.voucher_chain.specs.Reading.{bounded, voucher_at, IsVoucher, most_entries}
use Rattle.voucher_chain.specs.Voucher.{voucher_seen, voucher_place}

pub reads_found : {A : Type 0} (seen : Spot → Option A) (place : Spot → ℕ) (bytes : List ℕ) (r : Result A ChainFault) → IsBytes bytes → Reads (seen_at seen place bytes) r → IfOk r (Shows seen bytes)
reads_found seen place bytes (Ok value) fits e = shows_found seen place bytes value fits e
reads_found seen place bytes (Err f) fits e = tt

pub reads_only : {A : Type 0} (seen : Spot → Option A) (place : Spot → ℕ) (bytes : List ℕ) (r : Result A ChainFault) → Reads (seen_at seen place bytes) r → (value : A) → Shows seen bytes value → Reads (Ok value) r
reads_only {A} seen place bytes r e value h = subst (λ (said : Result A ℕ). Reads said r) (shows_again seen place bytes value h) e

-- ---- vouchers

abbrev ok_voucher : Voucher → Result Voucher ChainFault
ok_voucher v = Ok v

abbrev read_ok : Voucher → Result Voucher ℕ
read_ok v = Ok v

abbrev few_or : Bool → Voucher → Result Voucher ChainFault
few_or b v = if b then Ok v else Err fault.TooLong

-- a voucher that is not refused was read, and has few entries
bounded_found : (read : Result Voucher ℕ) (v : Voucher) → bounded read ≡ Ok v → (read ≡ Ok v) × (length v.entries ≤ most_entries)
bounded_found (Ok w) v e = go (nat_le (length w.entries) most_entries) refl e
  where
    go : (b : Bool) → nat_le (length w.entries) most_entries ≡ b → few_or b w ≡ ok_voucher v → (read_ok w ≡ read_ok v) × (length v.entries ≤ most_entries)
    go true few e =
        let same : w ≡ v = cc e in
        (ap read_ok same, subst (λ (u : Voucher). length u.entries ≤ most_entries) same (leb-true (length w.entries) most_entries few))
    go false few e = absurd (cc e)
bounded_found (Err place) v e = absurd (cc e)

pub voucher_found : (bytes : List ℕ) (r : Result Voucher ChainFault) → IsBytes bytes → Answers (voucher_at bytes) r → IfOk r (IsVoucher bytes)
voucher_found bytes (Ok v) fits e =
    let h = bounded_found (seen_at voucher_seen voucher_place bytes) v e in
    record { shown = shows_found voucher_seen voucher_place bytes v fits h.0; few = h.1 }
voucher_found bytes (Err f) fits e = tt

pub voucher_again : (bytes : List ℕ) (v : Voucher) → IsVoucher bytes v → voucher_at bytes ≡ Ok v
voucher_again bytes v h = ap bounded (shows_again voucher_seen voucher_place bytes v h.shown) ∙ (rw (le-leb (length v.entries) most_entries h.few) refl)

pub voucher_only : (bytes : List ℕ) (r : Result Voucher ChainFault) → Answers (voucher_at bytes) r → (v : Voucher) → IsVoucher bytes v → Answers (Ok v) r
voucher_only bytes r e v h = subst (λ (told : Result Voucher ChainFault). Answers told r) (voucher_again bytes v h) e

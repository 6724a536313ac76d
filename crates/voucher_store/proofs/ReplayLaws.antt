-- Records, one behind another.
use Rattle.std.proofs.Common.{◌≡◌, ℕ, suc, ◌+◌, List, length, true, false, Some, None, Result, Ok, Err, sym, ap, ◌∙◌}
use Rattle.journal.specs.Records.{record_at, Walk, walk, walk_on}
use Rattle.journal.proofs.RecordLaws.{walk_none}
use Rattle.voucher_map.specs.declared.kept.Kept.{Kept}
use Rattle.voucher_store.specs.Read.{◌>>=◌, found, placed, Blames, det_at, IsPlaced}
use Rattle.voucher_store.specs.Records.{change_at, changed, Applied, record_in, records_in}
use Rattle.voucher_store.specs.declared.change.Change.{Change}
use Rattle.voucher_store.specs.declared.fault.ImageFault.{ImageFault}
use Rattle.voucher_store.specs.declared.fault.ImageFault.TheVariants as image

-- ---- one

pub record_done : (place : ℕ) (before after : List Kept) (body : List ℕ) (c : Change) → det_at change_at body ≡ Ok c → Applied (changed c before) true after → record_in place before body ≡ Ok after
record_done place before after body c says is =
    ap (λ (r : Result Change ℕ). placed (place + 5) r >>= λ c. found place (changed c before)) says ∙ ap (found place) is

pub record_nothing : (place : ℕ) (before after : List Kept) (body : List ℕ) (c : Change) → det_at change_at body ≡ Ok c → Applied (changed c before) false after → record_in place before body ≡ Err place
record_nothing place before after body c says is =
    ap (λ (r : Result Change ℕ). placed (place + 5) r >>= λ c. found place (changed c before)) says ∙ ap (found place) is

pub record_cut : (place : ℕ) (before : List Kept) (body : List ℕ) (fault at : ImageFault) → Blames (det_at change_at body) fault → IsPlaced (place + 5) fault at → Blames (record_in place before body) at
record_cut place before body fault image.NoMemory says is = tt
record_cut place before body image.NoMemory (image.Foreign at) says is = absurd is
record_cut place before body (image.Foreign p) (image.Foreign at) says is =
    ap (λ (r : Result Change ℕ). placed (place + 5) r >>= λ c. found place (changed c before)) says ∙ ap Err (sym is)

-- ---- and another

said : ℕ → List Kept → Walk → Result (List Kept) ℕ
said place entries w = records_in place entries w.bodies

pub records_more : (n m place : ℕ) (before after : List Kept) (x body rest : List ℕ) (whole : Result (List Kept) ℕ)
    → n ≡ suc m → record_at x ≡ Some (body, rest) → record_in place before body ≡ Ok after → records_in place before (walk n place x).bodies ≡ whole → records_in (place + (5 + length body)) after (walk m (place + (5 + length body)) rest).bodies ≡ whole
records_more n m place before after x body rest whole n_is at is was =
    sym (ap (λ r. r >>= λ a. records_in (place + (5 + length body)) a (walk m (place + (5 + length body)) rest).bodies) is)
    ∙ sym (ap (λ o. records_in place before (walk_on (λ p x. walk m p x) place x o).bodies) at)
    ∙ sym (ap (λ n. records_in place before (walk n place x).bodies) n_is)
    ∙ was

pub records_fail : (n m place : ℕ) (before : List Kept) (x body rest : List ℕ) (whole : Result (List Kept) ℕ) (fault : ImageFault)
    → n ≡ suc m → record_at x ≡ Some (body, rest) → Blames (record_in place before body) fault → records_in place before (walk n place x).bodies ≡ whole → Blames whole fault
records_fail n m place before x body rest whole image.NoMemory n_is at is was = tt
records_fail n m place before x body rest whole (image.Foreign p) n_is at is was =
    sym was
    ∙ ap (λ n. records_in place before (walk n place x).bodies) n_is
    ∙ ap (λ o. records_in place before (walk_on (λ p x. walk m p x) place x o).bodies) at
    ∙ ap (λ r. r >>= λ a. records_in (place + (5 + length body)) a (walk m (place + (5 + length body)) rest).bodies) is

pub records_end : (n place : ℕ) (entries : List Kept) (x : List ℕ) (whole : Result (List Kept) ℕ) → record_at x ≡ None → records_in place entries (walk n place x).bodies ≡ whole → whole ≡ Ok entries
records_end n place entries x whole none was = sym was ∙ ap (λ (w : Walk). records_in place entries w.bodies) (walk_none n place x none)

pub records_zero : (n place : ℕ) (entries : List Kept) (x : List ℕ) (whole : Result (List Kept) ℕ) → n ≡ 0 → records_in place entries (walk n place x).bodies ≡ whole → whole ≡ Ok entries
records_zero n place entries x whole none was = sym was ∙ ap (λ n. records_in place entries (walk n place x).bodies) none

-- Entries, one behind another.
use Rattle.std.proofs.Common.{◌≡◌, ℕ, List, Bool, Option, Some, None, Result, Ok, sym, ap, ◌∙◌}
use Rattle.cbor_core.specs.Spots.{Standing, spots_of, first_of}
use Rattle.cbor_core.proofs.SpotLaws.{spots_first}
use Rattle.voucher_map.specs.declared.kept.Kept.{Kept}
use Rattle.voucher_store.specs.Read.{◌>>=◌, Blames}
use Rattle.voucher_store.specs.Snapshot.{one_more, entries_from}
use Rattle.voucher_store.specs.declared.fault.ImageFault.{ImageFault}
use Rattle.voucher_store.specs.declared.fault.ImageFault.TheVariants as image

-- an entry more
pub entries_more : (old : Bool) (before after : List Kept) (next later : Option Standing) (p : Standing) (whole : Result (List Kept) ℕ)
    → entries_from old before (spots_of next) ≡ whole → next ≡ Some p → one_more old before p.spot ≡ Ok after → later ≡ first_of p.later → entries_from old after (spots_of later) ≡ whole
entries_more old before after next later p whole was is more later_is =
    ap (entries_from old after) (ap spots_of later_is ∙ spots_first p.later)
    ∙ sym (ap (λ r. r >>= λ m. entries_from old m p.later) more)
    ∙ sym (ap (λ n. entries_from old before (spots_of n)) is)
    ∙ was

pub entries_done : (old : Bool) (entries : List Kept) (next : Option Standing) (whole : Result (List Kept) ℕ) → entries_from old entries (spots_of next) ≡ whole → next ≡ None → whole ≡ Ok entries
entries_done old entries next whole was is = sym was ∙ ap (λ n. entries_from old entries (spots_of n)) is

pub entries_fail : (old : Bool) (before : List Kept) (next : Option Standing) (p : Standing) (whole : Result (List Kept) ℕ) (fault : ImageFault)
    → entries_from old before (spots_of next) ≡ whole → next ≡ Some p → Blames (one_more old before p.spot) fault → Blames whole fault
entries_fail old before next p whole image.NoMemory was is blames = tt
entries_fail old before next p whole (image.Foreign place) was is blames =
    sym was ∙ ap (λ n. entries_from old before (spots_of n)) is ∙ ap (λ r. r >>= λ m. entries_from old m p.later) blames

-- An item where levels are left.
use Rattle.std.proofs.Common.{◌≡◌, ℕ, zero, suc, ◌-◌, Bool, List, length, Ok, refl, arith}
use Rattle.cbor_core.specs.declared.head.Head.{Head}
use Rattle.cbor_core.specs.Reading.{head_at, item_in, item_at}
use Rattle.cbor_core.specs.Passing.{pass_in, pass_at}

pub item_deeper : (strict : Bool) (total levels place : ℕ) (bytes : List ℕ) (h : Head) (rest : List ℕ) → (levels ≡ 0 → ⊥) → place ≡ total - length bytes
    → head_at place bytes ≡ Ok (h, rest) → item_at strict total levels bytes ≡ item_in strict total (item_at strict total (levels - 1)) place h rest
unfolding item_at
item_deeper strict total zero place bytes h rest left e reads = absurd (left refl)
item_deeper strict total (suc levels) place bytes h rest left e reads =
    let inner : suc levels - 1 ≡ levels = omega arith in
    rw (inner, ← e, reads) refl

pub pass_deeper : (checked : Bool) (total levels place : ℕ) (bytes : List ℕ) (h : Head) (rest : List ℕ) → (levels ≡ 0 → ⊥) → place ≡ total - length bytes
    → head_at place bytes ≡ Ok (h, rest) → pass_at checked total levels bytes ≡ pass_in checked total (levels - 1) (pass_at checked total (levels - 1)) place h rest
unfolding pass_at
pass_deeper checked total zero place bytes h rest left e reads = absurd (left refl)
pass_deeper checked total (suc levels) place bytes h rest left e reads =
    let inner : suc levels - 1 ≡ levels = omega arith in
    rw (inner, ← e, reads) refl

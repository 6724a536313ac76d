-- The key of the last entry is the last owner's.
use Rattle.std.proofs.Common.{◌≡◌, ℕ, suc, ◌-◌, List, [], ◌∷◌, length, Some, ap, ◌∙◌, arith}
use Rattle.std.specs.List.{slice_get}
use Rattle.voucher_chain.specs.declared.entry.Entry.{Entry}
use Rattle.voucher_tool.specs.Received.{key_received, last_received}

pub last_is : (key : List ℕ) (es : List Entry) (e : Entry) → Some e ≡ slice_get es (length es - 1) → key_received e ≡ last_received key es
last_is key [] e is = let no = is in cc
last_is key (x ∷ []) e is = let same = is in cc
last_is key (x ∷ y ∷ es) e is =
    let place : length (x ∷ y ∷ es) - 1 ≡ suc (length (y ∷ es) - 1) = omega arith in
    last_is (key_received x) (y ∷ es) e (is ∙ ap (λ (n : ℕ). slice_get (x ∷ y ∷ es) n) place)

-- Zeros at the end of bytes that are written one by one.
use Rattle.std.proofs.Common.{◌≡◌, ℕ, ◌+◌, ◌-◌, ◌<◌, List, length, drop, replicate, slice_set, ap, sym, ◌∙◌, arith}
use Rattle.std.proofs.Math.Seq.{drop-drop}
use Rattle.std.proofs.lemmas.List.{drop-set-lt, drop-replicate}

pub zeros_more : (all : List ℕ) (size i byte : ℕ) → i < length all → drop i all ≡ replicate (size - i) 0 → drop (i + 1) (slice_set all i byte) ≡ replicate (size - (i + 1)) 0
zeros_more all size i byte within zeros =
    let kept : drop (i + 1) (slice_set all i byte) ≡ drop (i + 1) all = drop-set-lt (i + 1) all i byte (omega arith) in
    let rest : drop (i + 1) all ≡ replicate (size - i - 1) 0 = sym (drop-drop 1 i all) ∙ ap (drop 1) zeros ∙ drop-replicate 1 (size - i) 0 in
    let fewer : size - i - 1 ≡ size - (i + 1) = omega arith in
    kept ∙ rest ∙ ap (λ n. replicate n 0) fewer

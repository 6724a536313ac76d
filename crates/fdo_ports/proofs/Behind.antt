-- What is left behind the first bytes of a piece.
use Rattle.std.proofs.Common.{◌≡◌, ℕ, ◌+◌, ◌<◌, ◌≤◌, List, ◌∷◌, ◌++◌, min, Some, length, take, drop, get_or, suc, ap, sym, ◌∙◌, append_assoc, arith}
use Rattle.std.proofs.Math.Seq.{drop-cons, drop-drop, take-append_seam}
use Rattle.std.proofs.lemmas.List.{take-append-drop, length-take, length-append, length-drop}
use Rattle.std.specs.declared.alloc.Global.{Global}
use Rattle.std.specs.declared.vec.Vec.{Vec}
use Rattle.fdo_ports.specs.MemoryObjects.{behind, joined}
use Rattle.fdo_ports.specs.Told.{Gives}

-- a part of some bytes, one at least, is read from the front of what is left
pub gives_part : (left left' into into' part : List ℕ) (n : ℕ) → 0 < n → n ≤ length into → length part ≡ n → into' ≡ part ++ drop n into → left ≡ part ++ left' → Gives (Some left) (Some left') into' n
gives_part left left' into into' part n some fits long copied front =
    let whole : length into' ≡ length part + length (drop n into) = ap length copied ∙ length-append part (drop n into) in
    let same : take n into' ≡ part = ap (take n) copied ∙ ap (λ k. take k (part ++ drop n into)) (sym long) ∙ take-append_seam part (drop n into) in (
      omega (arith, whole, long),
      ap Some (front ∙ ap (λ p. p ++ left') (sym same)),
      λ none. let no : ⊥ = omega (arith, some, none) in absurd no,
    )

-- from bytes in a row
pub gives_rest : (content rest into into' : List ℕ) (given n : ℕ) → given < length content → rest ≡ drop given content → 0 < length into → n ≡ min (length into) (length rest) → into' ≡ take n rest ++ drop n into → Gives (Some (drop given content)) (Some (drop (given + n) content)) into' n
gives_rest content rest into into' given n within is_rest room count copied =
    let some : 0 < length rest = omega (arith, ap length is_rest, length-drop given content) in
    let long : length (take n rest) ≡ n = omega (arith, length-take n rest, count) in
    gives_part (drop given content) (drop (given + n) content) into into' (take n rest) n (omega (arith, count, some, room)) (omega (arith, count)) long copied
    (sym is_rest ∙ sym (take-append-drop n rest) ∙ ap (λ xs. take n rest ++ xs) (ap (drop n) is_rest ∙ drop-drop n given content))

-- the first piece's bytes, in two parts
piece_part : (piece : Vec ℕ Global) (pieces : List (Vec ℕ Global)) (at n : ℕ) → behind (piece ∷ pieces) at ≡ take n (drop at piece.items) ++ behind (piece ∷ pieces) (at + n)
piece_part piece pieces at n =
    ap (λ xs. xs ++ joined pieces) (sym (take-append-drop n (drop at piece.items)) ∙ ap (λ xs. take n (drop at piece.items) ++ xs) (drop-drop n at piece.items))
    ∙ append_assoc (take n (drop at piece.items)) (drop (at + n) piece.items) (joined pieces)

-- the pieces from a place on, in two parts
pieces_part : (pieces : List (Vec ℕ Global)) (piece : Vec ℕ Global) (i at n : ℕ) → i < length pieces → piece ≡ get_or pieces i piece → behind (drop i pieces) at ≡ take n (drop at piece.items) ++ behind (drop i pieces) (at + n)
pieces_part pieces piece i at n within is_piece =
    let apart : drop i pieces ≡ piece ∷ drop (suc i) pieces = drop-cons pieces i piece within ∙ ap (λ p. p ∷ drop (suc i) pieces) (sym is_piece) in
    ap (λ ps. behind ps at) apart ∙ piece_part piece (drop (suc i) pieces) at n ∙ ap (λ ps. take n (drop at piece.items) ++ behind ps (at + n)) (sym apart)

-- from a piece
pub gives_piece : (pieces : List (Vec ℕ Global)) (piece : Vec ℕ Global) (rest into into' left : List ℕ) (i at n : ℕ) → i < length pieces → piece ≡ get_or pieces i piece → at < length piece.items → rest ≡ drop at piece.items → 0 < length into → n ≡ min (length into) (length rest) → into' ≡ take n rest ++ drop n into → behind (drop i pieces) at ≡ left → Gives (Some left) (Some (behind (drop i pieces) (at + n))) into' n
gives_piece pieces piece rest into into' left i at n within is_piece some is_rest room count copied was =
    let more : 0 < length rest = omega (arith, ap length is_rest, length-drop at piece.items) in
    let long : length (take n rest) ≡ n = omega (arith, length-take n rest, count) in
    gives_part left (behind (drop i pieces) (at + n)) into into' (take n rest) n (omega (arith, count, more, room)) (omega (arith, count)) long copied
    (sym was ∙ pieces_part pieces piece i at n within is_piece ∙ ap (λ xs. take n xs ++ behind (drop i pieces) (at + n)) (sym is_rest))

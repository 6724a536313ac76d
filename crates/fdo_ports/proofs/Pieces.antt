-- Which pieces are left behind the first bytes of a piece.
use Rattle.std.proofs.Common.{◌≡◌, ℕ, ◌+◌, ◌<◌, List, [], ◌∷◌, min, length, drop, get_or, suc, refl, ap, sym, ◌∙◌, arith, subst}
use Rattle.std.proofs.Math.Seq.{drop-cons, drop-drop}
use Rattle.std.proofs.lemmas.List.{length-drop}
use Rattle.std.specs.declared.alloc.Global.{Global}
use Rattle.std.specs.declared.vec.Vec.{Vec}
use Rattle.fdo_ports.specs.MemoryObjects.{in_front, filled, filled_behind, TakesFront}

-- from the first piece
takes_front : (piece : List ℕ) (pieces : List (List ℕ)) (room n : ℕ) → 0 < length piece → n ≡ min room (length piece) → TakesFront (in_front piece pieces) room n (in_front (drop n piece) pieces)
takes_front [] pieces room n some count = let no : ⊥ = omega (arith, some) in absurd no
takes_front (byte ∷ piece) pieces room n some count = (count, refl)

-- from a piece
pub takes_piece : (pieces : List (Vec ℕ Global)) (piece : Vec ℕ Global) (rest : List ℕ) (before : List (List ℕ)) (i at room n : ℕ) → i < length pieces → piece ≡ get_or pieces i piece → at < length piece.items → rest ≡ drop at piece.items → n ≡ min room (length rest) → filled_behind (drop i pieces) at ≡ before → TakesFront before room n (filled_behind (drop i pieces) (at + n))
takes_piece pieces piece rest before i at room n within is_piece some is_rest count was =
    let apart : drop i pieces ≡ piece ∷ drop (suc i) pieces = drop-cons pieces i piece within ∙ ap (λ p. p ∷ drop (suc i) pieces) (sym is_piece) in
    let more : 0 < length (drop at piece.items) = omega (arith, some, length-drop at piece.items) in
    let first = takes_front (drop at piece.items) (filled (drop (suc i) pieces)) room n more (count ∙ ap (λ xs. min room (length xs)) is_rest) in
    let behind : in_front (drop n (drop at piece.items)) (filled (drop (suc i) pieces)) ≡ filled_behind (drop i pieces) (at + n) =
    ap (λ xs. in_front xs (filled (drop (suc i) pieces))) (drop-drop n at piece.items) ∙ ap (λ ps. filled_behind ps (at + n)) (sym apart) in
    subst (λ b. TakesFront b room n (filled_behind (drop i pieces) (at + n))) (ap (λ ps. filled_behind ps at) (sym apart) ∙ was)
    (subst (λ a. TakesFront (in_front (drop at piece.items) (filled (drop (suc i) pieces))) room n a) behind first)

-- Byte strings of an array, as far as they are read; and two chains compared.
use Rattle.std.proofs.Common.{◌≡◌, ℕ, Bool, ◌==◌, List, ◌++◌, Result, Ok, Err, refl}
use Rattle.std.specs.Bool.{Decides}
use Rattle.std.specs.Cmp.Lexicographic.{pointwise}
use Rattle.std.proofs.lemmas.Bool.Decides.{Decides-eqb}
use Rattle.std.proofs.lemmas.Slice.Eq.{slice_eq-Decides}
use Rattle.key_codec.specs.declared.fault.KeyFault.{KeyFault}

-- those read before, and the others
abbrev pub with_front : List (List ℕ) → Result (List (List ℕ)) KeyFault → Result (List (List ℕ)) KeyFault
with_front front (Ok bs) = Ok (front ++ bs)
with_front front (Err f) = Err f

abbrev pub bytes_same : List ℕ → List ℕ → Bool
bytes_same a b = pointwise ◌==◌ a b

pub chains_decided : (xs ys : List (List ℕ)) (r : Bool) → r ≡ pointwise bytes_same xs ys → Decides r (xs ≡ ys)
chains_decided xs ys r e = slice_eq-Decides {A = List ℕ} {E = bytes_same} (λ a b. slice_eq-Decides {A = ℕ} {E = ◌==◌} Decides-eqb a b (bytes_same a b) refl) xs ys r e

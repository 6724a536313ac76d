-- How what is told composes over several calls.
use Rattle.std.proofs.Common.{◌≡◌, ℕ, ◌+◌, ◌≤◌, List, [], ◌++◌, Option, None, Some, length, take, drop, refl, ap, sym, ◌∙◌, append_assoc}
use Rattle.std.proofs.lemmas.List.{append-nil, take_all}
use Rattle.std.proofs.Math.Seq.{take-add}
use Rattle.fdo_ports.specs.Told.{before}
use Rattle.port_base.specs.Told.{grown}

pub grown_nothing : {X : Type 0} (told : Option (List X)) → grown told [] ≡ told
grown_nothing None = refl
grown_nothing (Some xs) = ap Some (append-nil xs)

pub grown_twice : {X : Type 0} (told : Option (List X)) (more most : List X) → grown (grown told more) most ≡ grown told (more ++ most)
grown_twice None more most = refl
grown_twice (Some xs) more most = ap Some (append_assoc xs more most)

pub before_twice : (more most : List ℕ) (left : Option (List ℕ)) → before more (before most left) ≡ before (more ++ most) left
before_twice more most None = refl
before_twice more most (Some xs) = ap Some (sym (append_assoc more most xs))

-- one part after another
pub grown_part : (told told' told'' : Option (List ℕ)) (m n : ℕ) (xs : List ℕ) → told' ≡ grown told (take m xs) → told'' ≡ grown told' (take n (drop m xs)) → told'' ≡ grown told (take (m + n) xs)
grown_part told told' told'' m n xs first second =
    second ∙ ap (λ (t : Option (List ℕ)). grown t (take n (drop m xs))) first ∙ grown_twice told (take m xs) (take n (drop m xs)) ∙ ap (grown told) (sym (take-add m n xs))

-- all parts
pub grown_whole : (told told' : Option (List ℕ)) (m : ℕ) (xs : List ℕ) → told' ≡ grown told (take m xs) → length xs ≤ m → told' ≡ grown told xs
grown_whole told told' m xs parts all = parts ∙ ap (grown told) (take_all m xs all)

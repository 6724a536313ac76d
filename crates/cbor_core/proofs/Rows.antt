-- Spellings written one after the other.
use Rattle.std.proofs.Common.{◌≡◌, ℕ, ◌+◌, ◌<◌, List, [], ◌++◌, length, get_or, map, flat_map, take, sym, ap, ◌∙◌, append_assoc}
use Rattle.std.specs.List.{concat}
use Rattle.std.proofs.lemmas.List.{flat_map_more, take_more}
use Rattle.std.proofs.lemmas.List.Concat.{concat_is}
use Rattle.std.proofs.lemmas.List.Folds.{flat_map-map}

concat_map : {X : Type 0} (f : X → List ℕ) (xs : List X) → concat (map f xs) ≡ flat_map f xs
concat_map f xs = concat_is (map f xs) ∙ flat_map-map (λ x. x) f xs

pub concat_map_more : {X : Type 0} (f : X → List ℕ) (xs : List X) (i : ℕ) (d : X) → i < length xs
    → concat (map f (take (i + 1) xs)) ≡ concat (map f (take i xs)) ++ f (get_or xs i d)
concat_map_more f xs i d h = concat_map f (take (i + 1) xs) ∙ ap (flat_map f) (take_more xs i d h) ∙ sym (flat_map_more f [] (take i xs) (get_or xs i d))
    ∙ ap (λ t. t ++ f (get_or xs i d)) (sym (concat_map f (take i xs)))

-- one more item behind what a loop has written
pub spelled_more : {X : Type 0} (f : X → List ℕ) (xs : List X) (i : ℕ) (x : X) (a b out : List ℕ) → i < length xs → x ≡ get_or xs i x
    → out ≡ a ++ (b ++ concat (map f (take i xs))) → out ++ f x ≡ a ++ (b ++ concat (map f (take (i + 1) xs)))
spelled_more f xs i x a b out h e was =
    let more = concat_map_more f xs i x h ∙ ap (λ y. concat (map f (take i xs)) ++ f y) (sym e) in
    rw (was, more) (simp append_assoc)

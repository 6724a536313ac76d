-- The values of all, as far as they are read.
use Rattle.std.proofs.Common.{◌≡◌, List, [], ◌∷◌, ◌++◌, Option, Some, None, refl, ap, append_assoc}
use Rattle.service_info.specs.Devmod.{all_in}

-- those read before, and the others
abbrev pub with_front : {A : Type 0} → List A → Option (List A) → Option (List A)
with_front front (Some values) = Some (front ++ values)
with_front front None = None

-- one more
pub front_more : {X A : Type 0} (said : X → Option A) (front : List A) (x : X) (xs : List X) (value : A) → said x ≡ Some value
    → with_front (front ++ value ∷ []) (all_in said xs) ≡ with_front front (all_in said (x ∷ xs))
front_more {X} {A} said front x xs value e = go (all_in said xs) refl
  where
    go : (o : Option (List A)) → all_in said xs ≡ o → with_front (front ++ value ∷ []) (all_in said xs) ≡ with_front front (all_in said (x ∷ xs))
    go (Some values) is = rw (e, is) (ap Some (append_assoc front (value ∷ []) values))
    go None is = rw (e, is) refl

-- one is none
pub front_none : {X A : Type 0} (said : X → Option A) (front : List A) (x : X) (xs : List X) → said x ≡ None → with_front front (all_in said (x ∷ xs)) ≡ None
front_none said front x xs e = rw e refl

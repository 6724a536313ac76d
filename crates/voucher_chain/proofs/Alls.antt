-- The values of all, as far as they are read.
use Rattle.std.proofs.Common.{◌≡◌, List, [], ◌∷◌, ◌++◌, Option, Some, None, refl, sym, ap, ◌∙◌, append_assoc}
use Rattle.cbor_core.specs.Spots.{Spot, Standing, spots_of, first_of}
use Rattle.cbor_core.proofs.SpotLaws.{spots_first}
use Rattle.voucher_chain.specs.Fault.{all_in}

-- those read before, and the others
abbrev pub with_front : {A : Type 0} → List A → Option (List A) → Option (List A)
with_front front (Some values) = Some (front ++ values)
with_front front None = None

-- one more
pub front_more : {X A : Type 0} (said : X → Option A) (front : List A) (x : X) (xs : List X) (value : A) → said x ≡ Some value → with_front (front ++ value ∷ []) (all_in said xs) ≡ with_front front (all_in said (x ∷ xs))
front_more {X} {A} said front x xs value e = go (all_in said xs) refl
  where
    go : (o : Option (List A)) → all_in said xs ≡ o → with_front (front ++ value ∷ []) (all_in said xs) ≡ with_front front (all_in said (x ∷ xs))
    go (Some values) is = rw (e, is) (ap Some (append_assoc front (value ∷ []) values))
    go None is = rw (e, is) refl

-- one more of some places in a row
pub spots_more : {A : Type 0} (said : Spot → Option A) (front : List A) (next : Option Standing) (p : Standing) (value : A) (after : Option Standing) (whole : Option (List A)) → with_front front (all_in said (spots_of next)) ≡ whole → next ≡ Some p → Some value ≡ said p.spot
    → after ≡ first_of p.later → with_front (front ++ value ∷ []) (all_in said (spots_of after)) ≡ whole
spots_more said front next p value after whole e is said-is after-is =
    ap (λ (o : Option Standing). with_front (front ++ value ∷ []) (all_in said (spots_of o))) after-is
    ∙ ap (λ (ss : List Spot). with_front (front ++ value ∷ []) (all_in said ss)) (spots_first p.later)
    ∙ front_more said front p.spot p.later value (sym said-is)
    ∙ ap (λ (o : Option Standing). with_front front (all_in said (spots_of o))) (sym is)
    ∙ e

-- one is none
pub front_none : {X A : Type 0} (said : X → Option A) (front : List A) (x : X) (xs : List X) → said x ≡ None → with_front front (all_in said (x ∷ xs)) ≡ None
front_none said front x xs e = rw e refl

-- Keys' spellings as a set: what is asked of the set is asked of the keys.
use Rattle.std.proofs.Common.{◌≡◌, ℕ, Bool, true, false, ◌||◌, List, [], ◌∷◌, ◌++◌, Ordering, Less, Equal, Greater, All, refl, sym, ap, ◌∙◌}
use Rattle.std.specs.Prelude.{fold}
use Rattle.std.specs.List.{list_any}
use Rattle.std.specs.Ordering.{nat_cmp, is_eq, is_lt, is_gt, ordering_reverse, match_ordering}
use Rattle.std.specs.Cmp.{Equal-is}
use Rattle.std.specs.Cmp.Lexicographic.{slice_cmp}
use Rattle.std.specs.BTreeSet.{insert_key}
use Rattle.std.proofs.lemmas.Cmp.{nat_list_cmp_total, upto, alike_right}
use Rattle.std.proofs.lemmas.List.{map-append}
use Rattle.std.proofs.lemmas.List.Folds.{list_any_none}
use Rattle.std.proofs.lemmas.List.Elements.{All-weaker}
use Rattle.std.proofs.lemmas.Map.Lookups.{exact_bytes}
use Rattle.cbor_core.specs.declared.item.Item.{Item}
use Rattle.cbor_core.specs.Deterministic.{det}
use Rattle.cbor_core.specs.Keys.{key_set}
use Rattle.cbor_core.specs.Reading.{admitted, key_spellings}

abbrev bytewise : List ℕ → List ℕ → Ordering
bytewise = slice_cmp nat_cmp

abbrev any_of : (List ℕ → Bool) → List (List ℕ) → Bool
any_of p keys = list_any p keys

turned : (r : Ordering) → is_lt (ordering_reverse r) ≡ is_gt r
turned Less = refl
turned Equal = refl
turned Greater = refl

pub lt_is_gt : (a b : List ℕ) → is_lt (bytewise a b) ≡ is_gt (bytewise b a)
lt_is_gt a b = ap is_lt (nat_list_cmp_total.antisymm a b) ∙ turned (bytewise b a)

pub not_below : (k last q : List ℕ) → is_lt (bytewise k last) ≡ false → is_lt (bytewise last q) ≡ false → is_lt (bytewise k q) ≡ false
not_below k last q a b = lt_is_gt k q ∙ upto nat_list_cmp_total q last k (sym (lt_is_gt last q) ∙ b) (sym (lt_is_gt k last) ∙ a)

or_false : (b : Bool) → b ≡ (b || false)
or_false true = refl
or_false false = refl

or_swap : (a b c : Bool) → (a || (b || c)) ≡ ((b || c) || a)
or_swap true true c = refl
or_swap true false true = refl
or_swap true false false = refl
or_swap false b c = or_false (b || c)

or_same : (b c : Bool) → (b || c) ≡ ((b || c) || b)
or_same true c = refl
or_same false c = or_false c

or_assoc : (a b c : Bool) → (a || (b || c)) ≡ ((a || b) || c)
or_assoc true b c = refl
or_assoc false b c = refl

any_also : (p r : List ℕ → Bool) → ((q : List ℕ) → r q ≡ true → p q ≡ true) → (keys : List (List ℕ)) → any_of r keys ≡ true → any_of p keys ≡ true
any_also p r f [] e = absurd cc
any_also p r f (x ∷ xs) e = go (any_also p r f xs) (r x) refl e
  where
    kept : (b : Bool) → (b || true) ≡ true
    kept true = refl
    kept false = refl

    go : (any_of r xs ≡ true → any_of p xs ≡ true) → (b : Bool) → r x ≡ b → (b || any_of r xs) ≡ true → (p x || any_of p xs) ≡ true
    go more true h e = ap (λ b. b || any_of p xs) (f x h)
    go more false h e = ap (λ b. p x || b) (more e) ∙ kept (p x)

-- a key is below one of the keys exactly if it is below the last of them
pub passed : (k last : List ℕ) (keys : List (List ℕ)) → All (λ q. is_lt (slice_cmp nat_cmp last q) ≡ false) keys → list_any (λ q. is_eq (slice_cmp nat_cmp last q)) keys ≡ true
    → is_lt (slice_cmp nat_cmp k last) ≡ list_any (λ q. is_lt (slice_cmp nat_cmp k q)) keys
passed k last keys all member = go (is_lt (bytewise k last)) refl
  where
    go : (b : Bool) → is_lt (bytewise k last) ≡ b → b ≡ any_of (λ q. is_lt (bytewise k q)) keys
    go true e = sym (any_also (λ q. is_lt (bytewise k q)) (λ q. is_eq (bytewise last q)) (λ q h. ap is_lt (sym (alike_right nat_list_cmp_total last q k ((Equal-is (bytewise last q)).0 h))) ∙ e) keys member)
    go false e = sym (list_any_none (λ q. is_lt (bytewise k q)) keys (All-weaker (λ q. is_lt (bytewise last q) ≡ false) (λ q. is_lt (bytewise k q) ≡ false) (λ q h. not_below k last q e h) keys all))

insert_any : (p : List ℕ → Bool) (keys : List (List ℕ)) (k : List ℕ) → any_of p (insert_key (slice_cmp nat_cmp) keys k) ≡ (any_of p keys || p k)
insert_any p [] k = sym (or_false (p k))
insert_any p (x ∷ xs) k = go (insert_any p xs k) (bytewise k x) refl
  where
    go : any_of p (insert_key (slice_cmp nat_cmp) xs k) ≡ (any_of p xs || p k) → (r : Ordering) → bytewise k x ≡ r → any_of p (match_ordering r (k ∷ x ∷ xs) (x ∷ xs) (x ∷ insert_key (slice_cmp nat_cmp) xs k)) ≡ ((p x || any_of p xs) || p k)
    go more Less e = or_swap (p k) (p x) (any_of p xs)
    go more Equal e = or_same (p x) (any_of p xs) ∙ ap (λ y. (p x || any_of p xs) || p y) (sym (exact_bytes k x e))
    go more Greater e = ap (λ b. p x || b) more ∙ or_assoc (p x) (any_of p xs) (p k)

inserted_any : (p : List ℕ → Bool) (set keys : List (List ℕ)) → any_of p (fold (insert_key (slice_cmp nat_cmp)) set keys) ≡ (any_of p set || any_of p keys)
inserted_any p set [] = or_false (any_of p set)
inserted_any p set (k ∷ ks) = inserted_any p (insert_key (slice_cmp nat_cmp) set k) ks ∙ ap (λ b. b || any_of p ks) (insert_any p set k) ∙ sym (or_assoc (any_of p set) (p k) (any_of p ks))

pub set_any : (p : List ℕ → Bool) (keys : List (List ℕ)) → list_any p (key_set keys) ≡ list_any p keys
set_any p keys = inserted_any p [] keys

pub admitted_by_set : (strict : Bool) (place : ℕ) (keys : List (List ℕ)) (k : List ℕ) → admitted strict place (key_set keys) k ≡ admitted strict place keys k
admitted_by_set strict place keys k = rw (set_any (λ q. is_eq (slice_cmp nat_cmp k q)) keys, set_any (λ q. is_lt (slice_cmp nat_cmp k q)) keys) refl

pub set_push : (set keys : List (List ℕ)) (k : List ℕ) → fold (insert_key (slice_cmp nat_cmp)) set (keys ++ k ∷ []) ≡ insert_key (slice_cmp nat_cmp) (fold (insert_key (slice_cmp nat_cmp)) set keys) k
set_push set [] k = refl
set_push set (q ∷ qs) k = set_push (insert_key (slice_cmp nat_cmp) set q) qs k

-- one more pair puts its key into the set
pub key_set_push : (front : List (Item × Item)) (key value : Item) → key_set (key_spellings (front ++ (key, value) ∷ [])) ≡ insert_key (slice_cmp nat_cmp) (key_set (key_spellings front)) (det key)
key_set_push front key value = ap key_set (map-append (λ (p : Item × Item). det p.0) front ((key, value) ∷ [])) ∙ set_push [] (key_spellings front) (det key)

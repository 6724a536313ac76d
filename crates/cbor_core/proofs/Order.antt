-- Entries in the order of their keys.
use Rattle.std.proofs.Common.{◌≡◌, ℕ, suc, ◌+◌, ◌≤◌, Bool, true, false, ◌||◌, List, [], ◌∷◌, ◌++◌, map, length, Ordering, Less, Equal, Greater, refl, ap, subst, ◌∙◌, arith}
use Rattle.std.specs.Prelude.{fold}
use Rattle.std.specs.List.{AllByRecursion}
use Rattle.std.specs.Ordering.{nat_cmp, is_eq, is_lt, ordering_reverse, match_ordering}
use Rattle.std.specs.Cmp.Lexicographic.{slice_cmp}
use Rattle.std.specs.BTreeMap.{insert_entry}
use Rattle.std.proofs.lemmas.Cmp.{nat_list_cmp_total}
use Rattle.std.proofs.lemmas.Map.Lookups.{exact_bytes}
use Rattle.cbor_core.specs.Reading.{is_among, is_below_one}

abbrev pub bytewise : List ℕ → List ℕ → Ordering
bytewise = slice_cmp nat_cmp

greater : (r : Ordering) → is_eq r ≡ false → is_lt r ≡ false → r ≡ Greater
greater Less a b = absurd cc
greater Equal a b = absurd cc
greater Greater a b = refl

or_left : (a b : Bool) → (a || b) ≡ false → a ≡ false
or_left true b e = e
or_left false b e = refl

or_right : (a b : Bool) → (a || b) ≡ false → b ≡ false
or_right true b e = absurd cc
or_right false b e = e

-- ---- a key against others

-- a key is above each of some
abbrev pub IsAbove : List ℕ → List (List ℕ) → Type 0
IsAbove k keys = AllByRecursion (λ q. slice_cmp nat_cmp k q ≡ Greater) keys

pub above_from : (k : List ℕ) (keys : List (List ℕ)) → is_among keys k ≡ false → is_below_one keys k ≡ false → IsAbove k keys
above_from k [] a b = tt
above_from k (q ∷ qs) a b = (
  greater (bytewise k q) (or_left (is_eq (bytewise k q)) (is_among qs k) a) (or_left (is_lt (bytewise k q)) (is_below_one qs k) b),
  above_from k qs (or_right (is_eq (bytewise k q)) (is_among qs k) a) (or_right (is_lt (bytewise k q)) (is_below_one qs k) b),
)

pub above_fresh : (k : List ℕ) (keys : List (List ℕ)) → IsAbove k keys → is_among keys k ≡ false
above_fresh k [] h = refl
above_fresh k (q ∷ qs) h = rw (h.0, above_fresh k qs h.1) refl

pub above_ascends : (k : List ℕ) (keys : List (List ℕ)) → IsAbove k keys → is_below_one keys k ≡ false
above_ascends k [] h = refl
above_ascends k (q ∷ qs) h = rw (h.0, above_ascends k qs h.1) refl

pub above_push : (k : List ℕ) (keys : List (List ℕ)) (q : List ℕ) → IsAbove k keys → bytewise k q ≡ Greater → IsAbove k (keys ++ q ∷ [])
above_push k [] q h e = (e, tt)
above_push k (p ∷ ps) q h e = (h.0, above_push k ps q h.1 e)

pub less_greater : (a b : List ℕ) → bytewise a b ≡ Less → bytewise b a ≡ Greater
less_greater a b e = nat_list_cmp_total.antisymm b a ∙ ap ordering_reverse e

pub greater_less : (a b : List ℕ) → bytewise a b ≡ Greater → bytewise b a ≡ Less
greater_less a b e = nat_list_cmp_total.antisymm b a ∙ ap ordering_reverse e

module _ {X : Type 0} where
  abbrev pub keys_in : List (List ℕ × X) → List (List ℕ)
  keys_in es = map (λ e. e.0) es

  -- entries whose keys ascend
  abbrev pub IsBelowAll : List ℕ → List (List ℕ × X) → Type 0
  IsBelowAll k es = AllByRecursion (λ e. slice_cmp nat_cmp k e.0 ≡ Less) es

  abbrev pub Ascends : List (List ℕ × X) → Type 0
  Ascends [] = Unit {0}
  Ascends (e ∷ es) = IsBelowAll e.0 es × Ascends es

  abbrev pub put : List (List ℕ × X) → List ℕ × X → List (List ℕ × X)
  put es p = insert_entry (slice_cmp nat_cmp) es p.0 p.1

  pub put_end : (es : List (List ℕ × X)) (p : List ℕ × X) → IsAbove p.0 (keys_in es) → put es p ≡ es ++ p ∷ []
  put_end [] p h = refl
  put_end (e ∷ es) p h = rw h.0 (ap (λ t. e ∷ t) (put_end es p h.1))

  below_more : (j k : List ℕ) (es : List (List ℕ × X)) → bytewise j k ≡ Less → IsBelowAll k es → IsBelowAll j es
  below_more j k [] e h = tt
  below_more j k (x ∷ es) e h = (nat_list_cmp_total.trans j k x.0 e h.0, below_more j k es e h.1)

  below_put : (j : List ℕ) (es : List (List ℕ × X)) (p : List ℕ × X) → IsBelowAll j es → bytewise j p.0 ≡ Less → IsBelowAll j (put es p)
  below_put j [] p h e = (e, tt)
  below_put j (x ∷ es) p h e = go (below_put j es p h.1 e) (bytewise p.0 x.0)
    where
      go : IsBelowAll j (put es p) → (r : Ordering) → IsBelowAll j (match_ordering r (p ∷ x ∷ es) ((x.0, p.1) ∷ es) (x ∷ put es p))
      go more Less = (e, h)
      go more Equal = (h.0, h.1)
      go more Greater = (h.0, more)

  ascends_put : (es : List (List ℕ × X)) (p : List ℕ × X) → Ascends es → Ascends (put es p)
  ascends_put [] p h = (tt, tt)
  ascends_put (x ∷ es) p h = go (ascends_put es p h.1) (bytewise p.0 x.0) refl
    where
      go : Ascends (put es p) → (r : Ordering) → bytewise p.0 x.0 ≡ r → Ascends (match_ordering r (p ∷ x ∷ es) ((x.0, p.1) ∷ es) (x ∷ put es p))
      go more Less e = ((e, below_more p.0 x.0 es e h.0), h)
      go more Equal e = (h.0, h.1)
      go more Greater e = (below_put x.0 es p h.0 (greater_less p.0 x.0 e), more)

  pub ascends_all : (es ps : List (List ℕ × X)) → Ascends es → Ascends (fold put es ps)
  ascends_all es [] h = h
  ascends_all es (p ∷ ps) h = ascends_all (put es p) ps (ascends_put es p h)

  -- what holds of each entry
  module _ (P : List ℕ × X → Type 0) where
    each_put : (es : List (List ℕ × X)) (p : List ℕ × X) → AllByRecursion P es → P p → AllByRecursion P (put es p)
    each_put [] p h e = (e, tt)
    each_put (x ∷ es) p h e = go (each_put es p h.1 e) (bytewise p.0 x.0) refl
      where
        go : AllByRecursion P (put es p) → (r : Ordering) → bytewise p.0 x.0 ≡ r → AllByRecursion P (match_ordering r (p ∷ x ∷ es) ((x.0, p.1) ∷ es) (x ∷ put es p))
        go more Less is = (e, h)
        go more Equal is = (subst (λ (k : List ℕ). P (k, p.1)) (exact_bytes p.0 x.0 is) e, h.1)
        go more Greater is = (h.0, more)

    pub each_in_order : (es ps : List (List ℕ × X)) → AllByRecursion P es → AllByRecursion P ps → AllByRecursion P (fold put es ps)
    each_in_order es [] h k = h
    each_in_order es (p ∷ ps) h k = each_in_order (put es p) ps (each_put es p h k.0) k.1

  length_put : (es : List (List ℕ × X)) (p : List ℕ × X) → length (put es p) ≤ suc (length es)
  length_put [] p = omega arith
  length_put (x ∷ es) p = go (length_put es p) (bytewise p.0 x.0)
    where
      go : length (put es p) ≤ suc (length es) → (r : Ordering) → length (match_ordering r (p ∷ x ∷ es) ((x.0, p.1) ∷ es) (x ∷ put es p)) ≤ suc (suc (length es))
      go more Less = omega arith
      go more Equal = omega arith
      go more Greater = omega arith

  pub length_in_order : (es ps : List (List ℕ × X)) → length (fold put es ps) ≤ length es + length ps
  length_in_order es [] = omega arith
  length_in_order es (p ∷ ps) = omega (arith, length_in_order (put es p) ps, length_put es p)

-- the order depends on the keys alone
module _ {X Y : Type 0} (g : X → Y) where
  abbrev pub along : List ℕ × X → List ℕ × Y
  along e = (e.0, g e.1)

  map_put : (es : List (List ℕ × X)) (p : List ℕ × X) → map along (put es p) ≡ put (map along es) (along p)
  map_put [] p = refl
  map_put (x ∷ es) p = go (map_put es p) (bytewise p.0 x.0)
    where
      go : map along (put es p) ≡ put (map along es) (along p) → (r : Ordering)
          → map along (match_ordering r (p ∷ x ∷ es) ((x.0, p.1) ∷ es) (x ∷ put es p)) ≡ match_ordering r (along p ∷ along x ∷ map along es) ((x.0, g p.1) ∷ map along es) (along x ∷ put (map along es) (along p))
      go more Less = refl
      go more Equal = refl
      go more Greater = ap (λ t. along x ∷ t) more

  pub map_in_order : (es ps : List (List ℕ × X)) → map along (fold put es ps) ≡ fold put (map along es) (map along ps)
  map_in_order es [] = refl
  map_in_order es (p ∷ ps) = map_in_order (put es p) ps ∙ ap (λ t. fold put t (map along ps)) (map_put es p)

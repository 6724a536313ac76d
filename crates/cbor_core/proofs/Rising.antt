-- Keys that rise: the next is compared with the last alone.
use Rattle.std.proofs.Common.{◌≡◌, ℕ, ◌+◌, ◌<◌, ◌≤◌, Bool, true, false, List, [], ◌∷◌, ◌++◌, length, get_or, map, take, drop, Ordering, Less, Equal, Greater, Ok, refl, sym, ap, subst, ◌∙◌, arith}
use Rattle.std.specs.Ordering.{nat_cmp, is_lt, ordering_reverse}
use Rattle.std.specs.Cmp.Lexicographic.{slice_cmp}
use Rattle.std.proofs.lemmas.Cmp.{nat_list_cmp_total}
use Rattle.std.proofs.lemmas.List.{take_more, map-append, length-take, take-append-le, drop_at}
use Rattle.std.proofs.lemmas.List.Sums.{fold-append}
use Rattle.std.proofs.lemmas.Map.Lookups.{exact_bytes}
use Rattle.cbor_core.specs.declared.item.Item.{Item}
use Rattle.cbor_core.specs.Deterministic.{det, in_key_order}
use Rattle.cbor_core.specs.Keys.{IsTop}
use Rattle.cbor_core.specs.Reading.{admitted, key_spellings}
use Rattle.cbor_core.proofs.Dets.{det_pair}
use Rattle.cbor_core.proofs.Order.{bytewise, keys_in, put, put_end, IsAbove, above_fresh, above_ascends, less_greater, greater_less}

is_less : (r : Ordering) → is_lt r ≡ true → r ≡ Less
is_less Less e = refl
is_less Equal e = absurd cc
is_less Greater e = absurd cc

not_less : (r : Ordering) → r ≡ ordering_reverse r → is_lt r ≡ false
not_less Less e = absurd cc
not_less Equal e = refl
not_less Greater e = refl

-- a key that is above the last, where the last is not below q
above_one : (last text q : List ℕ) → bytewise last text ≡ Less → is_lt (bytewise last q) ≡ false → bytewise text q ≡ Greater
above_one last text q up top = go (bytewise last q) refl top
  where
    go : (r : Ordering) → bytewise last q ≡ r → is_lt r ≡ false → bytewise text q ≡ Greater
    go Less e t = absurd cc
    go Equal e t = subst (λ (p : List ℕ). bytewise text p ≡ Greater) (exact_bytes last q e) (less_greater last text up)
    go Greater e t = less_greater q text (nat_list_cmp_total.trans q last text (greater_less last q e) up)

above_all : (last text : List ℕ) (keys : List (List ℕ)) → bytewise last text ≡ Less → IsTop last keys → IsAbove text keys
above_all last text [] up top = tt
above_all last text (q ∷ qs) up top = (above_one last text q up top.0, above_all last text qs up top.1)

pub top_admits : (strict : Bool) (place : ℕ) (last text : List ℕ) (keys : List (List ℕ)) → IsTop last keys → is_lt (slice_cmp nat_cmp last text) ≡ true → admitted strict place keys text ≡ Ok tt
top_admits strict place last text keys top up = go strict (above_all last text keys (is_less (bytewise last text) up) top)
  where
    go : (strict : Bool) → IsAbove text keys → admitted strict place keys text ≡ Ok tt
    go true above = rw (above_fresh text keys above, above_ascends text keys above) refl
    go false above = rw (above_fresh text keys above) refl

top_push : (text : List ℕ) (keys : List (List ℕ)) → IsAbove text keys → IsTop text (keys ++ text ∷ [])
top_push text [] above = (not_less (bytewise text text) (nat_list_cmp_total.antisymm text text), tt)
top_push text (q ∷ qs) above = (ap is_lt above.0, top_push text qs above.1)

pub top_more : (last text : List ℕ) (keys : List (List ℕ)) → IsTop last keys → is_lt (slice_cmp nat_cmp last text) ≡ true → IsTop text (keys ++ text ∷ [])
top_more last text keys top up = top_push text keys (above_all last text keys (is_less (bytewise last text) up) top)

-- ---- keys that are written one after the other

keys_more : (pairs : List (Item × Item)) (i : ℕ) (p : Item × Item) → i < length pairs → p ≡ get_or pairs i p → key_spellings (take (i + 1) pairs) ≡ key_spellings (take i pairs) ++ det p.0 ∷ []
keys_more pairs i p h e = ap key_spellings (take_more pairs i p h) ∙ map-append (λ (q : Item × Item). det q.0) (take i pairs) (get_or pairs i p ∷ [])
    ∙ ap (λ (q : Item × Item). key_spellings (take i pairs) ++ det q.0 ∷ []) (sym e)

spelled_more : (pairs : List (Item × Item)) (i : ℕ) (p : Item × Item) → i < length pairs → p ≡ get_or pairs i p → map det_pair (take (i + 1) pairs) ≡ map det_pair (take i pairs) ++ det_pair p ∷ []
spelled_more pairs i p h e = ap (map det_pair) (take_more pairs i p h) ∙ map-append det_pair (take i pairs) (get_or pairs i p ∷ [])
    ∙ ap (λ (q : Item × Item). map det_pair (take i pairs) ++ det_pair q ∷ []) (sym e)

keys_of : (pairs : List (Item × Item)) → key_spellings pairs ≡ keys_in (map det_pair pairs)
keys_of [] = refl
keys_of (p ∷ ps) = ap (λ t. det p.0 ∷ t) (keys_of ps)

pub front_more : (old out more : List ℕ) → take (length old) out ≡ old → take (length old) (out ++ more) ≡ old
front_more old out more e =
    let enough : length old ≤ length out = omega (arith, ap length e, length-take (length old) out) in
    take-append-le (length old) out more enough ∙ e

pub top_written : (pairs : List (Item × Item)) (i mark end : ℕ) (p : Item × Item) (out whole : List ℕ) → end ≡ length out → whole ≡ out ++ det p.0 → i < length pairs → p ≡ get_or pairs i p
    → is_lt (slice_cmp nat_cmp (drop mark out) (det p.0)) ≡ true → IsTop (drop mark out) (key_spellings (take i pairs)) → IsTop (drop end whole) (key_spellings (take (i + 1) pairs))
top_written pairs i mark end p out whole here text h e up top =
    let last : drop end whole ≡ det p.0 = ap (drop end) text ∙ drop_at out (det p.0) end (sym here) in
    rw (keys_more pairs i p h e, last) (top_more (drop mark out) (det p.0) (key_spellings (take i pairs)) top up)

pub order_written : (pairs : List (Item × Item)) (i mark : ℕ) (p : Item × Item) (out : List ℕ) → i < length pairs → p ≡ get_or pairs i p
    → is_lt (slice_cmp nat_cmp (drop mark out) (det p.0)) ≡ true → IsTop (drop mark out) (key_spellings (take i pairs))
    → in_key_order (map det_pair (take i pairs)) ≡ map det_pair (take i pairs) → in_key_order (map det_pair (take (i + 1) pairs)) ≡ map det_pair (take (i + 1) pairs)
order_written pairs i mark p out h e up top was =
    let above : IsAbove (det p.0) (keys_in (map det_pair (take i pairs))) = subst (IsAbove (det p.0)) (keys_of (take i pairs)) (above_all (drop mark out) (det p.0) (key_spellings (take i pairs)) (is_less (bytewise (drop mark out) (det p.0)) up) top) in
    ap in_key_order (spelled_more pairs i p h e) ∙ fold-append put [] (map det_pair (take i pairs)) (det_pair p ∷ []) ∙ ap (λ t. put t (det_pair p)) was
    ∙ put_end (map det_pair (take i pairs)) (det_pair p) above ∙ sym (spelled_more pairs i p h e)

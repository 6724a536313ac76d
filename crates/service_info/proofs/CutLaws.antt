-- The list that is cut from the front of pairs.
use Rattle.std.proofs.Common.{◌≡◌, ◌≢◌, ℕ, suc, ◌+◌, ◌-◌, ◌<◌, ◌≤◌, List, [], ◌∷◌, ◌++◌, length, take, drop, reverse, Bool, true, false, Some, None, zero, inl, inr, refl, sym, ap, subst, ◌∙◌, arith}
use Rattle.std.proofs.lemmas.Bool.{lt-ltb, ltb-true, ltb-false}
use Rattle.std.proofs.lemmas.List.{length-take, length-drop, length-reverse, reverse-append, take-append-drop, take_all, drop_all}
use Rattle.std.proofs.lemmas.List.Folds.{list_any-append}
use Rattle.std.proofs.lemmas.List.Sums.{sum_by-cons, prefix_len-le-length}
use Rattle.std.proofs.Math.Seq.{take-append_seam, drop-append_seam}
use Rattle.std.specs.Prelude.{nat_lt, position, not, ◌||◌, ◌⊎◌, cond}
use Rattle.std.specs.List.{sum_by, list_any, prefix_len, position_or_len}
use Rattle.service_info.specs.declared.pair.Pair.{Pair}
use Rattle.service_info.specs.Packed.{IsCut, Packed, BeginsPacked, is_too_wide}
use Rattle.service_info.specs.Pairs.{pair_length, length_of, Fits}
use Rattle.service_info.proofs.PackLaws.{length_of_front, head_grows}

-- ---- what stands at the end of a reversed list

apart : (xs : List Pair) (n : ℕ) → reverse xs ≡ reverse (drop (length xs - n) xs) ++ reverse (take (length xs - n) xs)
apart xs n = ap reverse (sym (take-append-drop (length xs - n) xs)) ∙ reverse-append (take (length xs - n) xs) (drop (length xs - n) xs)

end_length : (xs : List Pair) (n : ℕ) → n ≤ length xs → length (reverse (drop (length xs - n) xs)) ≡ n
end_length xs n h = length-reverse (drop (length xs - n) xs) ∙ length-drop (length xs - n) xs ∙ omega arith

pub front_reversed : (xs : List Pair) (n : ℕ) → n ≤ length xs → reverse (drop (length xs - n) xs) ≡ take n (reverse xs)
front_reversed xs n h =
    let e = reverse (drop (length xs - n) xs) in let s = reverse (take (length xs - n) xs) in
    sym (take-append_seam e s) ∙ ap (λ k. take k (e ++ s)) (end_length xs n h) ∙ ap (take n) (sym (apart xs n))

pub rest_reversed : (xs : List Pair) (n : ℕ) → n ≤ length xs → reverse (take (length xs - n) xs) ≡ drop n (reverse xs)
rest_reversed xs n h =
    let e = reverse (drop (length xs - n) xs) in let s = reverse (take (length xs - n) xs) in
    sym (drop-append_seam e s) ∙ ap (λ k. drop k (e ++ s)) (end_length xs n h) ∙ ap (drop n) (sym (apart xs n))

-- ---- longer fronts take more bytes

sums_grow : (xs : List Pair) (m n : ℕ) → m ≤ n → sum_by pair_length (take m xs) ≤ sum_by pair_length (take n xs)
sums_grow [] m n h = subst (λ l. sum_by pair_length l ≤ sum_by pair_length (take n [])) (sym (take_all m [] (omega arith))) (omega arith)
sums_grow (x ∷ xs) zero n h = omega arith
sums_grow (x ∷ xs) (suc m) zero h = let no : ⊥ = omega (arith, h) in absurd no
sums_grow (x ∷ xs) (suc m) (suc n) h =
    omega (arith, sums_grow xs m n (omega (arith, h)), sum_by-cons pair_length x (take m xs), sum_by-cons pair_length x (take n xs))

front_grows : (xs : List Pair) (m n : ℕ) → m ≤ n → n ≤ length xs → length_of (take m xs) ≤ length_of (take n xs)
front_grows xs m n h within =
    omega (arith, length_of_front xs m (omega arith), length_of_front xs n within, head_grows m n h, sums_grow xs m n h)

-- ---- pairs that have room alone

absent : (b : Bool) (i : ℕ) → cond b (Some i) None ≡ None → b ≡ false
absent true i h = let no = h in cc
absent false i h = refl

left_false : (a b : Bool) → (a || b) ≡ false → a ≡ false
left_false true b h = h
left_false false b h = refl

swapped : (a b : Bool) → (a || (b || false)) ≡ (b || a)
swapped true true = refl
swapped true false = refl
swapped false true = refl
swapped false false = refl

module _ (p : Pair → Bool) where
  none_passes : (xs : List Pair) → prefix_len (λ x. not (p x)) xs ≡ length xs → list_any p xs ≡ false
  none_passes [] h = refl
  none_passes (x ∷ xs) h = step (p x) (none_passes xs) h where
    step : (b : Bool) → (prefix_len (λ y. not (p y)) xs ≡ length xs → list_any p xs ≡ false)
        → cond (not b) (1 + prefix_len (λ y. not (p y)) xs) 0 ≡ suc (length xs) → (b || list_any p xs) ≡ false
    step true others e = let no : ⊥ = omega (arith, e) in absurd no
    step false others e = others (omega (arith, e))

  pub none_at : (xs : List Pair) → position p xs ≡ None → list_any p xs ≡ false
  none_at xs h =
      let all = ltb-false (position_or_len p xs) (length xs) (absent (nat_lt (position_or_len p xs) (length xs)) (position_or_len p xs) h) in
      none_passes xs (omega (arith, all, prefix_len-le-length (λ x. not (p x)) xs))

  pub any_reversed : (xs : List Pair) → list_any p (reverse xs) ≡ list_any p xs
  any_reversed [] = refl
  any_reversed (x ∷ xs) =
      ap (list_any p) (reverse-append (x ∷ []) xs) ∙ list_any-append p (reverse xs) (x ∷ [])
      ∙ swapped (list_any p (reverse xs)) (p x) ∙ ap (λ b. p x || b) (any_reversed xs)

  pub any_front : (xs : List Pair) (n : ℕ) → list_any p xs ≡ false → list_any p (take n xs) ≡ false
  any_front xs n h =
      left_false (list_any p (take n xs)) (list_any p (drop n xs))
      (sym (list_any-append p (take n xs) (drop n xs)) ∙ ap (list_any p) (take-append-drop n xs) ∙ h)

-- ---- the cut

at_most : (m n : ℕ) → (m ≤ n) ⊎ (n < m)
at_most m n = by (nat_lt n m) refl where
  by : (b : Bool) → nat_lt n m ≡ b → (m ≤ n) ⊎ (n < m)
  by true h = inr (ltb-true n m h)
  by false h = inl (ltb-false n m h)

module _ (size n : ℕ) where
  some_cut : (p : Pair) (ps : List Pair) → list_any (is_too_wide size) (p ∷ ps) ≡ false
      → (n < length (p ∷ ps) → size < length_of (take (n + 1) (p ∷ ps))) → n ≢ 0
  some_cut p ps alone passes none =
      let wide = subst (λ k. k < length (p ∷ ps) → size < length_of (take (k + 1) (p ∷ ps))) none passes (omega arith) in
      let no : true ≡ false = sym (lt-ltb size (length_of (p ∷ [])) wide) ∙ left_false (is_too_wide size p) (list_any (is_too_wide size) ps) alone in cc

  longest_cut : (left : List Pair) → n ≤ length left → (n < length left → size < length_of (take (n + 1) left))
      → (m : ℕ) → m ≤ length left → Fits size (take m left) → m ≤ length (take n left)
  longest_cut left within passes m h fits = by (at_most m n) where
    by : (m ≤ n) ⊎ (n < m) → m ≤ length (take n left)
    by (inl below) = omega (arith, below, length-take n left, within)
    by (inr above) =
        let no : ⊥ = omega (arith, passes (omega (arith, above, h)), front_grows left (n + 1) m (omega (arith, above)) h, fits) in absurd no

  cut_front : (left : List Pair) → list_any (is_too_wide size) left ≡ false → n ≤ length left → (n ≢ 0 → Fits size (take n left))
      → (n < length left → size < length_of (take (n + 1) left)) → IsCut size left (take n left) (drop n left)
  cut_front [] alone within fits passes = (take_all n [] (omega arith), drop_all n [] (omega arith))
  cut_front (p ∷ ps) alone within fits passes = record {
    whole = sym (take-append-drop n (p ∷ ps));
    fits = fits (some_cut p ps alone passes);
    longest = longest_cut (p ∷ ps) within passes;
  }

  some_front : (left : List Pair) → list_any (is_too_wide size) left ≡ false → (n < length left → size < length_of (take (n + 1) left))
      → left ≢ [] → take n left ≢ []
  some_front [] alone passes some none = some refl
  some_front (p ∷ ps) alone passes some none =
      let no : ⊥ = some_cut p ps alone passes (omega (arith, ap length none, length-take n (p ∷ ps))) in absurd no

  -- of pairs that stand reversed
  module _ (xs : List Pair) (alone : list_any (is_too_wide size) xs ≡ false) (within : n ≤ length xs)
      (passes : n < length xs → size < length_of (take (n + 1) (reverse xs))) where
    passes_too : n < length (reverse xs) → size < length_of (take (n + 1) (reverse xs))
    passes_too h = passes (omega (arith, h, length-reverse xs))

    pub cut_is : (n ≢ 0 → Fits size (take n (reverse xs))) → IsCut size (reverse xs) (reverse (drop (length xs - n) xs)) (reverse (take (length xs - n) xs))
    cut_is fits =
        subst (λ list. IsCut size (reverse xs) list (reverse (take (length xs - n) xs))) (sym (front_reversed xs n within))
        (subst (λ rest. IsCut size (reverse xs) (take n (reverse xs)) rest) (sym (rest_reversed xs n within))
        (cut_front (reverse xs) (any_reversed (is_too_wide size) xs ∙ alone) (omega (arith, within, length-reverse xs)) fits passes_too))

    pub cut_has_some : reverse xs ≢ [] → reverse (drop (length xs - n) xs) ≢ []
    cut_has_some some =
        subst (λ list. list ≢ []) (sym (front_reversed xs n within))
        (some_front (reverse xs) (any_reversed (is_too_wide size) xs ∙ alone) passes_too some)

-- ---- all lists

pub cut_begins : (size : ℕ) (left list rest : List Pair) → IsCut size left list rest
    → BeginsPacked (record { left = left; size = size }) list (record { left = rest; size = size })
cut_begins size left list rest cut = record {
  last = λ none. subst (λ r. IsCut size left list r) none cut;
  others = before;
} where
  before : rest ≢ [] → (lists : List (List Pair)) → Packed size rest lists → Packed size left (list ∷ lists)
  before some [] packed = absurd packed
  before some (next ∷ lists) packed = (rest, some, cut, packed)

-- the same of what the code has of them
pub next_cut : (size n : ℕ) (xs slice left list rest : List Pair) → slice ≡ xs → left ≡ reverse xs → list_any (is_too_wide size) xs ≡ false
    → n ≤ length slice → (n ≢ 0 → Fits size (take n (reverse slice))) → (n < length slice → size < length_of (take (n + 1) (reverse slice)))
    → list ≡ reverse (drop (length xs - n) xs) → rest ≡ take (length xs - n) xs
    → IsCut size left list (reverse rest) × (left ≢ [] → list ≢ [])
next_cut size n xs slice left list rest e left_is alone within fits passes list_is rest_is =
    let within' = subst (λ s. n ≤ length s) e within in
    let fits' = subst (λ s. n ≢ 0 → Fits size (take n (reverse s))) e fits in
    let passes' = subst (λ s. n < length s → size < length_of (take (n + 1) (reverse s))) e passes in
    let list_of = reverse (drop (length xs - n) xs) in (
      subst (λ l. IsCut size left l (reverse rest)) (sym list_is)
          (subst (λ r. IsCut size left list_of (reverse r)) (sym rest_is)
          (subst (λ l. IsCut size l list_of (reverse (take (length xs - n) xs))) (sym left_is) (cut_is size n xs alone within' passes' fits'))),
      subst (λ l. left ≢ [] → l ≢ []) (sym list_is)
          (subst (λ l. l ≢ [] → list_of ≢ []) (sym left_is) (cut_has_some size n xs alone within' passes')),
    )

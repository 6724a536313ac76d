-- How many bytes lists of pairs take.
use Rattle.std.proofs.Common.{◌≡◌, ℕ, ◌+◌, ◌-◌, ◌<◌, ◌≤◌, List, [], ◌∷◌, ◌++◌, map, length, take, reverse, get_or, true, false, refl, sym, ap, ◌∙◌, arith}
use Rattle.std.proofs.lemmas.Bool.{lt-ltb, le-ltb}
use Rattle.std.proofs.lemmas.List.{length-append, length-take, length-reverse, get_or-reverse}
use Rattle.std.proofs.lemmas.List.Sums.{sum_by_more, sum_by-cons}
use Rattle.std.specs.Prelude.{nat_lt, ◌^◌, ◌*◌, if◌then◌else◌, Bool}
use Rattle.std.specs.List.{concat, sum_by}
use Rattle.std.specs.Int.{w8, w16, w32, w64, to_be_bytes}
use Rattle.cbor_core.specs.declared.item.Item.{Item}
use Rattle.cbor_core.specs.declared.item.Item.TheVariants as items
use Rattle.cbor_core.specs.Deterministic.{det}
use Rattle.cbor_core.specs.Head.{head}
use Rattle.cbor_core.proofs.Dets.{det_array, det_bytes, det_text, length_map}
use Rattle.service_info.specs.declared.pair.Pair.{Pair}
use Rattle.service_info.specs.Packed.{is_too_wide}
use Rattle.service_info.specs.Pairs.{item_of_pair, pair_length, length_of, Fits}

pub det_of_text : (t : List ℕ) → det (items.Text t) ≡ head 3 (length t) ++ t
det_of_text t = ap det (sym (items.rolls-Text t)) ∙ det_text t

pub det_of_bytes : (b : List ℕ) → det (items.Bytes b) ≡ head 2 (length b) ++ b
det_of_bytes b = ap det (sym (items.rolls-Bytes b)) ∙ det_bytes b

pub det_of_array : (xs : List Item) → det (items.Array xs) ≡ head 4 (length xs) ++ concat (map det xs)
det_of_array xs = ap det (sym (items.rolls-Array xs)) ∙ det_array xs

strings : (key value : List ℕ) → det (items.Array (items.Text key ∷ items.Bytes value ∷ [])) ≡ head 4 2 ++ ((head 3 (length key) ++ key) ++ ((head 2 (length value) ++ value) ++ []))
strings key value =
    det_of_array (items.Text key ∷ items.Bytes value ∷ [])
    ∙ ap (λ a. head 4 2 ++ (a ++ (det (items.Bytes value) ++ []))) (det_of_text key)
    ∙ ap (λ b. head 4 2 ++ ((head 3 (length key) ++ key) ++ (b ++ []))) (det_of_bytes value)

-- the length of two strings with heads, behind a head
joined_length : (a b c d e : List ℕ) → length (a ++ ((b ++ c) ++ ((d ++ e) ++ []))) ≡ length a + ((length b + length c) + (length d + length e))
joined_length a b c d e = grind (arith, length-append)

-- the major type does not matter to the length of a head
abbrev head_by : ℕ → ℕ → Bool → Bool → Bool → Bool → List ℕ
head_by m n a b c d =
    if a then (32 * m + n) ∷ []
    else if b then (32 * m + 24) ∷ to_be_bytes w8 n
    else if c then (32 * m + 25) ∷ to_be_bytes w16 n
    else if d then (32 * m + 26) ∷ to_be_bytes w32 n
    else (32 * m + 27) ∷ to_be_bytes w64 n

same_by : (m k n : ℕ) (a b c d : Bool) → length (head_by m n a b c d) ≡ length (head_by k n a b c d)
same_by m k n true b c d = refl
same_by m k n false true c d = refl
same_by m k n false false true d = refl
same_by m k n false false false true = refl
same_by m k n false false false false = refl

pub head_lengths : (m k n : ℕ) → length (head m n) ≡ length (head k n)
unfolding head
head_lengths m k n = same_by m k n (nat_lt n 24) (nat_lt n (2 ^ 8)) (nat_lt n (2 ^ 16)) (nat_lt n (2 ^ 32))

head_of_two : length (head 4 2) ≡ 1
unfolding head
head_of_two = refl

pub length_of_pair : (p : Pair) → pair_length p ≡ 1 + ((length (head 4 (length p.key)) + length p.key) + (length (head 4 (length p.value)) + length p.value))
unfolding pair_length
length_of_pair p =
    let strings_length = ap length (strings p.key p.value) ∙ joined_length (head 4 2) (head 3 (length p.key)) p.key (head 2 (length p.value)) p.value in
    omega (arith, strings_length, head_of_two, head_lengths 3 4 (length p.key), head_lengths 2 4 (length p.value))

lengths : (ps : List Pair) → length (concat (map det (map item_of_pair ps))) ≡ sum_by pair_length ps
unfolding pair_length
lengths [] = refl
lengths (p ∷ ps) = length-append (det (item_of_pair p)) (concat (map det (map item_of_pair ps))) ∙ ap (λ n. length (det (item_of_pair p)) + n) (lengths ps) ∙ sym (sum_by-cons pair_length p ps)

pub length_of_list : (ps : List Pair) → length_of ps ≡ length (head 4 (length ps)) + sum_by pair_length ps
unfolding length_of
length_of_list ps =
    ap length (det_of_array (map item_of_pair ps)) ∙ length-append (head 4 (length (map item_of_pair ps))) (concat (map det (map item_of_pair ps)))
    ∙ ap (λ n. length (head 4 n) + length (concat (map det (map item_of_pair ps)))) (length_map item_of_pair ps)
    ∙ ap (λ n. length (head 4 (length ps)) + n) (lengths ps)

abbrev size_by : Bool → Bool → Bool → Bool → ℕ
size_by a b c d = if a then 1 else if b then 2 else if c then 3 else if d then 5 else 9

sized_by : (m n : ℕ) (a b c d : Bool) → length (head_by m n a b c d) ≡ size_by a b c d
sized_by m n true b c d = refl
sized_by m n false true c d = refl
sized_by m n false false true d = refl
sized_by m n false false false true = refl
sized_by m n false false false false = refl

head_size : (n : ℕ) → length (head 4 n) ≡ size_by (nat_lt n 24) (nat_lt n (2 ^ 8)) (nat_lt n (2 ^ 16)) (nat_lt n (2 ^ 32))
unfolding head
head_size n = sized_by 4 n (nat_lt n 24) (nat_lt n (2 ^ 8)) (nat_lt n (2 ^ 16)) (nat_lt n (2 ^ 32))

pub head_grows : (m n : ℕ) → m ≤ n → length (head 4 m) ≤ length (head 4 n)
head_grows m n h = let a = head_size m in let b = head_size n in grind (arith, a, b)

pub length_of_one : (p : Pair) → length_of (p ∷ []) ≡ pair_length p + length (head 4 1)
length_of_one p = omega (arith, length_of_list (p ∷ []), sum_by-cons pair_length p [])

pub alone_has_room : (size left : ℕ) (p : Pair) → size ≡ left + pair_length p → length (head 4 1) ≤ left → is_too_wide size p ≡ false
alone_has_room size left p is h = le-ltb size (length_of (p ∷ [])) (omega (arith, length_of_one p))

pub alone_has_none : (size : ℕ) (p : Pair) → size < pair_length p + length (head 4 1) → is_too_wide size p ≡ true
alone_has_none size p h = lt-ltb size (length_of (p ∷ [])) (omega (arith, length_of_one p))

-- one pair more from the end
pub more_pairs : (xs : List Pair) (n : ℕ) (p : Pair) → n < length xs → p ≡ get_or xs (length xs - 1 - n) p → sum_by pair_length (take (n + 1) (reverse xs)) ≡ sum_by pair_length (take n (reverse xs)) + pair_length p
more_pairs xs n p h is =
    sum_by_more pair_length (reverse xs) n p (omega (arith, length-reverse xs))
    ∙ ap (λ q. sum_by pair_length (take n (reverse xs)) + pair_length q) (get_or-reverse xs n p h ∙ sym is)

pub length_of_front : (xs : List Pair) (n : ℕ) → n ≤ length xs → length_of (take n xs) ≡ length (head 4 n) + sum_by pair_length (take n xs)
length_of_front xs n h = length_of_list (take n xs) ∙ ap (λ k. length (head 4 k) + sum_by pair_length (take n xs)) (length-take n xs ∙ omega arith)

pub front_fits : (xs : List Pair) (n size room : ℕ) → n ≤ length xs → room + sum_by pair_length (take n xs) ≡ size → length (head 4 n) ≤ room → Fits size (take n xs)
front_fits xs n size room h is head = omega (arith, length_of_front xs n h)

pub front_passes : (xs : List Pair) (n size room : ℕ) (p : Pair) → n < length xs → room + sum_by pair_length (take n xs) ≡ size
    → sum_by pair_length (take (n + 1) xs) ≡ sum_by pair_length (take n xs) + pair_length p → room < pair_length p + length (head 4 (n + 1)) → size < length_of (take (n + 1) xs)
front_passes xs n size room p h is more less = omega (arith, length_of_front xs (n + 1) (omega arith))

-- What is written with fewer than 2 ^ 64 bytes is fit to be written.
use Rattle.std.proofs.Common.{◌≡◌, ℕ, suc, ◌+◌, ◌*◌, ◌^◌, ◌<◌, ◌≤◌, Bool, true, false, List, [], ◌∷◌, ◌++◌, map, take, length, get_or, Option, Some, None, refl, sym, ap, subst, ◌∙◌, arith, lit<}
use Rattle.std.specs.Prelude.{nat_lt, if◌then◌else◌}
use Rattle.std.specs.Int.{w8, w16, w32, w64, to_be_bytes}
use Rattle.std.specs.List.{concat, AllByRecursion}
use Rattle.std.proofs.lemmas.List.{length-append, take_more}
use Rattle.cbor_core.specs.declared.item.Item.{Item}
use Rattle.cbor_core.specs.declared.item.Item.TheVariants as items
use Rattle.cbor_core.specs.Head.{head}
use Rattle.cbor_core.specs.Deterministic.{det, det_pairs, in_key_order}
use Rattle.cbor_core.specs.Norm.{IsFitWithin}
use Rattle.cbor_core.specs.Numbers.{item_of_integer}
use Rattle.cbor_core.proofs.Dets.{length_map, det_array, det_bytes, det_map, det_uint, det_nint}
use Rattle.cbor_core.proofs.NormLaws.{fit_uint, fit_nint, fit_integer, fit_bytes, fit_array, fit_map}
use Rattle.voucher_chain.specs.declared.rv_info.RvInstr.{RvInstr}
use Rattle.voucher_chain.specs.RvInfo.{value_items, item_of_instr, item_of_directive, item_of_rv, AreNumbers}
use Rattle.key_codec.specs.declared.key.CoseKey.{CoseKey}
use Rattle.key_codec.specs.declared.key.KeyBody.{KeyBody}
use Rattle.key_codec.specs.declared.key.KeyBody.TheVariants as body
use Rattle.key_codec.specs.declared.key.PublicKey.{PublicKey}
use Rattle.key_codec.specs.Key.{IsBody, IsKey, item_of_body, item_of_key, form_of_body}
use Rattle.key_codec.proofs.Back.{type_fits, encoding_fits, curve_fits}

-- ---- rows, as far as a loop has come

all_push : {X : Type 0} (P : X → Type 0) (xs : List X) (x : X) → AllByRecursion P xs → P x → AllByRecursion P (xs ++ x ∷ [])
all_push P [] x h one = (one, tt)
all_push P (y ∷ ys) x h one = (h.0, all_push P ys x h.1 one)

pub all_next : {X : Type 0} (P : X → Type 0) (xs : List X) (i : ℕ) (x : X) → i < length xs → x ≡ get_or xs i x → AllByRecursion P (take i xs) → P x → AllByRecursion P (take (i + 1) xs)
all_next P xs i x h e was one = subst (AllByRecursion P) (sym (take_more xs i x h)) (all_push P (take i xs) (get_or xs i x) was (subst P e one))

-- ---- a head takes a byte

abbrev head_by : ℕ → ℕ → Bool → Bool → Bool → Bool → List ℕ
head_by m n a b c d =
    if a then (32 * m + n) ∷ []
    else if b then (32 * m + 24) ∷ to_be_bytes w8 n
    else if c then (32 * m + 25) ∷ to_be_bytes w16 n
    else if d then (32 * m + 26) ∷ to_be_bytes w32 n
    else (32 * m + 27) ∷ to_be_bytes w64 n

some_by : (m n : ℕ) (a b c d : Bool) → 1 ≤ length (head_by m n a b c d)
some_by m n true b c d = omega arith
some_by m n false true c d = omega arith
some_by m n false false true d = omega arith
some_by m n false false false true = omega arith
some_by m n false false false false = omega arith

head_some : (m n : ℕ) → 1 ≤ length (head m n)
unfolding head
head_some m n = some_by m n (nat_lt n 24) (nat_lt n (2 ^ 8)) (nat_lt n (2 ^ 16)) (nat_lt n (2 ^ 32))

-- ---- strings and arrays

bytes_long : (b : List ℕ) → suc (length b) ≤ length (det (items.Bytes b))
bytes_long b = omega (arith, ap length (ap det (sym (items.rolls-Bytes b)) ∙ det_bytes b), length-append (head 2 (length b)) b, head_some 2 (length b))

pub array_is : (xs : List Item) → det (items.Array xs) ≡ head 4 (length xs) ++ concat (map det xs)
array_is xs = ap det (sym (items.rolls-Array xs)) ∙ det_array xs

-- an array of items that are fit
module _ {X : Type 0} (made : X → Item) (P : X → Type 0) (n : ℕ) (one : (x : X) → P x → length (det (made x)) < 2 ^ 64 → IsFitWithin n (made x)) (long : (x : X) → 1 ≤ length (det (made x))) where
  record AreFit (xs : List X) (k : ℕ) : Type 0 where
    fits : AllByRecursion (IsFitWithin n) (map made xs)
    few : length xs ≤ k

  row_fit : (xs : List X) → AllByRecursion P xs → length (concat (map det (map made xs))) < 2 ^ 64 → AreFit xs (length (concat (map det (map made xs))))
  row_fit [] h small = record { fits = tt; few = omega arith }
  row_fit (x ∷ xs) h small =
      let all : length (concat (map det (map made (x ∷ xs)))) ≡ length (det (made x)) + length (concat (map det (map made xs))) = length-append (det (made x)) (concat (map det (map made xs))) in
      let later = row_fit xs h.1 (omega arith) in
      record { fits = (one x h.0 (omega arith), later.fits); few = omega (arith, later.few, long x) }

  pub array_fit : (xs : List X) → AllByRecursion P xs → length (det (items.Array (map made xs))) < 2 ^ 64 → IsFitWithin (suc n) (items.Array (map made xs))
  array_fit xs h small =
      let ys = map made xs in
      let all : length (det (items.Array ys)) ≡ length (head 4 (length ys)) + length (concat (map det ys)) = ap length (array_is ys) ∙ length-append (head 4 (length ys)) (concat (map det ys)) in
      let are = row_fit xs h (omega arith) in
      fit_array n ys (omega (arith, are.few, length_map made xs)) are.fits

pub array_some : (xs : List Item) → 1 ≤ length (det (items.Array xs))
array_some xs = omega (arith, ap length (array_is xs), length-append (head 4 (length xs)) (concat (map det xs)), head_some 4 (length xs))

any_bytes : (bs : List (List ℕ)) → AllByRecursion (λ (b : List ℕ). Unit {0}) bs
any_bytes [] = tt
any_bytes (b ∷ bs) = (tt, any_bytes bs)

pub chain_fit : (n : ℕ) (bs : List (List ℕ)) → length (det (items.Array (map items.Bytes bs))) < 2 ^ 64 → IsFitWithin (suc (suc n)) (items.Array (map items.Bytes bs))
chain_fit n bs small =
    array_fit items.Bytes (λ (b : List ℕ). Unit {0}) (suc n) (λ b any small. fit_bytes n b (omega (arith, small, bytes_long b))) (λ b. omega (arith, bytes_long b)) bs (any_bytes bs) small

-- ---- rendezvous information

instr_by : (n v : ℕ) (o : Option (List ℕ)) → v < 2 ^ 64 → length (det (items.Array (items.Uint v ∷ value_items o))) < 2 ^ 64 → IsFitWithin (suc (suc n)) (items.Array (items.Uint v ∷ value_items o))
instr_by n v None h small = fit_array (suc n) (items.Uint v ∷ []) (lit< tt) (fit_uint n v h, tt)
instr_by n v (Some b) h small =
    let k = det (items.Uint v) in
    let c = det (items.Bytes b) in
    let below : length c < 2 ^ 64 = omega (arith, small, ap length (array_is (items.Uint v ∷ items.Bytes b ∷ [])), length-append (head 4 2) (k ++ (c ++ [])), length-append k (c ++ []), length-append c []) in
    fit_array (suc n) (items.Uint v ∷ items.Bytes b ∷ []) (lit< tt) (fit_uint n v h, (fit_bytes n b (omega (arith, below, bytes_long b)), tt))

directive_fit : (n : ℕ) (d : List RvInstr) → AreNumbers d → length (det (item_of_directive d)) < 2 ^ 64 → IsFitWithin (suc (suc (suc n))) (item_of_directive d)
directive_fit n d h small =
    array_fit item_of_instr (λ (i : RvInstr). i.variable < 2 ^ 64) (suc (suc n)) (λ i number below. instr_by n i.variable i.value number below) (λ i. array_some (items.Uint i.variable ∷ value_items i.value)) d h small

pub rv_fit : (n : ℕ) (rv : List (List RvInstr)) → AllByRecursion AreNumbers rv → length (det (item_of_rv rv)) < 2 ^ 64 → IsFitWithin (suc (suc (suc (suc n)))) (item_of_rv rv)
rv_fit n rv h small = array_fit item_of_directive AreNumbers (suc (suc (suc n))) (directive_fit n) (λ d. array_some (map item_of_instr d)) rv h small

-- ---- keys

-- the keys 01, 20, 21 and 22 ascend
four_keys : (a b c d : List ℕ) → in_key_order ((det (items.Uint 1), a) ∷ (det (items.Nint 0), b) ∷ (det (items.Nint 1), c) ∷ (det (items.Nint 2), d) ∷ []) ≡ (det (items.Uint 1), a) ∷ (det (items.Nint 0), b) ∷ (det (items.Nint 1), c) ∷ (det (items.Nint 2), d) ∷ []
unfolding head
four_keys a b c d = rw (uint 1, nint 0, nint 1, nint 2) refl
  where
    uint : (n : ℕ) → det (items.Uint n) ≡ head 0 n
    uint n = ap det (sym (items.rolls-Uint n)) ∙ det_uint n

    nint : (n : ℕ) → det (items.Nint n) ≡ head 1 n
    nint n = ap det (sym (items.rolls-Nint n)) ∙ det_nint n

abbrev cose_pairs : CoseKey → List (Item × Item)
cose_pairs c = (items.Uint 1, items.Uint 2) ∷ (items.Nint 0, item_of_integer c.curve) ∷ (items.Nint 1, items.Bytes c.x) ∷ (items.Nint 2, items.Bytes c.y) ∷ []

cose_is : (c : CoseKey) → det (items.Map (cose_pairs c))
    ≡ head 5 4 ++ ((det (items.Uint 1) ++ det (items.Uint 2)) ++ ((det (items.Nint 0) ++ det (item_of_integer c.curve)) ++ ((det (items.Nint 1) ++ det (items.Bytes c.x)) ++ ((det (items.Nint 2) ++ det (items.Bytes c.y)) ++ []))))
cose_is c = ap det (sym (items.rolls-Map (cose_pairs c))) ∙ det_map (cose_pairs c) ∙ ap det_pairs (four_keys (det (items.Uint 2)) (det (item_of_integer c.curve)) (det (items.Bytes c.x)) (det (items.Bytes c.y)))

-- no value is longer than the whole
third_value : (h a b c d e x g y : List ℕ) (n : ℕ) → length (h ++ ((a ++ b) ++ ((c ++ d) ++ ((e ++ x) ++ ((g ++ y) ++ []))))) < n → length x < n
third_value h a b c d e x g y n small = omega (
  arith,
  small,
  length-append h ((a ++ b) ++ ((c ++ d) ++ ((e ++ x) ++ ((g ++ y) ++ [])))),
  length-append (a ++ b) ((c ++ d) ++ ((e ++ x) ++ ((g ++ y) ++ []))),
  length-append (c ++ d) ((e ++ x) ++ ((g ++ y) ++ [])),
  length-append (e ++ x) ((g ++ y) ++ []),
  length-append e x,
)

fourth_value : (h a b c d e x g y : List ℕ) (n : ℕ) → length (h ++ ((a ++ b) ++ ((c ++ d) ++ ((e ++ x) ++ ((g ++ y) ++ []))))) < n → length y < n
fourth_value h a b c d e x g y n small = omega (
  arith,
  small,
  length-append h ((a ++ b) ++ ((c ++ d) ++ ((e ++ x) ++ ((g ++ y) ++ [])))),
  length-append (a ++ b) ((c ++ d) ++ ((e ++ x) ++ ((g ++ y) ++ []))),
  length-append (c ++ d) ((e ++ x) ++ ((g ++ y) ++ [])),
  length-append (e ++ x) ((g ++ y) ++ []),
  length-append (g ++ y) [],
  length-append g y,
)

cose_fit : (n : ℕ) (c : CoseKey) → IsBody (body.Cose c) → length (det (items.Map (cose_pairs c))) < 2 ^ 64 → IsFitWithin (suc (suc n)) (items.Map (cose_pairs c))
cose_fit n c is small =
    let all : length (head 5 4 ++ ((det (items.Uint 1) ++ det (items.Uint 2)) ++ ((det (items.Nint 0) ++ det (item_of_integer c.curve)) ++ ((det (items.Nint 1) ++ det (items.Bytes c.x)) ++ ((det (items.Nint 2) ++ det (items.Bytes c.y)) ++ []))))) < 2 ^ 64 =
    omega (arith, small, ap length (cose_is c)) in
    let x = third_value (head 5 4) (det (items.Uint 1)) (det (items.Uint 2)) (det (items.Nint 0)) (det (item_of_integer c.curve)) (det (items.Nint 1)) (det (items.Bytes c.x)) (det (items.Nint 2)) (det (items.Bytes c.y)) (2 ^ 64) all in
    let y = fourth_value (head 5 4) (det (items.Uint 1)) (det (items.Uint 2)) (det (items.Nint 0)) (det (item_of_integer c.curve)) (det (items.Nint 1)) (det (items.Bytes c.x)) (det (items.Nint 2)) (det (items.Bytes c.y)) (2 ^ 64) all in
    fit_map (suc n) (cose_pairs c) (lit< tt) (
      (fit_uint n 1 (lit< tt), fit_uint n 2 (lit< tt)),
      (
        (fit_nint n 0 (lit< tt), fit_integer n c.curve (curve_fits c.curve is)),
        ((fit_nint n 1 (lit< tt), fit_bytes n c.x (omega (arith, x, bytes_long c.x))), ((fit_nint n 2 (lit< tt), fit_bytes n c.y (omega (arith, y, bytes_long c.y))), tt)),
      ),
    )

body_fit : (n : ℕ) (b : KeyBody) → IsBody b → length (det (item_of_body b)) < 2 ^ 64 → IsFitWithin (suc (suc n)) (item_of_body b)
body_fit n (body.Bytes b) is small = fit_bytes (suc n) b (omega (arith, small, bytes_long b))
body_fit n (body.Chain bs) is small = chain_fit n bs small
body_fit n (body.Cose c) is small = cose_fit n c is small

pub key_fit : (n : ℕ) (key : PublicKey) → IsKey key → length (det (item_of_key key)) < 2 ^ 64 → IsFitWithin (suc (suc (suc n))) (item_of_key key)
key_fit n key is small =
    let kind = item_of_integer key.kind in
    let enc = item_of_integer key.enc in
    let b = item_of_body key.body in
    let below : length (det b) < 2 ^ 64 = third_below (head 4 3) (det kind) (det enc) (det b) (2 ^ 64) (omega (arith, small, ap length (array_is (kind ∷ enc ∷ b ∷ [])))) in
    fit_array (suc (suc n)) (kind ∷ enc ∷ b ∷ []) (lit< tt) (fit_integer (suc n) key.kind (type_fits key.kind is.kind), (fit_integer (suc n) key.enc (encoding_fits key.enc (form_of_body key.body) is.enc), (body_fit n key.body is.body below, tt)))
  where
    third_below : (h a b c : List ℕ) (n : ℕ) → length (h ++ (a ++ (b ++ (c ++ [])))) < n → length c < n
    third_below h a b c n small = omega (arith, small, length-append h (a ++ (b ++ (c ++ []))), length-append a (b ++ (c ++ [])), length-append b (c ++ []), length-append c [])

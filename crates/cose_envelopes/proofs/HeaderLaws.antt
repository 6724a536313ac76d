-- The protected header that names an algorithm, and the additional data made of it.
use Rattle.std.proofs.Common.{◌≡◌, ℕ, ℤ, ◌+◌, ◌≤◌, pos, negsuc, List, [], ◌∷◌, ◌++◌, length, codes, Option, Some, Result, Ok, Err, IfOk, SFits, w64, refl, sym, ap, ◌∙◌, arith, lit<}
use Rattle.std.proofs.lemmas.List.{length-append}
use Rattle.cbor_core.specs.declared.no_memory.NoMemory.{NoMemory}
use Rattle.cbor_core.specs.declared.item.Item.{Item}
use Rattle.cbor_core.specs.declared.item.Item.TheVariants as items
use Rattle.cbor_core.specs.Head.{head}
use Rattle.cbor_core.specs.Deterministic.{det}
use Rattle.cbor_core.specs.Norm.{norm, IsFit}
use Rattle.cbor_core.specs.Numbers.{integer_in, item_of_integer, IsI64}
use Rattle.cbor_core.specs.Shapes.{is_map, labelled_in, pairs_layer}
use Rattle.cbor_core.specs.declared.item.Item.TheOpen.{Item-F}
use Rattle.std.specs.Prelude.{is_some}
use Rattle.cbor_core.proofs.NormLaws.{norm_one, norm_uint, norm_integer, integer_back, fit_uint, fit_integer, fit_map, fit_said, head_short}
use Rattle.cbor_core.proofs.WholeLaws.{spelled_whole}
use Rattle.cbor_core.proofs.Dets.{det_uint, det_nint, det_bytes, det_text, det_array, det_map}
use Rattle.cose_envelopes.specs.Envelope.{algorithm_in, header_of, protected_of}
use Rattle.cose_envelopes.specs.Fault.{◌>>=◌}
use Rattle.cose_envelopes.specs.Text.{encrypt0_structure}
use Rattle.suite_port.specs.Sizes.{most_plain}

pub is_i64 : (z : ℤ) → SFits w64 z → IsI64 z
is_i64 (pos n) h = h.sfits
is_i64 (negsuc n) h = h.sfits

-- ---- it names the algorithm

header_fits : (alg : ℤ) → IsI64 alg → IsFit (header_of alg)
header_fits alg h = fit_map 15 ((items.Uint 1, item_of_integer alg) ∷ []) (lit< tt) ((fit_uint 14 1 (lit< tt), fit_integer 14 alg h), tt)

norm_header : (alg : ℤ) → norm (header_of alg) ≡ header_of alg
norm_header alg = norm_one (items.Uint 1) (item_of_integer alg) ∙ (rw (norm_uint 1, norm_integer alg) refl)

header_back : (alg : ℤ) → IsI64 alg → (labelled_in (pos 1) (header_of alg) >>= λ a. integer_in a) ≡ Some alg
header_back alg h = rw (items.outs-Map ((items.Uint 1, item_of_integer alg) ∷ []), integer_back (pos 1) (lit< tt), integer_back alg h) refl

pub names_back : (alg : ℤ) → IsI64 alg → algorithm_in (protected_of alg) ≡ Some alg
unfolding algorithm_in protected_of
names_back alg h =
    ap (λ (o : Option Item). o >>= λ header. labelled_in (pos 1) header >>= λ a. integer_in a) (spelled_whole (det (header_of alg)) (norm (header_of alg)) (fit_said (header_of alg) (header_fits alg h)))
    ∙ ap (λ (header : Item). labelled_in (pos 1) header >>= λ a. integer_in a) (norm_header alg)
    ∙ header_back alg h

-- ---- it is short

integer_short : (n : ℤ) → length (det (item_of_integer n)) ≤ 9
integer_short (pos n) = omega (arith, ap (λ (x : Item). length (det x)) (sym (items.rolls-Uint n)), ap length (det_uint n), head_short 0 n)
integer_short (negsuc n) = omega (arith, ap (λ (x : Item). length (det x)) (sym (items.rolls-Nint n)), ap length (det_nint n), head_short 1 n)

header_is : (k v : Item) → det (items.Map ((k, v) ∷ [])) ≡ head 5 1 ++ ((det k ++ det v) ++ [])
header_is k v = ap det (sym (items.rolls-Map ((k, v) ∷ []))) ∙ det_map ((k, v) ∷ [])

pub header_short : (alg : ℤ) → length (protected_of alg) ≤ 27
unfolding protected_of
header_short alg =
    let k = det (items.Uint 1) in
    let v = det (item_of_integer alg) in
    omega (arith, ap length (header_is (items.Uint 1) (item_of_integer alg)), length-append (head 5 1) ((k ++ v) ++ []), length-append (k ++ v) [], length-append k v, head_short 5 1, integer_short (pos 1), integer_short alg)

-- ---- the additional data is not much longer

text_short : (t : List ℕ) → length (det (items.Text t)) ≤ 9 + length t
text_short t = omega (arith, ap (λ (x : Item). length (det x)) (sym (items.rolls-Text t)), ap length (det_text t), length-append (head 3 (length t)) t, head_short 3 (length t))

bytes_short : (b : List ℕ) → length (det (items.Bytes b)) ≤ 9 + length b
bytes_short b = omega (arith, ap (λ (x : Item). length (det x)) (sym (items.rolls-Bytes b)), ap length (det_bytes b), length-append (head 2 (length b)) b, head_short 2 (length b))

array_is : (a b c : Item) → det (items.Array (a ∷ b ∷ c ∷ [])) ≡ head 4 3 ++ (det a ++ (det b ++ (det c ++ [])))
array_is a b c = ap det (sym (items.rolls-Array (a ∷ b ∷ c ∷ []))) ∙ det_array (a ∷ b ∷ c ∷ [])

structure_short : (protected : List ℕ) → length (encrypt0_structure protected) ≤ length protected + 44
unfolding encrypt0_structure
structure_short protected =
    let a = det (items.Text (codes "Encrypt0")) in
    let b = det (items.Bytes protected) in
    let c = det (items.Bytes []) in
    omega (
      arith,
      ap length (array_is (items.Text (codes "Encrypt0")) (items.Bytes protected) (items.Bytes [])),
      length-append (head 4 3) (a ++ (b ++ (c ++ []))),
      length-append a (b ++ (c ++ [])),
      length-append b (c ++ []),
      length-append c [],
      head_short 4 3,
      text_short (codes "Encrypt0"),
      bytes_short protected,
      bytes_short [],
    )

-- a text as short as a suite seals
pub aad_short : (alg : ℤ) (aad protected : List ℕ) → protected ≡ protected_of alg → aad ≡ encrypt0_structure protected → length aad ≤ most_plain
aad_short alg aad protected is e = omega (arith, ap length e, ap length is, structure_short protected, header_short alg)

-- ---- as the writers answer

pub written_header : (alg : ℤ) (x : Item) (r : Result (List ℕ) NoMemory) → x ≡ header_of alg → IfOk r (λ bytes. bytes ≡ det x) → IfOk r (λ bytes. bytes ≡ protected_of alg)
unfolding protected_of
written_header alg x (Ok bytes) is e = e ∙ ap det is
written_header alg x (Err f) is e = tt

pub names_said : (alg : ℤ) (r : Result (List ℕ) NoMemory) → IsI64 alg → IfOk r (λ bytes. bytes ≡ protected_of alg) → IfOk r (λ bytes. algorithm_in bytes ≡ Some alg)
names_said alg (Ok bytes) h e = ap algorithm_in e ∙ names_back alg h
names_said alg (Err f) h e = tt

-- ---- an unprotected header: a map is what has pairs

pub map_has_pairs : (f : Item-F Item) → is_map f ≡ is_some (pairs_layer f)
map_has_pairs (Item-F.Uint n) = refl
map_has_pairs (Item-F.Nint n) = refl
map_has_pairs (Item-F.Bytes b) = refl
map_has_pairs (Item-F.Text t) = refl
map_has_pairs (Item-F.Array xs) = refl
map_has_pairs (Item-F.Map ps) = refl
map_has_pairs (Item-F.Tag t x) = refl
map_has_pairs (Item-F.Simple n) = refl

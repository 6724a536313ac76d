-- A file that is sent is received.
use Rattle.std.proofs.Common.{◌≡◌, ℕ, zero, suc, ◌+◌, ◌-◌, ◌*◌, ◌/◌, ◌<◌, ◌≤◌, ◌^◌, min, List, [], ◌∷◌, ◌++◌, map, length, take, drop, true, Some, Ok, refl, sym, ap, ◌∙◌, arith, append_assoc}
use Rattle.std.proofs.lemmas.Bool.{le-ltb, eq-eqb}
use Rattle.std.proofs.lemmas.List.{append-nil, length-append, length-drop, take-append-drop, take_min, drop_min}
use Rattle.std.specs.Prelude.{◌==◌}
use Rattle.std.specs.Cmp.Lexicographic.{pointwise}
use Rattle.std.specs.List.{flat_map}
use Rattle.std.specs.Str.{is_utf8}
use Rattle.sha2.specs.Sha512.{sha384}
use Rattle.sha2.proofs.Facts512.{length-sha384}
use Rattle.cbor_core.specs.declared.item.Item.TheVariants as items
use Rattle.cbor_core.specs.Deterministic.{det}
use Rattle.cbor_core.specs.Head.{head}
use Rattle.cbor_core.specs.Whole.{whole}
use Rattle.cbor_core.proofs.NormLaws.{fit_bytes, norm_bytes, content_back}
use Rattle.service_info.specs.declared.pair.Pair.{Pair}
use Rattle.service_info.specs.Devmod.{true_of}
use Rattle.service_info.specs.Key.{is_module_byte, is_name}
use Rattle.service_info.proofs.PackLaws.{det_of_text, det_of_bytes}
use Rattle.service_info.proofs.ShippedLaws.{read_back, true_back, text_back, number_back, true_said, text_said, unsigned_said}
use Rattle.download_module.specs.Received.{active_key, bytes_of, data_key, file_of, hash_key, hash_of, length_key, name_key, name_of, next_place, of_module, pieces_received, received, said_at, size_said}
use Rattle.download_module.specs.Sent.{data_pair, longest_file, longest_piece, pair_of, pairs_of, pieces, pieces_of}

pub text_is : (t : List ℕ) → det (items.Text t) ≡ head 3 (length t) ++ t
text_is t = det_of_text t

pub bytes_is : (b : List ℕ) → det (items.Bytes b) ≡ head 2 (length b) ++ b
bytes_is b = det_of_bytes b

-- ---- pieces

pieces_next : (count i : ℕ) (rest : List ℕ) → i < count → pieces (count - i) rest ≡ take longest_piece rest ∷ pieces (count - (i + 1)) (drop longest_piece rest)
pieces_next count i rest h = let one : count - i ≡ suc (count - (i + 1)) = omega (arith, h) in ap (λ k. pieces k rest) one

pub pieces_step : (front pushed : List Pair) (count i : ℕ) (rest piece after : List ℕ) (pair : Pair) (all : List Pair) → i < count
    → front ++ map data_pair (pieces (count - i) rest) ≡ all → piece ≡ take (min longest_piece (length rest)) rest → after ≡ drop (min longest_piece (length rest)) rest
    → pair ≡ data_pair piece → pushed ≡ front ++ pair ∷ [] → pushed ++ map data_pair (pieces (count - (i + 1)) after) ≡ all
pieces_step front pushed count i rest piece after pair all h is piece-is after-is pair-is pushed-is =
    let more = map data_pair (pieces (count - (i + 1)) after) in
    ap (λ l. l ++ more) (pushed-is ∙ ap (λ p. front ++ p ∷ []) pair-is)
    ∙ append_assoc front (data_pair piece ∷ []) more
    ∙ ap (λ p. front ++ data_pair p ∷ more) (piece-is ∙ take_min longest_piece rest)
    ∙ ap (λ a. front ++ data_pair (take longest_piece rest) ∷ map data_pair (pieces (count - (i + 1)) a)) (after-is ∙ drop_min longest_piece rest)
    ∙ ap (λ ps. front ++ map data_pair ps) (sym (pieces_next count i rest h)) ∙ is

pub pieces_over : (front : List Pair) (count i : ℕ) (rest : List ℕ) (all : List Pair) → count ≤ i → front ++ map data_pair (pieces (count - i) rest) ≡ all → front ≡ all
pieces_over front count i rest all h is =
    let none : count - i ≡ 0 = omega (arith, h) in
    sym (append-nil front) ∙ ap (λ k. front ++ map data_pair (pieces k rest)) (sym none) ∙ is

pieces_whole : (count : ℕ) (bytes : List ℕ) → length bytes ≤ longest_piece * count → flat_map (λ p. p) (pieces count bytes) ≡ bytes
pieces_whole zero [] h = refl
pieces_whole zero (b ∷ bytes) h = let no : ⊥ = omega (arith, h) in absurd no
pieces_whole (suc count) bytes h =
    ap (λ l. take longest_piece bytes ++ l) (pieces_whole count (drop longest_piece bytes) (omega (arith, h, length-drop longest_piece bytes)))
    ∙ take-append-drop longest_piece bytes

enough : (n : ℕ) → n ≤ longest_piece * ((n + 1013) / longest_piece)
enough n = omega arith

-- ---- what the pairs say

same : (xs : List ℕ) → pointwise ◌==◌ xs xs ≡ true
same [] = refl
same (x ∷ xs) = rw (eq-eqb x x refl, same xs) refl

bytes_back : (b : List ℕ) → length b < 2 ^ 64 → whole (det (items.Bytes b)) ≡ Some (items.Bytes b)
bytes_back b h = read_back (items.Bytes b) (fit_bytes 15 b h) (norm_bytes b)

data_said : (place : ℕ) (b : List ℕ) → length b < 2 ^ 64 → said_at place data_key bytes_of (data_pair b) ≡ Ok b
unfolding said_at
data_said place b h = rw (bytes_back b h, content_back b) refl

active_said : said_at 0 active_key true_of (pair_of active_key (items.Simple 21)) ≡ Ok tt
unfolding said_at
active_said = rw (true_back, true_said) refl

name_said : (name : List ℕ) → length name < 2 ^ 64 → is_utf8 name ≡ true → is_name is_module_byte name ≡ true → said_at 1 name_key name_of (pair_of name_key (items.Text name)) ≡ Ok name
unfolding said_at
name_said name h text is = rw (text_back name (h, text), text_said name, is) refl

length_said : (limit n : ℕ) → n < 2 ^ 64 → n ≤ limit → size_said limit (pair_of length_key (items.Uint n)) ≡ Ok n
unfolding said_at
length_said limit n h within-limit = rw (number_back n h, unsigned_said n, le-ltb limit n within-limit) refl

hash_said : (hash : List ℕ) → length hash ≡ 48 → said_at 3 hash_key hash_of (pair_of hash_key (items.Bytes hash)) ≡ Ok hash
unfolding said_at
hash_said hash h = rw (bytes_back hash (omega (arith, h)), content_back hash, eq-eqb (length hash) 48 h) refl

-- ---- the whole

pieces_back : (name : List ℕ) (size : ℕ) (hash : List ℕ) (place : ℕ) (bytes : List ℕ) (ps : List (List ℕ)) → size < 2 ^ 64 → length bytes + length (flat_map (λ p. p) ps) ≤ size
    → pieces_received name size hash place bytes (map data_pair ps) ≡ file_of name size hash (bytes ++ flat_map (λ p. p) ps)
pieces_back name size hash place bytes [] h within-size = ap (file_of name size hash) (sym (append-nil bytes))
pieces_back name size hash place bytes (p ∷ ps) h within-size =
    let long = length-append p (flat_map (λ q. q) ps) in
    rw (data_said place p (omega (arith, h, within-size, long)), le-ltb size (length bytes + length p) (omega (arith, within-size, long)))
    (pieces_back name size hash (next_place place) (bytes ++ p) ps h (omega (arith, within-size, long, length-append bytes p))
    ∙ ap (file_of name size hash) (append_assoc bytes p (flat_map (λ q. q) ps)))

own_pieces : (ps : List (List ℕ)) → of_module (map data_pair ps) ≡ map data_pair ps
own_pieces [] = refl
own_pieces (p ∷ ps) = ap (λ l. data_pair p ∷ l) (own_pieces ps)

file_back : (name file : List ℕ) → file_of name (length file) (sha384 file) file ≡ Ok (Some (record { name = name; bytes = file }))
file_back name file = rw (le-ltb (length file) (length file) (omega arith), same (sha384 file)) refl

pub sent_received : (name file : List ℕ) (pairs : List Pair) (limit : ℕ) → pairs ≡ pairs_of name file → length name < 2 ^ 64 → is_utf8 name ≡ true → is_name is_module_byte name ≡ true
    → length file ≤ longest_file → length file ≤ limit → received limit (of_module pairs) ≡ Ok (Some (record { name = name; bytes = file }))
sent_received name file pairs limit is h text named-so short fits =
    let size = length file in let ps = pieces_of file in
    let all = pieces_whole ((length file + 1013) / longest_piece) file (enough (length file)) in
    let own : of_module pairs ≡ pairs_of name file = ap of_module is ∙ ap (λ l. pair_of active_key (items.Simple 21) ∷ pair_of name_key (items.Text name) ∷ pair_of length_key (items.Uint size) ∷ pair_of hash_key (items.Bytes (sha384 file)) ∷ l) (own_pieces ps) in
    rw own
    (rw (active_said, name_said name h text named-so, length_said limit size (omega (arith, short)) fits, hash_said (sha384 file) (length-sha384 file))
    (pieces_back name size (sha384 file) 4 [] ps (omega (arith, short)) (omega (arith, ap length all)) ∙ ap (file_of name size (sha384 file)) all ∙ file_back name file))

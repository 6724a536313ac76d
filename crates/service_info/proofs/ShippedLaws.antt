-- A devmod that is written is read back.
use Rattle.std.proofs.Common.{◌≡◌, ℕ, suc, ◌+◌, ◌<◌, ◌^◌, List, [], ◌∷◌, ◌++◌, map, length, take, get_or, true, Option, Some, None, Ok, append_assoc, refl, sym, ap, subst, ◌∙◌, arith, inl}
use Rattle.std.proofs.lemmas.Bool.{eq-eqb}
use Rattle.std.proofs.lemmas.List.{append-nil, length-map, take_more}
use Rattle.std.specs.List.{AllByRecursion, flat_map}
use Rattle.std.specs.Str.{is_utf8}
use Rattle.std.specs.Prelude.{IsUtf8}
use Rattle.std.proofs.lemmas.Str.{is_utf8-from_IsUtf8}
use Rattle.cbor_core.specs.Head.{head}
use Rattle.service_info.proofs.PackLaws.{det_of_text, det_of_array}
use Rattle.cbor_core.proofs.Dets.{det_uint, det_simple}
use Rattle.std.specs.List.{concat}
use Rattle.cbor_core.specs.declared.item.Item.{Item, out-Item}
use Rattle.cbor_core.specs.declared.item.Item.TheOpen.{Item-F}
use Rattle.cbor_core.specs.declared.item.Item.TheFolds.{fold-roll-Item}
use Rattle.cbor_core.specs.declared.item.Item.TheVariants as items
use Rattle.cbor_core.specs.Deterministic.{det}
use Rattle.cbor_core.specs.Norm.{norm, norm_step, IsFit, IsFitLayer, IsFitWithin}
use Rattle.cbor_core.specs.Whole.{whole}
use Rattle.cbor_core.proofs.NormLaws.{norm_uint, norm_array, fit_uint, fit_array, fit_said}
use Rattle.cbor_core.proofs.WholeLaws.{spelled_whole}
use Rattle.service_info.specs.declared.devmod.Devmod.{Devmod}
use Rattle.service_info.specs.declared.devmod_key.DevmodKey.{DevmodKey}
use Rattle.service_info.specs.declared.devmod_key.DevmodKey.TheVariants as key
use Rattle.service_info.specs.declared.pair.Pair.{Pair}
use Rattle.service_info.specs.Devmod.{all_in, counted, devmod_of, listed, lists_needed, misplaced, named_layer, names_in_place, needed, text_of, true_of, true_layer, unsigned_of, unless_misplaced, unsigned_layer, value_at}
use Rattle.service_info.specs.Shipped.{item_of_names, pairs_of, shipped, texts_of, IsText}
use Rattle.service_info.proofs.PlaceLaws.{placed_on}
use Rattle.cbor_core.specs.Spots.{text_in}

-- ---- items are read back

pub read_back : (x : Item) → IsFit x → norm x ≡ x → whole (det x) ≡ Some x
read_back x fit same = spelled_whole (det x) (norm x) (fit_said x fit) ∙ ap Some same

pub norm_text : (t : List ℕ) → norm (items.Text t) ≡ items.Text t
norm_text t = ap norm (sym (items.rolls-Text t)) ∙ fold-roll-Item Item norm_step (Item-F.Text t)

norm_simple : (n : ℕ) → norm (items.Simple n) ≡ items.Simple n
norm_simple n = ap norm (sym (items.rolls-Simple n)) ∙ fold-roll-Item Item norm_step (Item-F.Simple n)

pub fit_text : (n : ℕ) (t : List ℕ) → IsText t → IsFitWithin (suc n) (items.Text t)
unfolding IsFitWithin
fit_text n t h = subst (IsFitLayer (IsFitWithin n)) (sym (items.outs-Text t)) h

fit_true : IsFitWithin 16 (items.Simple 21)
unfolding IsFitWithin
fit_true = subst (IsFitLayer (IsFitWithin 15)) (sym (items.outs-Simple 21)) (inl (omega arith))

pub true_back : whole (det (items.Simple 21)) ≡ Some (items.Simple 21)
true_back = read_back (items.Simple 21) fit_true (norm_simple 21)

pub text_back : (t : List ℕ) → IsText t → whole (det (items.Text t)) ≡ Some (items.Text t)
text_back t h = read_back (items.Text t) (fit_text 15 t h) (norm_text t)

pub number_back : (n : ℕ) → n < 2 ^ 64 → whole (det (items.Uint n)) ≡ Some (items.Uint n)
number_back n h = read_back (items.Uint n) (fit_uint 15 n h) (norm_uint n)

texts_norm : (ts : List (List ℕ)) → map norm (map items.Text ts) ≡ map items.Text ts
texts_norm [] = refl
texts_norm (t ∷ ts) = ap (λ x. x ∷ map norm (map items.Text ts)) (norm_text t) ∙ ap (λ xs. items.Text t ∷ xs) (texts_norm ts)

texts_fit : (ts : List (List ℕ)) → AllByRecursion IsText ts → AllByRecursion (IsFitWithin 15) (map items.Text ts)
texts_fit [] h = h
texts_fit (t ∷ ts) h = (fit_text 14 t h.0, texts_fit ts h.1)

names_back : (ts : List (List ℕ)) → length ts + 2 < 2 ^ 64 → AllByRecursion IsText ts → whole (det (item_of_names ts)) ≡ Some (item_of_names ts)
names_back ts short h =
    let parts = items.Uint 0 ∷ items.Uint (length ts) ∷ map items.Text ts in
    read_back (item_of_names ts)
    (fit_array 15 parts (omega (arith, short, length-map ts items.Text)) (fit_uint 14 0 (omega arith), (fit_uint 14 (length ts) (omega (arith, short)), texts_fit ts h)))
    (norm_array parts ∙ ap items.Array (ap (λ x. x ∷ map norm (items.Uint (length ts) ∷ map items.Text ts)) (norm_uint 0)
    ∙ ap (λ x. items.Uint 0 ∷ x ∷ map norm (map items.Text ts)) (norm_uint (length ts)) ∙ ap (λ xs. items.Uint 0 ∷ items.Uint (length ts) ∷ xs) (texts_norm ts)))

-- ---- what they say

pub text_said : (t : List ℕ) → text_of (items.Text t) ≡ Some t
text_said t = ap text_in (items.outs-Text t)

pub unsigned_said : (n : ℕ) → unsigned_of (items.Uint n) ≡ Some n
unsigned_said n = ap unsigned_layer (items.outs-Uint n)

pub true_said : true_of (items.Simple 21) ≡ Some tt
true_said = ap true_layer (items.outs-Simple 21)

texts_said : (ts : List (List ℕ)) → all_in text_of (map items.Text ts) ≡ Some ts
texts_said [] = refl
texts_said (t ∷ ts) = rw (text_said t, texts_said ts) refl

names_listed : (ts : List (List ℕ)) → listed (map items.Text ts) ≡ map items.Text ts
names_listed [] = refl
names_listed (t ∷ []) = rw (items.outs-Text t) refl
names_listed (t ∷ u ∷ ts) = refl

as_many : (ts : List (List ℕ)) → counted 0 (length ts) ts ≡ Some (record { start = 0; names = ts })
as_many ts = rw (eq-eqb (length ts) (length ts) refl) refl

names_said : (ts : List (List ℕ)) → named_layer (out-Item (item_of_names ts)) ≡ Some (record { start = 0; names = ts })
names_said ts =
    ap named_layer (items.outs-Array (items.Uint 0 ∷ items.Uint (length ts) ∷ map items.Text ts))
    ∙ (rw (unsigned_said 0, unsigned_said (length ts), names_listed ts, texts_said ts) (as_many ts))

-- ---- the whole

-- ---- what is written

pub utf8_of : (t : List ℕ) → IsUtf8 t → is_utf8 t ≡ true
utf8_of t h = is_utf8-from_IsUtf8 t h

pub text_written : (out t : List ℕ) → (out ++ head 3 (length t)) ++ t ≡ out ++ det (items.Text t)
text_written out t = append_assoc out (head 3 (length t)) t ∙ ap (λ text. out ++ text) (sym (det_of_text t))

pub det_of_uint : (n : ℕ) → det (items.Uint n) ≡ head 0 n
det_of_uint n = ap det (sym (items.rolls-Uint n)) ∙ det_uint n

pub det_of_simple : (n : ℕ) → det (items.Simple n) ≡ head 7 n
det_of_simple n = ap det (sym (items.rolls-Simple n)) ∙ det_simple n

texts_written : (ts : List (List ℕ)) → concat (map det (map items.Text ts)) ≡ flat_map (λ t. det (items.Text t)) ts
texts_written [] = refl
texts_written (t ∷ ts) = ap (λ text. det (items.Text t) ++ text) (texts_written ts)

pub names_written : (ts : List (List ℕ)) → det (item_of_names ts) ≡ (head 4 (length ts + 2) ++ head 0 0 ++ head 0 (length ts)) ++ flat_map (λ t. det (items.Text t)) ts
names_written ts =
    let count : length (items.Uint 0 ∷ items.Uint (length ts) ∷ map items.Text ts) ≡ length ts + 2 = omega (arith, length-map ts items.Text) in
    let rest = flat_map (λ t. det (items.Text t)) ts in
    det_of_array (items.Uint 0 ∷ items.Uint (length ts) ∷ map items.Text ts)
    ∙ ap (λ n. head 4 n ++ (det (items.Uint 0) ++ (det (items.Uint (length ts)) ++ concat (map det (map items.Text ts))))) count
    ∙ ap (λ text. head 4 (length ts + 2) ++ (text ++ (det (items.Uint (length ts)) ++ concat (map det (map items.Text ts))))) (det_of_uint 0)
    ∙ ap (λ text. head 4 (length ts + 2) ++ (head 0 0 ++ (text ++ concat (map det (map items.Text ts))))) (det_of_uint (length ts))
    ∙ ap (λ text. head 4 (length ts + 2) ++ (head 0 0 ++ (head 0 (length ts) ++ text))) (texts_written ts)
    ∙ sym (append_assoc (head 4 (length ts + 2)) (head 0 0) (head 0 (length ts) ++ rest))
    ∙ sym (append_assoc (head 4 (length ts + 2) ++ head 0 0) (head 0 (length ts)) rest)

-- ---- rows, as far as a loop has come

all_push : {X : Type 0} (P : X → Type 0) (xs : List X) (x : X) → AllByRecursion P xs → P x → AllByRecursion P (xs ++ x ∷ [])
all_push P [] x h one = (one, tt)
all_push P (y ∷ ys) x h one = (h.0, all_push P ys x h.1 one)

pub all_next : {X : Type 0} (P : X → Type 0) (xs : List X) (i : ℕ) (x : X) → i < length xs → x ≡ get_or xs i x → AllByRecursion P (take i xs) → P x → AllByRecursion P (take (i + 1) xs)
all_next P xs i x h e was one = subst (AllByRecursion P) (sym (take_more xs i x h)) (all_push P (take i xs) (get_or xs i x) was (subst P e one))

-- ---- the whole

-- a value that is of the type that is needed
of_type : {A : Type 0} (type_of : Item → Option A) (name : DevmodKey) (pairs : List Pair) (x : Item) (a : A) → value_at name pairs ≡ Some x → type_of x ≡ Some a → needed type_of name pairs ≡ Ok a
of_type type_of name pairs x a at is = rw (at, is) refl

lists_back : (devmod : Devmod) → whole (det (item_of_names devmod.modules)) ≡ Some (item_of_names devmod.modules)
    → lists_needed (pairs_of devmod) ≡ Ok (record { start = 0; names = devmod.modules } ∷ [])
lists_back devmod h = rw (h, names_said devmod.modules) refl

placed : (names : List (List ℕ)) → names_in_place (length names) (record { start = 0; names = names } ∷ []) ≡ Ok names
placed names =
    let n = length names in
    let over : misplaced n (0 + n) [] ≡ None = rw (eq-eqb (0 + n) n (omega arith)) refl in
    ap (λ o. unless_misplaced o (names ++ [])) (placed_on n 0 n [] (omega arith) ∙ over) ∙ ap Ok (append-nil names)

pub devmod_back : (devmod : Devmod) → AllByRecursion IsText (texts_of devmod) → length devmod.modules + 2 < 2 ^ 64 → devmod_of (pairs_of devmod) ≡ Ok devmod
unfolding devmod_of
devmod_back devmod texts short =
    let pairs = pairs_of devmod in
    let os = texts.0 in let arch = texts.1.0 in let version = texts.1.1.0 in let device = texts.1.1.1.0 in let bin = texts.1.1.1.1.0 in
    let modules = texts.1.1.1.1.1 in
    rw (
      of_type true_of key.Active pairs (items.Simple 21) tt true_back true_said,
      of_type text_of key.Os pairs (items.Text devmod.os) devmod.os (text_back devmod.os os) (text_said devmod.os),
      of_type text_of key.Arch pairs (items.Text devmod.arch) devmod.arch (text_back devmod.arch arch) (text_said devmod.arch),
      of_type text_of key.Version pairs (items.Text devmod.version) devmod.version (text_back devmod.version version) (text_said devmod.version),
      of_type text_of key.Device pairs (items.Text devmod.device) devmod.device (text_back devmod.device device) (text_said devmod.device),
      of_type text_of key.Bin pairs (items.Text devmod.bin) devmod.bin (text_back devmod.bin bin) (text_said devmod.bin),
      of_type unsigned_of key.NumModules pairs (items.Uint (length devmod.modules)) (length devmod.modules) (number_back (length devmod.modules) (omega (arith, short))) (unsigned_said (length devmod.modules)),
      lists_back devmod (names_back devmod.modules short modules),
      placed devmod.modules,
    ) refl

pub shipped_back : (info : List ℕ) (modules : List (List ℕ)) (pairs : List Pair) → pairs ≡ pairs_of (shipped info modules)
    → AllByRecursion IsText (texts_of (shipped info modules)) → length modules + 2 < 2 ^ 64 → devmod_of pairs ≡ Ok (shipped info modules)
shipped_back info modules pairs is texts few =
    ap devmod_of is ∙ devmod_back (shipped info modules) texts few

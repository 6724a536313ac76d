-- Items that are made: their norm, how they are fit to be written, and what their parts say.
use Rattle.std.proofs.Common.{◌≡◌, ℕ, suc, ◌^◌, ◌<◌, ◌≤◌, ℤ, pos, negsuc, List, [], ◌∷◌, map, length, Some, refl, sym, ap, subst, ◌∙◌, arith, true, false, Bool}
use Rattle.std.specs.Prelude.{nat_lt, if◌then◌else◌, option_and_then, ◌+◌, ◌*◌}
use Rattle.std.specs.Int.{w8, w16, w32, w64, to_be_bytes}
use Rattle.std.specs.List.{AllByRecursion}
use Rattle.std.proofs.lemmas.Bool.{lt-ltb, eq-eqb}
use Rattle.cbor_core.specs.declared.item.Item.{Item, out-Item}
use Rattle.cbor_core.specs.declared.item.Item.TheOpen.{Item-F}
use Rattle.cbor_core.specs.declared.item.Item.TheFolds.{fold-roll-Item}
use Rattle.cbor_core.specs.declared.item.Item.TheVariants as items
use Rattle.cbor_core.specs.Head.{head}
use Rattle.cbor_core.specs.Deterministic.{det}
use Rattle.cbor_core.specs.Norm.{norm, norm_step, in_order, IsFit, IsFitLayer, IsFitWithin}
use Rattle.cbor_core.specs.Numbers.{integer_layer, integer_in, item_of_integer, IsI64}
use Rattle.cbor_core.specs.Shapes.{three_items, four_items, three_of, four_of, array_layer, pairs_layer, tagged_layer, tagged_in}
use Rattle.cbor_core.specs.Spelling.{Spells}
use Rattle.cbor_core.specs.Spots.{bytes_in}
use Rattle.cbor_core.proofs.Dets.{norm_pair}
use Rattle.cbor_core.proofs.Fits.{fit_spells}
use Rattle.cbor_core.proofs.Loose.{loosely}

-- ---- the norm

pub norm_uint : (n : ℕ) → norm (items.Uint n) ≡ items.Uint n
norm_uint n = ap norm (sym (items.rolls-Uint n)) ∙ fold-roll-Item Item norm_step (Item-F.Uint n)

pub norm_nint : (n : ℕ) → norm (items.Nint n) ≡ items.Nint n
norm_nint n = ap norm (sym (items.rolls-Nint n)) ∙ fold-roll-Item Item norm_step (Item-F.Nint n)

pub norm_bytes : (b : List ℕ) → norm (items.Bytes b) ≡ items.Bytes b
norm_bytes b = ap norm (sym (items.rolls-Bytes b)) ∙ fold-roll-Item Item norm_step (Item-F.Bytes b)

pub norm_array : (xs : List Item) → norm (items.Array xs) ≡ items.Array (map norm xs)
norm_array xs = ap norm (sym (items.rolls-Array xs)) ∙ fold-roll-Item Item norm_step (Item-F.Array xs)

pub norm_map : (ps : List (Item × Item)) → norm (items.Map ps) ≡ items.Map (in_order (map norm_pair ps))
norm_map ps = ap norm (sym (items.rolls-Map ps)) ∙ fold-roll-Item Item norm_step (Item-F.Map ps)

pub norm_tag : (t : ℕ) (x : Item) → norm (items.Tag t x) ≡ items.Tag t (norm x)
norm_tag t x = ap norm (sym (items.rolls-Tag t x)) ∙ fold-roll-Item Item norm_step (Item-F.Tag t x)

pub norm_integer : (n : ℤ) → norm (item_of_integer n) ≡ item_of_integer n
norm_integer (pos n) = norm_uint n
norm_integer (negsuc n) = norm_nint n

-- one pair is in order
pub norm_one : (k v : Item) → norm (items.Map ((k, v) ∷ [])) ≡ items.Map ((norm k, norm v) ∷ [])
norm_one k v = norm_map ((k, v) ∷ [])

pub norm_none : norm (items.Map []) ≡ items.Map []
norm_none = norm_map []

-- ---- what parts say

pub integer_back : (n : ℤ) → IsI64 n → integer_in (item_of_integer n) ≡ Some n
integer_back (pos n) h = ap integer_layer (items.outs-Uint n) ∙ (rw (lt-ltb n (2 ^ 63) h) refl)
integer_back (negsuc n) h = ap integer_layer (items.outs-Nint n) ∙ (rw (lt-ltb n (2 ^ 63) h) refl)

pub content_back : (b : List ℕ) → bytes_in (out-Item (items.Bytes b)) ≡ Some b
content_back b = ap bytes_in (items.outs-Bytes b)

pub pairs_back : (ps : List (Item × Item)) → pairs_layer (out-Item (items.Map ps)) ≡ Some ps
pairs_back ps = ap pairs_layer (items.outs-Map ps)

pub three_back : (a b c : Item) → three_items (items.Array (a ∷ b ∷ c ∷ [])) ≡ Some (a, b, c)
three_back a b c = ap (λ f. option_and_then three_of (array_layer f)) (items.outs-Array (a ∷ b ∷ c ∷ []))

pub four_back : (a b c d : Item) → four_items (items.Array (a ∷ b ∷ c ∷ d ∷ [])) ≡ Some (a, b, c, d)
four_back a b c d = ap (λ f. option_and_then four_of (array_layer f)) (items.outs-Array (a ∷ b ∷ c ∷ d ∷ []))

pub tagged_back : (t : ℕ) (x : Item) → tagged_in t (items.Tag t x) ≡ Some x
tagged_back t x = ap (tagged_layer t) (items.outs-Tag t x) ∙ (rw (eq-eqb t t refl) refl)

-- ---- fit to be written

module _ (n : ℕ) where
  pub fit_uint : (m : ℕ) → m < 2 ^ 64 → IsFitWithin (suc n) (items.Uint m)
  unfolding IsFitWithin
  fit_uint m h = subst (IsFitLayer (IsFitWithin n)) (sym (items.outs-Uint m)) h

  pub fit_nint : (m : ℕ) → m < 2 ^ 64 → IsFitWithin (suc n) (items.Nint m)
  unfolding IsFitWithin
  fit_nint m h = subst (IsFitLayer (IsFitWithin n)) (sym (items.outs-Nint m)) h

  pub fit_integer : (x : ℤ) → IsI64 x → IsFitWithin (suc n) (item_of_integer x)
  fit_integer (pos m) h = fit_uint m (omega arith)
  fit_integer (negsuc m) h = fit_nint m (omega arith)

  pub fit_bytes : (b : List ℕ) → length b < 2 ^ 64 → IsFitWithin (suc n) (items.Bytes b)
  unfolding IsFitWithin
  fit_bytes b h = subst (IsFitLayer (IsFitWithin n)) (sym (items.outs-Bytes b)) h

  pub fit_array : (xs : List Item) → length xs < 2 ^ 64 → AllByRecursion (IsFitWithin n) xs → IsFitWithin (suc n) (items.Array xs)
  unfolding IsFitWithin
  fit_array xs h each = subst (IsFitLayer (IsFitWithin n)) (sym (items.outs-Array xs)) (h, each)

  pub fit_map : (ps : List (Item × Item)) → length ps < 2 ^ 64 → AllByRecursion (λ p. IsFitWithin n p.0 × IsFitWithin n p.1) ps → IsFitWithin (suc n) (items.Map ps)
  unfolding IsFitWithin
  fit_map ps h each = subst (IsFitLayer (IsFitWithin n)) (sym (items.outs-Map ps)) (h, each)

  pub fit_tag : (t : ℕ) (x : Item) → t < 2 ^ 64 → IsFitWithin n x → IsFitWithin (suc n) (items.Tag t x)
  unfolding IsFitWithin
  fit_tag t x h fit = subst (IsFitLayer (IsFitWithin n)) (sym (items.outs-Tag t x)) (h, fit)

-- what is fit is spelled by its deterministic spelling, its maps' pairs in order
pub fit_said : (x : Item) → IsFit x → Spells (norm x) (det x)
fit_said x h = loosely 16 (norm x) (det x) (fit_spells 16 x h)

-- ---- lengths of deterministic spellings

abbrev head_by : ℕ → ℕ → Bool → Bool → Bool → Bool → List ℕ
head_by m n a b c d =
    if a then (32 * m + n) ∷ []
    else if b then (32 * m + 24) ∷ to_be_bytes w8 n
    else if c then (32 * m + 25) ∷ to_be_bytes w16 n
    else if d then (32 * m + 26) ∷ to_be_bytes w32 n
    else (32 * m + 27) ∷ to_be_bytes w64 n

short_by : (m n : ℕ) (a b c d : Bool) → length (head_by m n a b c d) ≤ 9
short_by m n true b c d = omega arith
short_by m n false true c d = omega arith
short_by m n false false true d = omega arith
short_by m n false false false true = omega arith
short_by m n false false false false = omega arith

pub head_short : (m n : ℕ) → length (head m n) ≤ 9
unfolding head
head_short m n = short_by m n (nat_lt n 24) (nat_lt n (2 ^ 8)) (nat_lt n (2 ^ 16)) (nat_lt n (2 ^ 32))

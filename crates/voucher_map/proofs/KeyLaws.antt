-- Keys are compared exactly.
use Rattle.std.proofs.Common.{◌≡◌, ◌↔◌, inl, inr, ℕ, ℤ, List, [], ◌∷◌, Bool, true, false, ◌&&◌, IsTrue, refl, ap, sym, ◌∙◌, subst}
use Rattle.std.specs.Cmp.Lexicographic.{pointwise}
use Rattle.std.specs.Ordering.{int_eq}
use Rattle.std.specs.Str.{bytes_eq}
use Rattle.std.proofs.lemmas.Bool.{cases_Bool, false≢true}
use Rattle.std.proofs.lemmas.Bool.Decides.{Decides-int_eq}
use Rattle.std.proofs.lemmas.Slice.Eq.{bytes_eq-Decides}
use Rattle.key_codec.specs.declared.key.PublicKey.{PublicKey}
use Rattle.key_codec.specs.declared.key.KeyBody.{KeyBody}
use Rattle.key_codec.specs.declared.key.CoseKey.{CoseKey}
use Rattle.key_codec.specs.declared.key.KeyBody.TheVariants as body
use Rattle.voucher_map.specs.Keys.{same_body, same_key}

both : (a b : Bool) → a ≡ true → b ≡ true → (a && b) ≡ true
both true true one two = refl
both true false one two = two
both false b one two = one

same_bytes : (x : List ℕ) → bytes_eq x x ≡ true
same_bytes x = (bytes_eq-Decides x x).1 refl

same_int : (x : ℤ) → int_eq x x ≡ true
same_int x = (Decides-int_eq x x).1 refl

same_texts : (xs : List (List ℕ)) → pointwise bytes_eq xs xs ≡ true
same_texts [] = refl
same_texts (x ∷ xs) = both (bytes_eq x x) (pointwise bytes_eq xs xs) (same_bytes x) (same_texts xs)

body_to_itself : (x : KeyBody) → same_body x x ≡ true
body_to_itself (body.Bytes a) = same_bytes a
body_to_itself (body.Chain a) = same_texts a
body_to_itself (body.Cose a) = both (int_eq a.curve a.curve) (bytes_eq a.x a.x && bytes_eq a.y a.y) (same_int a.curve) (both (bytes_eq a.x a.x) (bytes_eq a.y a.y) (same_bytes a.x) (same_bytes a.y))

pub key_to_itself : (k : PublicKey) → same_key k k ≡ true
unfolding same_key
key_to_itself k = both (int_eq k.kind k.kind) (int_eq k.enc k.enc && same_body k.body k.body) (same_int k.kind) (both (int_eq k.enc k.enc) (same_body k.body k.body) (same_int k.enc) (body_to_itself k.body))

left : (a b : Bool) → (a && b) ≡ true → a ≡ true
left true b is = refl
left false b is = is

right : (a b : Bool) → (a && b) ≡ true → b ≡ true
right true b is = is
right false b is = absurd (false≢true is)

texts_same : (xs ys : List (List ℕ)) → pointwise bytes_eq xs ys ≡ true → xs ≡ ys
texts_same [] [] is = refl
texts_same [] (y ∷ ys) is = absurd (false≢true is)
texts_same (x ∷ xs) [] is = absurd (false≢true is)
texts_same (x ∷ xs) (y ∷ ys) is =
    let head : x ≡ y = (bytes_eq-Decides x y).0 (left (bytes_eq x y) (pointwise bytes_eq xs ys) is) in
    let tail : xs ≡ ys = texts_same xs ys (right (bytes_eq x y) (pointwise bytes_eq xs ys) is) in
    cc

cose_same : (a b : CoseKey) → a.curve ≡ b.curve → a.x ≡ b.x → a.y ≡ b.y → a ≡ b
cose_same a b curve x y =
    ap (λ c. record { curve = c; x = a.x; y = a.y }) curve ∙ ap (λ x. record { curve = b.curve; x = x; y = a.y }) x ∙ ap (λ y. record { curve = b.curve; x = b.x; y = y }) y

parts_same : (a b : PublicKey) → a.kind ≡ b.kind → a.enc ≡ b.enc → a.body ≡ b.body → a ≡ b
parts_same a b kind enc inside =
    ap (λ k. record { kind = k; enc = a.enc; body = a.body }) kind ∙ ap (λ e. record { kind = b.kind; enc = e; body = a.body }) enc ∙ ap (λ y. record { kind = b.kind; enc = b.enc; body = y }) inside

body_same : (x y : KeyBody) → same_body x y ≡ true → x ≡ y
body_same (body.Bytes a) (body.Bytes b) is = ap body.Bytes ((bytes_eq-Decides a b).0 is)
body_same (body.Chain a) (body.Chain b) is = ap body.Chain (texts_same a b is)
body_same (body.Cose a) (body.Cose b) is =
    let curve : a.curve ≡ b.curve = (Decides-int_eq a.curve b.curve).0 (left (int_eq a.curve b.curve) (bytes_eq a.x b.x && bytes_eq a.y b.y) is) in
    let rest = right (int_eq a.curve b.curve) (bytes_eq a.x b.x && bytes_eq a.y b.y) is in
    let x : a.x ≡ b.x = (bytes_eq-Decides a.x b.x).0 (left (bytes_eq a.x b.x) (bytes_eq a.y b.y) rest) in
    let y : a.y ≡ b.y = (bytes_eq-Decides a.y b.y).0 (right (bytes_eq a.x b.x) (bytes_eq a.y b.y) rest) in
    ap body.Cose (cose_same a b curve x y)
body_same (body.Bytes a) (body.Chain b) is = absurd (false≢true is)
body_same (body.Bytes a) (body.Cose b) is = absurd (false≢true is)
body_same (body.Chain a) (body.Bytes b) is = absurd (false≢true is)
body_same (body.Chain a) (body.Cose b) is = absurd (false≢true is)
body_same (body.Cose a) (body.Bytes b) is = absurd (false≢true is)
body_same (body.Cose a) (body.Chain b) is = absurd (false≢true is)

pub key_same : (a b : PublicKey) → same_key a b ≡ true → a ≡ b
unfolding same_key
key_same a b is =
    let kind : a.kind ≡ b.kind = (Decides-int_eq a.kind b.kind).0 (left (int_eq a.kind b.kind) (int_eq a.enc b.enc && same_body a.body b.body) is) in
    let rest = right (int_eq a.kind b.kind) (int_eq a.enc b.enc && same_body a.body b.body) is in
    let enc : a.enc ≡ b.enc = (Decides-int_eq a.enc b.enc).0 (left (int_eq a.enc b.enc) (same_body a.body b.body) rest) in
    let inside : a.body ≡ b.body = body_same a.body b.body (right (int_eq a.enc b.enc) (same_body a.body b.body) rest) in
    parts_same a b kind enc inside

pub same_told : (r : Bool) (a b : PublicKey) → (IsTrue r ↔ (a ≡ b)) → r ≡ same_key a b
same_told true a b told = sym (subst (λ k. same_key a k ≡ true) (told.0 refl) (key_to_itself a))
same_told false a b told = elim (cases_Bool (same_key a b)) [
  | inl same ↦ absurd (false≢true (told.1 (key_same a b same)))
  | inr differ ↦ sym differ
]

-- What is written is read.
use Rattle.std.proofs.Common.{◌≡◌, ℕ, ◌^◌, ℤ, pos, negsuc, Bool, true, false, List, [], ◌∷◌, map, Some, None, Ok, refl, sym, ap, subst, ◌∙◌, lit<}
use Rattle.std.specs.Prelude.{◌≢◌, option_and_then, ◌||◌, if◌then◌else◌}
use Rattle.std.specs.List.{AllByRecursion, list_any}
use Rattle.std.specs.Ordering.{int_eq}
use Rattle.std.proofs.lemmas.Bool.{lt-ltb}
use Rattle.std.proofs.lemmas.Bool.Decides.{Decides-int_eq}
use Rattle.cbor_core.specs.declared.item.Item.{Item}
use Rattle.cbor_core.specs.declared.item.Item.TheVariants as items
use Rattle.key_codec.specs.declared.encoding.Form.{Form}
use Rattle.key_codec.specs.declared.encoding.Form.TheVariants as form
use Rattle.key_codec.specs.declared.key.CoseKey.{CoseKey}
use Rattle.key_codec.specs.declared.key.KeyBody.{KeyBody}
use Rattle.key_codec.specs.declared.key.KeyBody.TheVariants as body
use Rattle.key_codec.specs.declared.key.PublicKey.{PublicKey}
use Rattle.key_codec.specs.Fault.{◌>>=◌, shaped}
use Rattle.cbor_core.specs.Numbers.{integer_layer, integer_in, item_of_integer, IsI64}
use Rattle.key_codec.specs.Parts.{two_in, three_in, bytes_in, number_in, all_bytes}
use Rattle.cbor_core.specs.Spots.{bytes_in as bytes_layer}
use Rattle.cbor_core.specs.Shapes.{array_layer, two_of, three_of, pairs_layer}
use Rattle.key_codec.specs.Key.{key_types, is_key_type, form_of, form_of_body, chain_of, chain_layer, chain_in, cose_of, cose_in, body_of_form, body_in, key_in, is_curve, item_of_cose, item_of_body, item_of_key, IsBody, IsKey}

-- ---- parts

pub integer_back : (n : ℤ) → IsI64 n → integer_in (item_of_integer n) ≡ Some n
integer_back (pos n) h = ap integer_layer (items.outs-Uint n) ∙ (rw (lt-ltb n (2 ^ 63) h) refl)
integer_back (negsuc n) h = ap integer_layer (items.outs-Nint n) ∙ (rw (lt-ltb n (2 ^ 63) h) refl)

pub number_back : (n : ℤ) → IsI64 n → number_in (item_of_integer n) ≡ Ok n
number_back n h = rw (integer_back n h) refl

pub bytes_back : (b : List ℕ) → bytes_in (items.Bytes b) ≡ Ok b
bytes_back b = ap (λ f. shaped (bytes_layer f)) (items.outs-Bytes b)

pub two_back : (a b : Item) → two_in (items.Array (a ∷ b ∷ [])) ≡ Ok (a, b)
two_back a b = ap (λ f. shaped (option_and_then two_of (array_layer f))) (items.outs-Array (a ∷ b ∷ []))

pub three_back : (a b c : Item) → three_in (items.Array (a ∷ b ∷ c ∷ [])) ≡ Ok (a, b, c)
three_back a b c = ap (λ f. shaped (option_and_then three_of (array_layer f))) (items.outs-Array (a ∷ b ∷ c ∷ []))

-- ---- numbers of 64 bits with a sign

pub same_int : (x y : ℤ) → IsI64 y → int_eq x y ≡ true → IsI64 x
same_int x y h e = subst IsI64 (sym ((Decides-int_eq x y).0 e)) h

either : {P : Type 0} (a b : Bool) → (a ≡ true → P) → (b ≡ true → P) → (a || b) ≡ true → P
either true b pa pb e = pa refl
either false b pa pb e = pb e

any_int : (x : ℤ) (ys : List ℤ) → AllByRecursion IsI64 ys → list_any (λ y. int_eq x y) ys ≡ true → IsI64 x
any_int x [] h e = absurd cc
any_int x (y ∷ ys) h e = either (int_eq x y) (list_any (λ y. int_eq x y) ys) (same_int x y h.0) (any_int x ys h.1) e

pub type_fits : (kind : ℤ) → is_key_type kind ≡ true → IsI64 kind
type_fits kind e = any_int kind key_types (lit< tt, (lit< tt, (lit< tt, (lit< tt, (lit< tt, (lit< tt, (lit< tt, tt))))))) e

forms : {P : Type 0} (a b c d : Bool) (f : Form) → (a ≡ true → P) → (b ≡ true → P) → (c ≡ true → P) → (d ≡ true → P)
    → (if a || b then Some form.Bytes else if c then Some form.Chain else if d then Some form.Cose else None) ≡ Some f → P
forms true b c d f pa pb pc pd e = pa refl
forms false true c d f pa pb pc pd e = pb refl
forms false false true d f pa pb pc pd e = pc refl
forms false false false true f pa pb pc pd e = pd refl
forms false false false false f pa pb pc pd e = absurd cc

pub encoding_fits : (enc : ℤ) (f : Form) → form_of enc ≡ Some f → IsI64 enc
encoding_fits enc f e =
    forms (int_eq enc (pos 0)) (int_eq enc (pos 1)) (int_eq enc (pos 2)) (int_eq enc (pos 3)) f
    (same_int enc (pos 0) (lit< tt)) (same_int enc (pos 1) (lit< tt)) (same_int enc (pos 2) (lit< tt)) (same_int enc (pos 3) (lit< tt)) e

pub curve_fits : (curve : ℤ) → is_curve curve ≡ true → IsI64 curve
curve_fits curve e = either (int_eq curve (pos 1)) (int_eq curve (pos 2)) (same_int curve (pos 1) (lit< tt)) (same_int curve (pos 2) (lit< tt)) e

-- ---- bodies

all_back : (bs : List (List ℕ)) → all_bytes (map items.Bytes bs) ≡ Ok bs
all_back [] = refl
all_back (b ∷ bs) = rw (bytes_back b, all_back bs) refl

some_back : (bs : List (List ℕ)) → bs ≢ [] → chain_of bs ≡ Ok bs
some_back [] h = absurd (h refl)
some_back (b ∷ bs) h = refl

pub chain_back : (bs : List (List ℕ)) → bs ≢ [] → chain_in (items.Array (map items.Bytes bs)) ≡ Ok bs
chain_back bs h = ap chain_layer (items.outs-Array (map items.Bytes bs)) ∙ (rw (all_back bs) (some_back bs h))

cose_pairs : (c : CoseKey) → is_curve c.curve ≡ true → cose_of ((items.Uint 1, items.Uint 2) ∷ (items.Nint 0, item_of_integer c.curve) ∷ (items.Nint 1, items.Bytes c.x) ∷ (items.Nint 2, items.Bytes c.y) ∷ []) ≡ Ok c
cose_pairs c h = rw (integer_back (pos 1) (lit< tt), integer_back (pos 2) (lit< tt), integer_back (negsuc 0) (lit< tt), integer_back (negsuc 1) (lit< tt), integer_back (negsuc 2) (lit< tt), integer_back c.curve (curve_fits c.curve h), bytes_back c.x, bytes_back c.y, h) refl

cose_back : (c : CoseKey) → is_curve c.curve ≡ true → cose_in (item_of_cose c) ≡ Ok c
cose_back c h =
    let ps : List (Item × Item) = (items.Uint 1, items.Uint 2) ∷ (items.Nint 0, item_of_integer c.curve) ∷ (items.Nint 1, items.Bytes c.x) ∷ (items.Nint 2, items.Bytes c.y) ∷ [] in
    ap (λ f. shaped (pairs_layer f) >>= cose_of) (items.outs-Map ps) ∙ cose_pairs c h

pub body_back : (b : KeyBody) → IsBody b → body_of_form (form_of_body b) (item_of_body b) ≡ Ok b
body_back (body.Bytes b) h = rw (bytes_back b) refl
body_back (body.Chain bs) h = rw (chain_back bs h) refl
body_back (body.Cose c) h = rw (cose_back c h) refl

pub key_back : (key : PublicKey) → IsKey key → key_in (item_of_key key) ≡ Ok key
unfolding key_in body_in
key_back key h =
    let enc = item_of_integer key.enc in
    rw (three_back (item_of_integer key.kind) enc (item_of_body key.body), number_back key.kind (type_fits key.kind h.kind), number_back key.enc (encoding_fits key.enc (form_of_body key.body) h.enc), h.kind, h.enc, body_back key.body h.body) refl

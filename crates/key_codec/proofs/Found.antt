-- What is read is a key of the form.
use Rattle.std.proofs.Common.{◌≡◌, ℕ, ℤ, pos, negsuc, Bool, true, false, List, [], ◌∷◌, Option, Some, None, Result, Ok, Err, refl, ap, subst, ◌∙◌}
use Rattle.std.specs.Prelude.{◌≢◌, ◌&&◌, if◌then◌else◌}
use Rattle.std.specs.Ordering.{int_eq}
use Rattle.std.proofs.lemmas.Bool.Decides.{Decides-int_eq}
use Rattle.cbor_core.specs.declared.item.Item.{Item, out-Item}
use Rattle.cbor_core.specs.declared.item.Item.TheOpen.{Item-F}
use Rattle.key_codec.specs.declared.fault.KeyFault.{KeyFault}
use Rattle.key_codec.specs.declared.fault.KeyFault.TheVariants as fault
use Rattle.key_codec.specs.declared.encoding.Form.{Form}
use Rattle.key_codec.specs.declared.encoding.Form.TheVariants as form
use Rattle.key_codec.specs.declared.key.CoseKey.{CoseKey}
use Rattle.key_codec.specs.declared.key.KeyBody.{KeyBody}
use Rattle.key_codec.specs.declared.key.KeyBody.TheVariants as body
use Rattle.key_codec.specs.declared.key.PublicKey.{PublicKey}
use Rattle.key_codec.specs.Fault.{◌>>=◌, shaped}
use Rattle.key_codec.specs.Parts.{three_in, bytes_in, number_in, all_bytes, number_at, bytes_at}
use Rattle.cbor_core.specs.Shapes.{pairs_layer}
use Rattle.key_codec.specs.Key.{is_key_type, form_of, form_of_body, chain_of, chain_layer, chain_in, cose_of, cose_in, body_of_form, body_if_known, body_in, key_of, key_in, is_curve, IsBody, IsKey}
use Rattle.key_codec.proofs.Binds.{bind_ok, ok_is}

-- a test that was passed
pub passed : {A : Type 0} (b : Bool) (r : Result A KeyFault) (d : KeyFault) (x : A) → (if b then r else Err d) ≡ Ok x → (b ≡ true) × (r ≡ Ok x)
passed true r d x e = (refl, e)
passed false r d x e = absurd cc

both : (a b : Bool) → (a && b) ≡ true → b ≡ true
both true b e = e
both false b e = absurd cc

first_both : (a b : Bool) → (a && b) ≡ true → a ≡ true
first_both true b e = refl
first_both false b e = absurd cc

-- ---- bodies

of_some : (xs bs : List (List ℕ)) → chain_of xs ≡ Ok bs → bs ≢ []
of_some [] bs e empty = absurd cc
of_some (x ∷ xs) bs e empty = absurd (cc (ok_is (x ∷ xs) bs e, empty))

one_some : (b : List ℕ) (bs : List (List ℕ)) → b ∷ [] ≡ bs → bs ≢ []
one_some b bs e empty = absurd (cc (e, empty))

layer_some : (f : Item-F Item) (bs : List (List ℕ)) → chain_layer f ≡ Ok bs → bs ≢ []
layer_some (Item-F.Uint n) bs e = absurd cc
layer_some (Item-F.Nint n) bs e = absurd cc
layer_some (Item-F.Bytes b) bs e = one_some b bs (ok_is (b ∷ []) bs e)
layer_some (Item-F.Text t) bs e = absurd cc
layer_some (Item-F.Array xs) bs e = let b = bind_ok (all_bytes xs) chain_of bs e in of_some b.0 bs b.2
layer_some (Item-F.Map ps) bs e = absurd cc
layer_some (Item-F.Tag t x) bs e = absurd cc
layer_some (Item-F.Simple n) bs e = absurd cc

-- what a COSE key was read from
pub record IsPoint (ps : List (Item × Item)) (c : CoseKey) : Type 0 where
  pub curve : is_curve c.curve ≡ true
  pub family : number_at (pos 1) ps ≡ Ok (pos 2)
  pub number : number_at (negsuc 0) ps ≡ Ok c.curve
  pub x : bytes_at (negsuc 1) ps ≡ Ok c.x
  pub y : bytes_at (negsuc 2) ps ≡ Ok c.y

pub point_found : (ps : List (Item × Item)) (c : CoseKey) → cose_of ps ≡ Ok c → IsPoint ps c
point_found ps c e =
    let made : ℤ → ℤ → List ℕ → List ℕ → Result CoseKey KeyFault = λ family curve x y. if int_eq family (pos 2) && is_curve curve then Ok (record { curve = curve; x = x; y = y }) else Err fault.BadShape in
    let f = bind_ok (number_at (pos 1) ps) (λ family. number_at (negsuc 0) ps >>= λ curve. bytes_at (negsuc 1) ps >>= λ x. bytes_at (negsuc 2) ps >>= λ y. made family curve x y) c e in
    let k = bind_ok (number_at (negsuc 0) ps) (λ curve. bytes_at (negsuc 1) ps >>= λ x. bytes_at (negsuc 2) ps >>= λ y. made f.0 curve x y) c f.2 in
    let x = bind_ok (bytes_at (negsuc 1) ps) (λ x. bytes_at (negsuc 2) ps >>= λ y. made f.0 k.0 x y) c k.2 in
    let y = bind_ok (bytes_at (negsuc 2) ps) (λ y. made f.0 k.0 x.0 y) c x.2 in
    let key : CoseKey = record { curve = k.0; x = x.0; y = y.0 } in
    let p = passed (int_eq f.0 (pos 2) && is_curve k.0) (Ok key) fault.BadShape c y.2 in
    subst (IsPoint ps) {x = key} (ok_is key c p.1) (record {
      curve = both (int_eq f.0 (pos 2)) (is_curve k.0) p.0;
      family = f.1 ∙ ap Ok ((Decides-int_eq f.0 (pos 2)).0 (first_both (int_eq f.0 (pos 2)) (is_curve k.0) p.0));
      number = k.1;
      x = x.1;
      y = y.1;
    })

-- a body of a form
pub record IsOf (f : Form) (b : KeyBody) : Type 0 where
  pub form : f ≡ form_of_body b
  pub body : IsBody b

of_bytes : (b : List ℕ) → IsOf form.Bytes (body.Bytes b)
of_bytes b = record { form = refl; body = tt }

pub form_found : (f : Form) (item : Item) (b : KeyBody) → body_of_form f item ≡ Ok b → IsOf f b
form_found form.Bytes item b e =
    let p = bind_ok (bytes_in item) (λ c. Ok (body.Bytes c)) b e in
    subst (IsOf form.Bytes) (ok_is (body.Bytes p.0) b p.2) (of_bytes p.0)
form_found form.Chain item b e =
    let p = bind_ok (chain_in item) (λ c. Ok (body.Chain c)) b e in
    subst (IsOf form.Chain) (ok_is (body.Chain p.0) b p.2) (record { form = refl; body = layer_some (out-Item item) p.0 p.1 })
form_found form.Cose item b e =
    let p = bind_ok (cose_in item) (λ c. Ok (body.Cose c)) b e in
    let q = bind_ok (shaped (pairs_layer (out-Item item))) cose_of p.0 p.1 in
    subst (IsOf form.Cose) (ok_is (body.Cose p.0) b p.2) (record { form = refl; body = (point_found q.0 p.0 q.2).curve })

known_found : (enc : ℤ) (o : Option Form) (item : Item) (b : KeyBody) → body_if_known enc o item ≡ Ok b → (o ≡ Some (form_of_body b)) × IsBody b
known_found enc None item b e = absurd cc
known_found enc (Some f) item b e = let p = form_found f item b e in (ap Some p.form, p.body)

pub body_found : (enc : ℤ) (item : Item) (b : KeyBody) → body_in enc item ≡ Ok b → (form_of enc ≡ Some (form_of_body b)) × IsBody b
unfolding body_in
body_found enc item b e = known_found enc (form_of enc) item b e

-- ---- keys

-- what a key was read from
pub record IsFrom (item : Item) (key : PublicKey) : Type 0 where
  pub parts : Item × Item × Item
  pub array : three_in item ≡ Ok parts
  pub kind : number_in parts.0 ≡ Ok key.kind
  pub enc : number_in parts.1 ≡ Ok key.enc
  pub known : is_key_type key.kind ≡ true
  pub body : body_in key.enc parts.2 ≡ Ok key.body

pub key_found : (item : Item) (key : PublicKey) → key_in item ≡ Ok key → IsFrom item key
unfolding key_in
key_found item key e =
    let p = bind_ok (three_in item) (λ parts. number_in parts.0 >>= λ kind. number_in parts.1 >>= λ enc. key_of kind enc parts.2) key e in
    let k = bind_ok (number_in p.0.0) (λ kind. number_in p.0.1 >>= λ enc. key_of kind enc p.0.2) key p.2 in
    let n = bind_ok (number_in p.0.1) (λ enc. key_of k.0 enc p.0.2) key k.2 in
    let made : KeyBody → PublicKey = λ b. record { kind = k.0; enc = n.0; body = b } in
    let t = passed (is_key_type k.0) (body_in n.0 p.0.2 >>= λ b. Ok (made b)) (fault.BadType k.0) key n.2 in
    let b = bind_ok (body_in n.0 p.0.2) (λ b. Ok (made b)) key t.1 in
    subst (IsFrom item) {x = made b.0} (ok_is (made b.0) key b.2) (record { parts = p.0; array = p.1; kind = k.1; enc = n.1; known = t.0; body = b.1 })

pub key_is : (item : Item) (key : PublicKey) → key_in item ≡ Ok key → IsKey key
key_is item key e =
    let from = key_found item key e in
    let b = body_found key.enc from.parts.2 key.body from.body in
    record { kind = from.known; enc = b.0; body = b.1 }

-- An item is read as a value exactly where it is one of the value's items.
use Rattle.std.proofs.Common.{◌≡◌, ℕ, ◌^◌, ℤ, pos, negsuc, Bool, true, false, List, [], ◌∷◌, map, Option, Some, None, Result, Ok, Err, refl, sym, ap, subst, ◌∙◌, lit<, inl, inr}
use Rattle.std.specs.Prelude.{◌≢◌, option_and_then, nat_lt, if◌then◌else◌, IfOk}
use Rattle.cbor_core.specs.declared.item.Item.{Item, out-Item, roll-Item, roll-out-Item}
use Rattle.cbor_core.specs.declared.item.Item.TheOpen.{Item-F}
use Rattle.cbor_core.specs.declared.item.Item.TheVariants as items
use Rattle.key_codec.specs.declared.fault.KeyFault.{KeyFault}
use Rattle.key_codec.specs.declared.encoding.Form.{Form}
use Rattle.key_codec.specs.declared.encoding.Form.TheVariants as form
use Rattle.key_codec.specs.declared.key.CoseKey.{CoseKey}
use Rattle.key_codec.specs.declared.key.KeyBody.{KeyBody}
use Rattle.key_codec.specs.declared.key.KeyBody.TheVariants as body
use Rattle.key_codec.specs.declared.key.PublicKey.{PublicKey}
use Rattle.key_codec.specs.Fault.{◌>>=◌, shaped, Says}
use Rattle.cbor_core.specs.Numbers.{within_i64, integer_layer, integer_in, item_of_integer}
use Rattle.key_codec.specs.Parts.{two_in, three_in, bytes_in, number_in, all_bytes, number_at, bytes_at}
use Rattle.cbor_core.specs.Spots.{bytes_in as bytes_layer}
use Rattle.cbor_core.specs.Shapes.{array_layer, two_of, three_of, labelled, pairs_layer}
use Rattle.key_codec.specs.Key.{form_of, form_of_body, chain_of, chain_layer, chain_in, cose_of, cose_in, body_of_form, body_if_known, body_in, key_in, is_curve, IsBody, IsCoseMap, IsBodyItem, IsKeyItem}
use Rattle.key_codec.proofs.Back.{number_back, bytes_back, three_back, chain_back, type_fits, encoding_fits, curve_fits}
use Rattle.key_codec.proofs.Binds.{bind_ok, shaped_ok, ok_is, some_is}
use Rattle.key_codec.proofs.Found.{point_found, key_found, key_is, body_found}

-- an item by its layer
by_layer : (item y : Item) → roll-Item (out-Item item) ≡ y → item ≡ y
by_layer item y e = sym (roll-out-Item item) ∙ e

-- ---- parts

within_is : (n : ℕ) (x y : ℤ) → within_i64 n x ≡ Some y → x ≡ y
within_is n x y e = go (nat_lt n (2 ^ 63)) e
  where
    go : (b : Bool) → (if b then Some x else None) ≡ Some y → x ≡ y
    go true is = some_is x y is
    go false is = absurd cc

layer_number : (f : Item-F Item) (y : ℤ) → integer_layer f ≡ Some y → roll-Item f ≡ item_of_integer y
layer_number (Item-F.Uint n) y e = items.rolls-Uint n ∙ ap item_of_integer (within_is n (pos n) y e)
layer_number (Item-F.Nint n) y e = items.rolls-Nint n ∙ ap item_of_integer (within_is n (negsuc n) y e)
layer_number (Item-F.Bytes b) y e = absurd cc
layer_number (Item-F.Text t) y e = absurd cc
layer_number (Item-F.Array xs) y e = absurd cc
layer_number (Item-F.Map ps) y e = absurd cc
layer_number (Item-F.Tag t x) y e = absurd cc
layer_number (Item-F.Simple n) y e = absurd cc

pub number_said : (item : Item) (y : ℤ) → number_in item ≡ Ok y → item ≡ item_of_integer y
number_said item y e = by_layer item (item_of_integer y) (layer_number (out-Item item) y (shaped_ok (integer_in item) y e))

layer_bytes : (f : Item-F Item) (b : List ℕ) → bytes_layer f ≡ Some b → roll-Item f ≡ items.Bytes b
layer_bytes (Item-F.Bytes c) b e = items.rolls-Bytes c ∙ ap items.Bytes (some_is c b e)
layer_bytes (Item-F.Uint n) b e = absurd cc
layer_bytes (Item-F.Nint n) b e = absurd cc
layer_bytes (Item-F.Text t) b e = absurd cc
layer_bytes (Item-F.Array xs) b e = absurd cc
layer_bytes (Item-F.Map ps) b e = absurd cc
layer_bytes (Item-F.Tag t x) b e = absurd cc
layer_bytes (Item-F.Simple n) b e = absurd cc

pub bytes_said : (item : Item) (b : List ℕ) → bytes_in item ≡ Ok b → item ≡ items.Bytes b
bytes_said item b e = by_layer item (items.Bytes b) (layer_bytes (out-Item item) b (shaped_ok (bytes_layer (out-Item item)) b e))

layer_array : (f : Item-F Item) (xs : List Item) → array_layer f ≡ Some xs → roll-Item f ≡ items.Array xs
layer_array (Item-F.Array ys) xs e = items.rolls-Array ys ∙ ap items.Array (some_is ys xs e)
layer_array (Item-F.Uint n) xs e = absurd cc
layer_array (Item-F.Nint n) xs e = absurd cc
layer_array (Item-F.Bytes b) xs e = absurd cc
layer_array (Item-F.Text t) xs e = absurd cc
layer_array (Item-F.Map ps) xs e = absurd cc
layer_array (Item-F.Tag t x) xs e = absurd cc
layer_array (Item-F.Simple n) xs e = absurd cc

layer_pairs : (f : Item-F Item) (ps : List (Item × Item)) → pairs_layer f ≡ Some ps → roll-Item f ≡ items.Map ps
layer_pairs (Item-F.Map qs) ps e = items.rolls-Map qs ∙ ap items.Map (some_is qs ps e)
layer_pairs (Item-F.Uint n) ps e = absurd cc
layer_pairs (Item-F.Nint n) ps e = absurd cc
layer_pairs (Item-F.Bytes b) ps e = absurd cc
layer_pairs (Item-F.Text t) ps e = absurd cc
layer_pairs (Item-F.Array xs) ps e = absurd cc
layer_pairs (Item-F.Tag t x) ps e = absurd cc
layer_pairs (Item-F.Simple n) ps e = absurd cc

then_ok : {A B : Type 0} (f : A → Option B) (o : Option A) (y : B) → option_and_then f o ≡ Some y → (x : A) × ((o ≡ Some x) × (f x ≡ Some y))
then_ok f None y e = absurd cc
then_ok f (Some x) y e = (x, (refl, e))

pair_is : (xs : List Item) (p : Item × Item) → two_of xs ≡ Some p → xs ≡ p.0 ∷ p.1 ∷ []
pair_is [] p e = absurd cc
pair_is (a ∷ []) p e = absurd cc
pair_is (a ∷ b ∷ []) p e = ap (λ (q : Item × Item). q.0 ∷ q.1 ∷ []) (some_is (a, b) p e)
pair_is (a ∷ b ∷ c ∷ xs) p e = absurd cc

triple_is : (xs : List Item) (p : Item × Item × Item) → three_of xs ≡ Some p → xs ≡ p.0 ∷ p.1 ∷ p.2 ∷ []
triple_is [] p e = absurd cc
triple_is (a ∷ []) p e = absurd cc
triple_is (a ∷ b ∷ []) p e = absurd cc
triple_is (a ∷ b ∷ c ∷ []) p e = ap (λ (q : Item × Item × Item). q.0 ∷ q.1 ∷ q.2 ∷ []) (some_is (a, b, c) p e)
triple_is (a ∷ b ∷ c ∷ d ∷ xs) p e = absurd cc

pub two_said : (item : Item) (p : Item × Item) → two_in item ≡ Ok p → item ≡ items.Array (p.0 ∷ p.1 ∷ [])
two_said item p e =
    let o = array_layer (out-Item item) in
    let t = then_ok two_of o p (shaped_ok (option_and_then two_of o) p e) in
    by_layer item (items.Array (p.0 ∷ p.1 ∷ [])) (layer_array (out-Item item) t.0 t.1.0 ∙ ap items.Array (pair_is t.0 p t.1.1))

pub three_said : (item : Item) (p : Item × Item × Item) → three_in item ≡ Ok p → item ≡ items.Array (p.0 ∷ p.1 ∷ p.2 ∷ [])
three_said item p e =
    let o = array_layer (out-Item item) in
    let t = then_ok three_of o p (shaped_ok (option_and_then three_of o) p e) in
    by_layer item (items.Array (p.0 ∷ p.1 ∷ p.2 ∷ [])) (layer_array (out-Item item) t.0 t.1.0 ∙ ap items.Array (triple_is t.0 p t.1.1))

pub pair_item : (a b c d : Item) → a ≡ b → c ≡ d → items.Array (a ∷ c ∷ []) ≡ items.Array (b ∷ d ∷ [])
pair_item a b c d e f = rw (e, f) refl

-- ---- chains

both_same : (x y : Item) (xs ys : List Item) → x ≡ y → xs ≡ ys → x ∷ xs ≡ y ∷ ys
both_same x y xs ys e f = rw (e, f) refl

all_said : (xs : List Item) (bs : List (List ℕ)) → all_bytes xs ≡ Ok bs → xs ≡ map items.Bytes bs
all_said [] bs e = ap (map items.Bytes) (ok_is [] bs e)
all_said (x ∷ xs) bs e =
    let b = bind_ok (bytes_in x) (λ b. all_bytes xs >>= λ bs. Ok (b ∷ bs)) bs e in
    let c = bind_ok (all_bytes xs) (λ bs. Ok (b.0 ∷ bs)) bs b.2 in
    let first = both_same x (items.Bytes b.0) xs (map items.Bytes c.0) (bytes_said x b.0 b.1) (all_said xs c.0 c.1) in
    first ∙ ap (map items.Bytes) (ok_is (b.0 ∷ c.0) bs c.2)

some_same : (xs bs : List (List ℕ)) → chain_of xs ≡ Ok bs → xs ≡ bs
some_same [] bs e = absurd cc
some_same (x ∷ xs) bs e = ok_is (x ∷ xs) bs e

layer_chain : (f : Item-F Item) (bs : List (List ℕ)) → chain_layer f ≡ Ok bs → IsBodyItem (body.Chain bs) (roll-Item f)
layer_chain (Item-F.Bytes b) bs e = inr (b, (sym (ok_is (b ∷ []) bs e), items.rolls-Bytes b))
layer_chain (Item-F.Array xs) bs e =
    let p = bind_ok (all_bytes xs) chain_of bs e in
    inl (items.rolls-Array xs ∙ ap items.Array (all_said xs p.0 p.1 ∙ ap (map items.Bytes) (some_same p.0 bs p.2)))
layer_chain (Item-F.Uint n) bs e = absurd cc
layer_chain (Item-F.Nint n) bs e = absurd cc
layer_chain (Item-F.Text t) bs e = absurd cc
layer_chain (Item-F.Map ps) bs e = absurd cc
layer_chain (Item-F.Tag t x) bs e = absurd cc
layer_chain (Item-F.Simple n) bs e = absurd cc

chain_said : (item : Item) (bs : List (List ℕ)) → chain_in item ≡ Ok bs → IsBodyItem (body.Chain bs) item
chain_said item bs e = subst (IsBodyItem (body.Chain bs)) (roll-out-Item item) (layer_chain (out-Item item) bs e)

-- ---- COSE keys

number_label : (label n : ℤ) (ps : List (Item × Item)) → number_at label ps ≡ Ok n → labelled label ps ≡ Some (item_of_integer n)
number_label label n ps e =
    let v = bind_ok (shaped (labelled label ps)) number_in n e in
    shaped_ok (labelled label ps) v.0 v.1 ∙ ap Some (number_said v.0 n v.2)

bytes_label : (label : ℤ) (b : List ℕ) (ps : List (Item × Item)) → bytes_at label ps ≡ Ok b → labelled label ps ≡ Some (items.Bytes b)
bytes_label label b ps e =
    let v = bind_ok (shaped (labelled label ps)) bytes_in b e in
    shaped_ok (labelled label ps) v.0 v.1 ∙ ap Some (bytes_said v.0 b v.2)

cose_said : (item : Item) (c : CoseKey) → cose_in item ≡ Ok c → IsBodyItem (body.Cose c) item
cose_said item c e =
    let p = bind_ok (shaped (pairs_layer (out-Item item))) cose_of c e in
    let q = point_found p.0 c p.2 in
    let map_is : item ≡ items.Map p.0 = by_layer item (items.Map p.0) (layer_pairs (out-Item item) p.0 (shaped_ok (pairs_layer (out-Item item)) p.0 p.1)) in (
      p.0,
      (
        map_is,
        record {
          family = number_label (pos 1) (pos 2) p.0 q.family;
          curve = number_label (negsuc 0) c.curve p.0 q.number;
          x = bytes_label (negsuc 1) c.x p.0 q.x;
          y = bytes_label (negsuc 2) c.y p.0 q.y;
        },
      ),
    )

cose_map : (c : CoseKey) (ps : List (Item × Item)) → is_curve c.curve ≡ true → IsCoseMap c ps → cose_of ps ≡ Ok c
cose_map c ps h m = rw (m.family, m.curve, m.x, m.y, number_back (pos 2) (lit< tt), number_back c.curve (curve_fits c.curve h), bytes_back c.x, bytes_back c.y, h) refl

-- ---- bodies

form_said : (f : Form) (item : Item) (b : KeyBody) → body_of_form f item ≡ Ok b → IsBodyItem b item
form_said form.Bytes item b e =
    let p = bind_ok (bytes_in item) (λ c. Ok (body.Bytes c)) b e in
    subst (λ k. IsBodyItem k item) (ok_is (body.Bytes p.0) b p.2) (bytes_said item p.0 p.1)
form_said form.Chain item b e =
    let p = bind_ok (chain_in item) (λ c. Ok (body.Chain c)) b e in
    subst (λ k. IsBodyItem k item) (ok_is (body.Chain p.0) b p.2) (chain_said item p.0 p.1)
form_said form.Cose item b e =
    let p = bind_ok (cose_in item) (λ c. Ok (body.Cose c)) b e in
    subst (λ k. IsBodyItem k item) (ok_is (body.Cose p.0) b p.2) (cose_said item p.0 p.1)

known_said : (enc : ℤ) (o : Option Form) (item : Item) (b : KeyBody) → body_if_known enc o item ≡ Ok b → IsBodyItem b item
known_said enc None item b e = absurd cc
known_said enc (Some f) item b e = form_said f item b e

pub body_said : (enc : ℤ) (item : Item) (b : KeyBody) → body_in enc item ≡ Ok b → IsBodyItem b item
unfolding body_in
body_said enc item b e = known_said enc (form_of enc) item b e

chain_read : (bs : List (List ℕ)) (item : Item) → bs ≢ [] → IsBodyItem (body.Chain bs) item → chain_in item ≡ Ok bs
chain_read bs item h (inl e) = rw e (chain_back bs h)
chain_read bs item h (inr e) = ap chain_in e.1.1 ∙ ap chain_layer (items.outs-Bytes e.0) ∙ ap Ok (sym e.1.0)

cose_read : (c : CoseKey) (item : Item) → is_curve c.curve ≡ true → IsBodyItem (body.Cose c) item → cose_in item ≡ Ok c
cose_read c item h m = ap cose_in m.1.0 ∙ ap (λ f. shaped (pairs_layer f) >>= cose_of) (items.outs-Map m.0) ∙ cose_map c m.0 h m.1.1

pub body_read : (b : KeyBody) (item : Item) → IsBody b → IsBodyItem b item → body_of_form (form_of_body b) item ≡ Ok b
body_read (body.Bytes b) item h e = rw (e, bytes_back b) refl
body_read (body.Chain bs) item h e = rw (chain_read bs item h e) refl
body_read (body.Cose c) item h e = rw (cose_read c item h e) refl

-- ---- keys

pub key_said : (item : Item) (key : PublicKey) → key_in item ≡ Ok key → IsKeyItem key item
key_said item key e =
    let from = key_found item key e in
    let whole = three_said item from.parts from.array in
    record {
      form = key_is item key e;
      content = from.parts.2;
      body = body_said key.enc from.parts.2 key.body from.body;
      array = rw (← number_said from.parts.0 key.kind from.kind, ← number_said from.parts.1 key.enc from.enc) whole;
    }

pub key_read : (item : Item) (key : PublicKey) → IsKeyItem key item → key_in item ≡ Ok key
unfolding key_in body_in
key_read item key h =
    let k = h.form in
    rw (h.array, three_back (item_of_integer key.kind) (item_of_integer key.enc) h.content, number_back key.kind (type_fits key.kind k.kind), number_back key.enc (encoding_fits key.enc (form_of_body key.body) k.enc), k.kind, k.enc, body_read key.body h.content k.body h.body) refl

-- ---- as readers answer

pub says_body : (enc : ℤ) (item : Item) (r : Result KeyBody KeyFault) → Says (λ b. b) r (body_in enc item) → IfOk r (λ b. (form_of enc ≡ Some (form_of_body b)) × (IsBody b × IsBodyItem b item))
says_body enc item (Ok b) h = let found = body_found enc item b h in (found.0, (found.1, body_said enc item b h))
says_body enc item (Err f) h = tt

pub says_as : {Y : Type 0} (r said wanted : Result Y KeyFault) → Says {X = Y} {Y = Y} (λ y. y) r said → said ≡ wanted → Says {X = Y} {Y = Y} (λ y. y) r wanted
says_as {Y} r said wanted h e = subst (λ s. Says {X = Y} {Y = Y} (λ y. y) r s) e h

pub says_key : (item : Item) (r : Result PublicKey KeyFault) → Says (λ key. key) r (key_in item) → IfOk r (λ key. IsKeyItem key item)
says_key item (Ok key) h = key_said item key h
says_key item (Err f) h = tt

pub says_only : (item : Item) (r : Result PublicKey KeyFault) (key : PublicKey) → Says (λ k. k) r (key_in item) → IsKeyItem key item → Says {X = PublicKey} {Y = PublicKey} (λ k. k) r (Ok key)
says_only item r key h is = says_as r (key_in item) (Ok key) h (key_read item key is)

pub says_body_only : (enc : ℤ) (item : Item) (r : Result KeyBody KeyFault) (b : KeyBody) → Says (λ k. k) r (body_in enc item) → form_of enc ≡ Some (form_of_body b) → IsBody b → IsBodyItem b item → Says {X = KeyBody} {Y = KeyBody} (λ k. k) r (Ok b)
unfolding body_in
says_body_only enc item r b h form is said = says_as r (body_in enc item) (Ok b) h (rw form (body_read b item is said))

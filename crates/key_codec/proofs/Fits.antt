-- What is read of a fit item is fit to be written.
use Rattle.std.proofs.Common.{◌≡◌, ℕ, suc, ◌<◌, ◌≤◌, ◌^◌, ℤ, pos, negsuc, Bool, true, false, List, [], ◌∷◌, map, length, Some, Result, Ok, Err, sym, subst, arith, lit<, inl, inr}
use Rattle.std.specs.Prelude.{if◌then◌else◌, IfOk}
use Rattle.std.specs.List.{AllByRecursion}
use Rattle.std.proofs.lemmas.List.{length-take}
use Rattle.cbor_core.specs.declared.item.Item.{Item}
use Rattle.cbor_core.specs.declared.item.Item.TheVariants as items
use Rattle.cbor_core.specs.Norm.{IsFit, IsFitLayer, IsFitWithin}
use Rattle.hash_hmac.specs.declared.hash.Hash.{Hash}
use Rattle.hash_hmac.specs.Value.{content, IsConsistent}
use Rattle.key_codec.specs.declared.fault.KeyFault.{KeyFault}
use Rattle.key_codec.specs.declared.key.CoseKey.{CoseKey}
use Rattle.key_codec.specs.declared.key.KeyBody.{KeyBody}
use Rattle.key_codec.specs.declared.key.KeyBody.TheVariants as body
use Rattle.key_codec.specs.declared.key.PublicKey.{PublicKey}
use Rattle.key_codec.specs.declared.sig_info.SigInfo.{SigInfo}
use Rattle.key_codec.specs.Fault.{Says}
use Rattle.cbor_core.specs.Numbers.{integer_in, item_of_integer, IsI64}
use Rattle.cbor_core.specs.Shapes.{is_number, labelled}
use Rattle.key_codec.specs.Key.{body_in, key_in, item_of_body, item_of_key, IsCoseMap, IsBodyItem, IsKeyItem}
use Rattle.key_codec.specs.Hash.{item_of_hash}
use Rattle.key_codec.specs.SigInfo.{sig_info_in, item_of_sig_info}
use Rattle.key_codec.proofs.Binds.{some_is}
use Rattle.key_codec.proofs.Said.{key_said, body_said}
use Rattle.key_codec.proofs.HashLaws.{kind_known}
use Rattle.key_codec.proofs.SigLaws.{sig_info_said}

-- ---- into an item, and out of one

module _ (n : ℕ) where
  fit_uint : (m : ℕ) → m < 2 ^ 64 → IsFitWithin (suc n) (items.Uint m)
  unfolding IsFitWithin
  fit_uint m h = subst (IsFitLayer (IsFitWithin n)) (sym (items.outs-Uint m)) h

  fit_nint : (m : ℕ) → m < 2 ^ 64 → IsFitWithin (suc n) (items.Nint m)
  unfolding IsFitWithin
  fit_nint m h = subst (IsFitLayer (IsFitWithin n)) (sym (items.outs-Nint m)) h

  fit_integer : (x : ℤ) → IsI64 x → IsFitWithin (suc n) (item_of_integer x)
  fit_integer (pos m) h = fit_uint m (omega arith)
  fit_integer (negsuc m) h = fit_nint m (omega arith)

  fit_bytes : (b : List ℕ) → length b < 2 ^ 64 → IsFitWithin (suc n) (items.Bytes b)
  unfolding IsFitWithin
  fit_bytes b h = subst (IsFitLayer (IsFitWithin n)) (sym (items.outs-Bytes b)) h

  fit_array : (xs : List Item) → length xs < 2 ^ 64 → AllByRecursion (IsFitWithin n) xs → IsFitWithin (suc n) (items.Array xs)
  unfolding IsFitWithin
  fit_array xs h each = subst (IsFitLayer (IsFitWithin n)) (sym (items.outs-Array xs)) (h, each)

  abbrev FitPairs : List (Item × Item) → Type 0
  FitPairs ps = AllByRecursion (λ p. IsFitWithin n p.0 × IsFitWithin n p.1) ps

  fit_map : (ps : List (Item × Item)) → length ps < 2 ^ 64 → FitPairs ps → IsFitWithin (suc n) (items.Map ps)
  unfolding IsFitWithin
  fit_map ps h each = subst (IsFitLayer (IsFitWithin n)) (sym (items.outs-Map ps)) (h, each)

  bytes_fit : (b : List ℕ) → IsFitWithin (suc n) (items.Bytes b) → length b < 2 ^ 64
  unfolding IsFitWithin
  bytes_fit b h = subst (IsFitLayer (IsFitWithin n)) (items.outs-Bytes b) h

  array_fits : (xs : List Item) → IsFitWithin (suc n) (items.Array xs) → AllByRecursion (IsFitWithin n) xs
  unfolding IsFitWithin
  array_fits xs h = let layer = subst (IsFitLayer (IsFitWithin n)) (items.outs-Array xs) h in layer.1

  map_fits : (ps : List (Item × Item)) → IsFitWithin (suc n) (items.Map ps) → FitPairs ps
  unfolding IsFitWithin
  map_fits ps h = let layer = subst (IsFitLayer (IsFitWithin n)) (items.outs-Map ps) h in layer.1

  labelled_fits : (label : ℤ) (ps : List (Item × Item)) (v : Item) → FitPairs ps → labelled label ps ≡ Some v → IsFitWithin n v
  labelled_fits label [] v h e = absurd cc
  labelled_fits label (p ∷ ps) v h e = go (is_number label (integer_in p.0)) (labelled_fits label ps v h.1) e
    where
      go : (b : Bool) → (labelled label ps ≡ Some v → IsFitWithin n v) → (if b then Some p.1 else labelled label ps) ≡ Some v → IsFitWithin n v
      go true more is = subst (IsFitWithin n) (some_is p.1 v is) h.0.1
      go false more is = more is

-- ---- bodies

module _ (n : ℕ) where
  abbrev pub FitsBody : KeyBody → Type 0
  FitsBody b = IsFitWithin (suc (suc n)) (item_of_body b)

  fit_one : (b : List ℕ) → length b < 2 ^ 64 → FitsBody (body.Chain (b ∷ []))
  fit_one b h = fit_array (suc n) (items.Bytes b ∷ []) (lit< tt) (fit_bytes n b h, tt)

  fit_cose : (c : CoseKey) (ps : List (Item × Item)) → FitPairs (suc n) ps → IsCoseMap c ps → FitsBody (body.Cose c)
  fit_cose c ps h m =
      let value : (label : ℤ) (v : Item) → labelled label ps ≡ Some v → IsFitWithin (suc n) v = λ label v e. labelled_fits (suc n) label ps v h e in
      fit_map (suc n) ((items.Uint 1, items.Uint 2) ∷ (items.Nint 0, item_of_integer c.curve) ∷ (items.Nint 1, items.Bytes c.x) ∷ (items.Nint 2, items.Bytes c.y) ∷ []) (lit< tt) (
        (fit_uint n 1 (lit< tt), fit_uint n 2 (lit< tt)),
        (
          (fit_nint n 0 (lit< tt), value (negsuc 0) (item_of_integer c.curve) m.curve),
          (
            (fit_nint n 1 (lit< tt), value (negsuc 1) (items.Bytes c.x) m.x),
            ((fit_nint n 2 (lit< tt), value (negsuc 2) (items.Bytes c.y) m.y), tt),
          ),
        ),
      )

  body_fits : (b : KeyBody) (item : Item) → IsBodyItem b item → IsFitWithin (suc (suc n)) item → FitsBody b
  body_fits (body.Bytes b) item e h = subst (IsFitWithin (suc (suc n))) e h
  body_fits (body.Chain bs) item (inl e) h = subst (IsFitWithin (suc (suc n))) e h
  body_fits (body.Chain bs) item (inr one) h =
      let goal : List (List ℕ) → Type 0 = λ xs. FitsBody (body.Chain xs) in
      subst goal (sym one.1.0) (fit_one one.0 (bytes_fit (suc n) one.0 (subst (IsFitWithin (suc (suc n))) one.1.1 h)))
  body_fits (body.Cose c) item map h = fit_cose c map.0 (map_fits (suc n) map.0 (subst (IsFitWithin (suc (suc n))) map.1.0 h)) map.1.1

-- ---- keys, hashes and signature information

key_fits : (item : Item) (key : PublicKey) → IsFit item → IsKeyItem key item → IsFit (item_of_key key)
key_fits item key h is =
    let parts = array_fits 15 (item_of_integer key.kind ∷ item_of_integer key.enc ∷ is.content ∷ []) (subst IsFit is.array h) in
    fit_array 15 (item_of_integer key.kind ∷ item_of_integer key.enc ∷ item_of_body key.body ∷ []) (lit< tt) (parts.0, (parts.1.0, (body_fits 13 key.body is.content is.body parts.1.1.0, tt)))

pub hash_fits : (hash : Hash) → IsConsistent hash → IsFit (item_of_hash hash)
hash_fits hash h =
    let known = kind_known hash.kind hash.len h.len in
    let few : length (content hash) ≤ 48 = omega (arith, known.short, length-take hash.len hash.bytes) in
    fit_array 15 (item_of_integer hash.kind ∷ items.Bytes (content hash) ∷ []) (lit< tt) (fit_integer 14 hash.kind known.number, (fit_bytes 14 (content hash) (omega (arith, few)), tt))

-- ---- as readers answer

pub says_fit_key : (item : Item) (r : Result PublicKey KeyFault) → Says (λ key. key) r (key_in item) → IsFit item → IfOk r (λ key. IsFit (item_of_key key))
says_fit_key item (Ok key) h fit = key_fits item key fit (key_said item key h)
says_fit_key item (Err f) h fit = tt

pub says_fit_body : (n : ℕ) (enc : ℤ) (item : Item) (r : Result KeyBody KeyFault) → Says (λ b. b) r (body_in enc item) → IsFitWithin (suc (suc n)) item → IfOk r (λ b. IsFitWithin (suc (suc n)) (item_of_body b))
says_fit_body n enc item (Ok b) h fit = body_fits n b item (body_said enc item b h) fit
says_fit_body n enc item (Err f) h fit = tt

pub says_fit_sig_info : (item : Item) (r : Result SigInfo KeyFault) → Says (λ sig. sig) r (sig_info_in item) → IsFit item → IfOk r (λ sig. IsFit (item_of_sig_info sig))
says_fit_sig_info item (Ok sig) h fit = subst IsFit (sig_info_said item sig h) fit
says_fit_sig_info item (Err f) h fit = tt

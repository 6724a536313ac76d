-- What is written is read as it was.
use Rattle.std.proofs.Common.{◌≡◌, ℕ, List, [], ◌∷◌, length, Some, Result, Ok, Err, IfOk, refl, sym, ap, subst, ◌∙◌}
use Rattle.std.proofs.lemmas.Bool.{eq-eqb}
use Rattle.cbor_core.specs.declared.item.Item.TheVariants as items
use Rattle.cbor_core.specs.declared.no_memory.NoMemory.{NoMemory}
use Rattle.cbor_core.specs.Deterministic.{det}
use Rattle.cbor_core.specs.Norm.{norm}
use Rattle.cbor_core.proofs.NormLaws.{norm_uint, norm_bytes, norm_array, norm_map, norm_one, norm_none, norm_tag, integer_back, content_back, pairs_back, three_back, four_back, tagged_back, fit_said}
use Rattle.cose_envelopes.specs.declared.encrypt0.Encrypt0.{Encrypt0}
use Rattle.cose_envelopes.specs.declared.mac0.Mac0.{Mac0}
use Rattle.cose_envelopes.specs.declared.sign1.Sign1.{Sign1}
use Rattle.cose_envelopes.specs.Envelope.{algorithm_in, iv_in, norm_sign1, sign1_in, item_of_sign1, IsSign1, IsWhole1, mac0_in, item_of_mac0, IsMac0, IsWholeMac, encrypt0_in, item_of_encrypt0, IsEncrypt0, IsWhole0}
use Rattle.std.proofs.Common.{pos, lit<}

-- ---- Sign1

norm_sign1_item : (v : Sign1) → norm (item_of_sign1 v) ≡ item_of_sign1 (norm_sign1 v)
norm_sign1_item v =
    norm_tag 18 (items.Array (items.Bytes v.protected ∷ items.Map v.unprotected ∷ items.Bytes v.payload ∷ items.Bytes v.sig ∷ []))
    ∙ ap (items.Tag 18) (norm_array (items.Bytes v.protected ∷ items.Map v.unprotected ∷ items.Bytes v.payload ∷ items.Bytes v.sig ∷ []))
    ∙ (rw (norm_bytes v.protected, norm_map v.unprotected, norm_bytes v.payload, norm_bytes v.sig) refl)

sign1_back : (v : Sign1) → algorithm_in v.protected ≡ Some v.alg → sign1_in (item_of_sign1 v) ≡ Some v
unfolding sign1_in
sign1_back v names =
    let array = items.Array (items.Bytes v.protected ∷ items.Map v.unprotected ∷ items.Bytes v.payload ∷ items.Bytes v.sig ∷ []) in
    rw (tagged_back 18 array, four_back (items.Bytes v.protected) (items.Map v.unprotected) (items.Bytes v.payload) (items.Bytes v.sig), content_back v.protected, names, pairs_back v.unprotected, content_back v.payload, content_back v.sig) refl

sign1_said : (v : Sign1) → IsWhole1 v → IsSign1 (det (item_of_sign1 v)) (norm_sign1 v)
sign1_said v h = record {
  item = norm (item_of_sign1 v);
  spelled = fit_said (item_of_sign1 v) h.fit;
  says = ap sign1_in (norm_sign1_item v) ∙ sign1_back (norm_sign1 v) h.names;
}

pub written_sign1 : (v : Sign1) (r : Result (List ℕ) NoMemory) → IfOk r (λ bytes. bytes ≡ det (item_of_sign1 v)) → IsWhole1 v → IfOk r (λ bytes. IsSign1 bytes (norm_sign1 v))
written_sign1 v (Ok bytes) e h = subst (λ b. IsSign1 b (norm_sign1 v)) (sym e) (sign1_said v h)
written_sign1 v (Err f) e h = tt

-- ---- Mac0

norm_mac0_item : (v : Mac0) → norm (item_of_mac0 v) ≡ item_of_mac0 v
norm_mac0_item v =
    norm_tag 17 (items.Array (items.Bytes v.protected ∷ items.Map [] ∷ items.Bytes v.payload ∷ items.Bytes v.tag ∷ []))
    ∙ ap (items.Tag 17) (norm_array (items.Bytes v.protected ∷ items.Map [] ∷ items.Bytes v.payload ∷ items.Bytes v.tag ∷ []))
    ∙ (rw (norm_bytes v.protected, norm_none, norm_bytes v.payload, norm_bytes v.tag) refl)

mac0_back : (v : Mac0) → algorithm_in v.protected ≡ Some v.alg → mac0_in (item_of_mac0 v) ≡ Some v
unfolding mac0_in
mac0_back v names =
    let array = items.Array (items.Bytes v.protected ∷ items.Map [] ∷ items.Bytes v.payload ∷ items.Bytes v.tag ∷ []) in
    rw (tagged_back 17 array, four_back (items.Bytes v.protected) (items.Map []) (items.Bytes v.payload) (items.Bytes v.tag), content_back v.protected, names, pairs_back [], content_back v.payload, content_back v.tag) refl

pub mac0_said : (v : Mac0) → IsWholeMac v → IsMac0 (det (item_of_mac0 v)) v
mac0_said v h = record {
  item = norm (item_of_mac0 v);
  spelled = fit_said (item_of_mac0 v) h.fit;
  says = ap mac0_in (norm_mac0_item v) ∙ mac0_back v h.names;
}

pub written_mac0 : (v : Mac0) (r : Result (List ℕ) NoMemory) → IfOk r (λ bytes. bytes ≡ det (item_of_mac0 v)) → IsWholeMac v → IfOk r (λ bytes. IsMac0 bytes v)
written_mac0 v (Ok bytes) e h = subst (λ b. IsMac0 b v) (sym e) (mac0_said v h)
written_mac0 v (Err f) e h = tt

-- ---- Encrypt0

iv_back : (iv : List ℕ) → length iv ≡ 12 → iv_in (items.Map ((items.Uint 5, items.Bytes iv) ∷ [])) ≡ Some iv
unfolding iv_in
iv_back iv size = rw (items.outs-Map ((items.Uint 5, items.Bytes iv) ∷ []), integer_back (pos 5) (lit< tt), content_back iv, eq-eqb (length iv) 12 size) refl

norm_encrypt0_item : (v : Encrypt0) → norm (item_of_encrypt0 v) ≡ item_of_encrypt0 v
norm_encrypt0_item v =
    norm_tag 16 (items.Array (items.Bytes v.protected ∷ items.Map ((items.Uint 5, items.Bytes v.iv) ∷ []) ∷ items.Bytes v.sealed ∷ []))
    ∙ ap (items.Tag 16) (norm_array (items.Bytes v.protected ∷ items.Map ((items.Uint 5, items.Bytes v.iv) ∷ []) ∷ items.Bytes v.sealed ∷ []))
    ∙ (rw (norm_bytes v.protected, norm_one (items.Uint 5) (items.Bytes v.iv), norm_uint 5, norm_bytes v.iv, norm_bytes v.sealed) refl)

encrypt0_back : (v : Encrypt0) → length v.iv ≡ 12 → algorithm_in v.protected ≡ Some v.alg → encrypt0_in (item_of_encrypt0 v) ≡ Some v
unfolding encrypt0_in
encrypt0_back v size names =
    let array = items.Array (items.Bytes v.protected ∷ items.Map ((items.Uint 5, items.Bytes v.iv) ∷ []) ∷ items.Bytes v.sealed ∷ []) in
    rw (tagged_back 16 array, three_back (items.Bytes v.protected) (items.Map ((items.Uint 5, items.Bytes v.iv) ∷ [])) (items.Bytes v.sealed), content_back v.protected, names, iv_back v.iv size, content_back v.sealed) refl

pub encrypt0_said : (v : Encrypt0) → length v.iv ≡ 12 → IsWhole0 v → IsEncrypt0 (det (item_of_encrypt0 v)) v
encrypt0_said v size h = record {
  item = norm (item_of_encrypt0 v);
  spelled = fit_said (item_of_encrypt0 v) h.fit;
  says = ap encrypt0_in (norm_encrypt0_item v) ∙ encrypt0_back v size h.names;
}

pub written_encrypt0 : (v : Encrypt0) (r : Result (List ℕ) NoMemory) → length v.iv ≡ 12 → IfOk r (λ bytes. bytes ≡ det (item_of_encrypt0 v)) → IsWhole0 v → IfOk r (λ bytes. IsEncrypt0 bytes v)
written_encrypt0 v (Ok bytes) size e h = subst (λ b. IsEncrypt0 b v) (sym e) (encrypt0_said v size h)
written_encrypt0 v (Err f) size e h = tt

-- What is sealed is opened under the same key.
use Rattle.std.proofs.Common.{◌≡◌, ℕ, ◌*◌, ◌/◌, ◌<◌, ◌≤◌, ◌^◌, ℤ, List, [], ◌∷◌, length, drop, true, Option, Some, Result, Ok, Err, IfOk, refl, ap, subst, ◌∙◌, arith, lit<, ◌⊎◌, inl, inr}
use Rattle.std.specs.Ordering.{int_eq}
use Rattle.std.specs.Str.{bytes_eq}
use Rattle.std.proofs.lemmas.Bool.Decides.{Decides-int_eq}
use Rattle.std.proofs.lemmas.Slice.Eq.{bytes_eq-Decides}
use Rattle.std.proofs.lemmas.List.{length-take}
use Rattle.cbor_core.specs.declared.item.Item.TheVariants as items
use Rattle.cbor_core.specs.declared.no_memory.NoMemory.{NoMemory}
use Rattle.cbor_core.specs.Deterministic.{det}
use Rattle.cbor_core.proofs.NormLaws.{fit_uint, fit_bytes, fit_array, fit_map, fit_tag}
use Rattle.cbor_core.proofs.WholeLaws.{says_again}
use Rattle.hash_hmac.specs.Hmac.{hmac_sha256}
use Rattle.cose_envelopes.specs.declared.encrypt0.Encrypt0.{Encrypt0}
use Rattle.cose_envelopes.specs.declared.mac0.Mac0.{Mac0}
use Rattle.cose_envelopes.specs.Envelope.{algorithm_in, protected_of, encrypt0_in, mac0_in, IsEncrypt0, IsMac0, IsWhole0, IsWholeMac, item_of_encrypt0, item_of_mac0}
use Rattle.cose_envelopes.specs.Places.{encrypt0_place, mac0_place}
use Rattle.cose_envelopes.specs.Opening.{encrypt0_at, mac0_at, key_front, inner_number, mac_number, sealed_value, sealed_bytes, maced_value, sealed_etm, of_shape, opened_by, opening, opened_mac, opening_etm}
use Rattle.cose_envelopes.specs.Text.{encrypt0_structure, mac0_structure}
use Rattle.cose_envelopes.proofs.HeaderLaws.{aad_short}
use Rattle.suite_port.specs.Sizes.{most_plain}

-- ---- what is made can be written

pub whole_encrypt0 : (v : Encrypt0) → length v.protected < 2 ^ 64 → length v.iv ≡ 12 → length v.sealed < 2 ^ 64 → algorithm_in v.protected ≡ Some v.alg → IsWhole0 v
whole_encrypt0 v p iv s names = record {
  fit = fit_tag 15 16 (items.Array (items.Bytes v.protected ∷ items.Map ((items.Uint 5, items.Bytes v.iv) ∷ []) ∷ items.Bytes v.sealed ∷ [])) (lit< tt)
      (fit_array 14 (items.Bytes v.protected ∷ items.Map ((items.Uint 5, items.Bytes v.iv) ∷ []) ∷ items.Bytes v.sealed ∷ []) (lit< tt)
      (fit_bytes 13 v.protected p, (fit_map 13 ((items.Uint 5, items.Bytes v.iv) ∷ []) (lit< tt) ((fit_uint 12 5 (lit< tt), fit_bytes 12 v.iv (omega arith)), tt), (fit_bytes 13 v.sealed s, tt))));
  names = names;
}

pub whole_mac0 : (v : Mac0) → length v.protected < 2 ^ 64 → length v.payload < 2 ^ 64 → length v.tag < 2 ^ 64 → algorithm_in v.protected ≡ Some v.alg → IsWholeMac v
whole_mac0 v p b t names = record {
  fit = fit_tag 15 17 (items.Array (items.Bytes v.protected ∷ items.Map [] ∷ items.Bytes v.payload ∷ items.Bytes v.tag ∷ [])) (lit< tt)
      (fit_array 14 (items.Bytes v.protected ∷ items.Map [] ∷ items.Bytes v.payload ∷ items.Bytes v.tag ∷ []) (lit< tt)
      (fit_bytes 13 v.protected p, (fit_map 13 [] (lit< tt) tt, (fit_bytes 13 v.payload b, (fit_bytes 13 v.tag t, tt)))));
  names = names;
}

-- ---- and is opened

same_number : (n : ℤ) → int_eq n n ≡ true
same_number n = (Decides-int_eq n n).1 refl

same_bytes : (b : List ℕ) → bytes_eq b b ≡ true
same_bytes b = (bytes_eq-Decides b b).1 refl

key_size : (size : ℕ) (key : List ℕ) → (size ≡ 128) ⊎ (size ≡ 256) → length key ≡ 32 → size ≡ 8 * length (key_front size key)
key_size size key (inl e) len = omega (arith, e, len, length-take (size / 8) key)
key_size size key (inr e) len = omega (arith, e, len, length-take (size / 8) key)

abbrev pub Opens : Type 0
Opens = ℤ → List ℕ → List ℕ → List ℕ → List ℕ → Option (List ℕ)

abbrev pub Seals : Type 0
Seals = ℤ → List ℕ → List ℕ → List ℕ → List ℕ → List ℕ

-- what a suite is to say of its calls
abbrev pub OpensSealed : (ℤ → Option ℕ) → Opens → Seals → Type 0
OpensSealed bits opens seals = (alg : ℤ) (key iv aad plain : List ℕ) → bits alg ≡ Some (8 * length key) → length iv ≡ 12 → length aad ≤ most_plain → length plain ≤ most_plain → opens alg key iv aad (seals alg key iv aad plain) ≡ Some plain

pub read_opens : (bits : ℤ → Option ℕ) (opens : Opens) (seals : Seals) (alg : ℤ) (size : ℕ) (key iv plain bytes : List ℕ) → OpensSealed bits opens seals → bits alg ≡ Some size → (size ≡ 128) ⊎ (size ≡ 256)
    → length key ≡ 32 → length iv ≡ 12 → length plain ≤ most_plain → IsEncrypt0 bytes (sealed_value seals alg (key_front size key) iv plain) → opening bits opens alg key bytes ≡ Ok (iv, plain)
unfolding opening
read_opens bits opens seals alg size key iv plain bytes law known sized len iv_len small said =
    let front = key_front size key in
    let value = sealed_value seals alg front iv plain in
    let aad = encrypt0_structure (protected_of alg) in
    let read : encrypt0_at bytes ≡ Ok value = says_again encrypt0_in encrypt0_place bytes value said in
    let back : opens alg front iv aad (seals alg front iv aad plain) ≡ Some plain =
    law alg front iv aad plain (known ∙ ap Some (key_size size key sized len)) iv_len (aad_short alg aad (protected_of alg) refl refl) small in
    ap (λ (told : Result Encrypt0 ℕ). of_shape told (λ v. opened_by opens alg key v (bits alg))) read
    ∙ ap (opened_by opens alg key value) known
    ∙ (rw (same_number alg, back) refl)

pub read_opens_etm : (bits : ℤ → Option ℕ) (opens : Opens) (alg : ℤ) (size : ℕ) (key iv plain payload bytes : List ℕ) → bits alg ≡ Some size
    → mac0_at bytes ≡ Ok (maced_value (drop 16 key) payload) → opening bits opens inner_number key payload ≡ Ok (iv, plain) → opening_etm bits opens alg key bytes ≡ Ok (iv, plain)
unfolding opening_etm
read_opens_etm bits opens alg size key iv plain payload bytes known read inner =
    let tag = hmac_sha256 (drop 16 key) (mac0_structure (protected_of mac_number) payload) in
    ap (λ (told : Result Mac0 ℕ). of_shape told (opened_mac bits opens alg key)) read ∙ (rw (known, same_bytes tag, inner) refl)

-- ---- as the writers answer

pub written_sealed : (seals : Seals) (alg : ℤ) (key iv plain : List ℕ) (v : Encrypt0) (r : Result (List ℕ) NoMemory) → v ≡ sealed_value seals alg key iv plain → IfOk r (λ bytes. bytes ≡ det (item_of_encrypt0 v))
    → IfOk r (λ bytes. bytes ≡ sealed_bytes seals alg key iv plain)
unfolding sealed_bytes
written_sealed seals alg key iv plain v (Ok bytes) is e = e ∙ ap (λ (w : Encrypt0). det (item_of_encrypt0 w)) is
written_sealed seals alg key iv plain v (Err f) is e = tt

pub written_opened : (bits : ℤ → Option ℕ) (opens : Opens) (seals : Seals) (alg : ℤ) (size : ℕ) (key iv plain : List ℕ) (v : Encrypt0) (r : Result (List ℕ) NoMemory) → OpensSealed bits opens seals → bits alg ≡ Some size
    → (size ≡ 128) ⊎ (size ≡ 256) → length key ≡ 32 → length iv ≡ 12 → length plain ≤ most_plain → v ≡ sealed_value seals alg (key_front size key) iv plain → IfOk r (λ bytes. IsEncrypt0 bytes v)
    → IfOk r (λ bytes. opening bits opens alg key bytes ≡ Ok (iv, plain))
written_opened bits opens seals alg size key iv plain v (Ok bytes) law known sized len iv_len small is said =
    read_opens bits opens seals alg size key iv plain bytes law known sized len iv_len small (subst (IsEncrypt0 bytes) is said)
written_opened bits opens seals alg size key iv plain v (Err f) law known sized len iv_len small is said = tt

pub written_maced : (v w : Mac0) (r : Result (List ℕ) NoMemory) → v ≡ w → IfOk r (λ bytes. IsMac0 bytes v) → IfOk r (λ bytes. mac0_at bytes ≡ Ok w)
written_maced v w (Ok bytes) is said = says_again mac0_in mac0_place bytes w (subst (IsMac0 bytes) is said)
written_maced v w (Err f) is said = tt

pub written_etm : (seals : Seals) (key iv plain payload : List ℕ) (r : Result (List ℕ) NoMemory) → payload ≡ sealed_bytes seals inner_number (key_front 128 key) iv plain
    → IfOk r (λ bytes. bytes ≡ det (item_of_mac0 (maced_value (drop 16 key) payload))) → IfOk r (λ bytes. bytes ≡ sealed_etm seals key iv plain)
unfolding sealed_etm
written_etm seals key iv plain payload (Ok bytes) is e = e ∙ ap (λ (b : List ℕ). det (item_of_mac0 (maced_value (drop 16 key) b))) is
written_etm seals key iv plain payload (Err f) is e = tt

pub written_opened_etm : (bits : ℤ → Option ℕ) (opens : Opens) (alg : ℤ) (size : ℕ) (key iv plain payload : List ℕ) (r : Result (List ℕ) NoMemory) → bits alg ≡ Some size
    → opening bits opens inner_number key payload ≡ Ok (iv, plain) → IfOk r (λ bytes. mac0_at bytes ≡ Ok (maced_value (drop 16 key) payload)) → IfOk r (λ bytes. opening_etm bits opens alg key bytes ≡ Ok (iv, plain))
written_opened_etm bits opens alg size key iv plain payload (Ok bytes) known inner read = read_opens_etm bits opens alg size key iv plain payload bytes known read inner
written_opened_etm bits opens alg size key iv plain payload (Err f) known inner read = tt

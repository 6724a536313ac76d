-- A credential is read back from the body that it is written as.
use Rattle.std.proofs.Common.{if◌then◌else◌, ◌≡◌, ℕ, suc, ◌^◌, ◌<◌, true, List, [], ◌∷◌, length, Option, Some, None, Ok, refl, sym, ap, subst, ◌∙◌, arith, lit<}
use Rattle.std.proofs.lemmas.Bool.{eq-eqb}
use Rattle.std.proofs.lemmas.Bool.Decides.{nat_tests}
use Rattle.std.specs.Str.{is_utf8}
use Rattle.std.proofs.lemmas.List.{append-nil}
use Rattle.cbor_core.specs.declared.item.Item.{Item, out-Item}
use Rattle.cbor_core.specs.declared.item.Item.TheOpen.{Item-F}
use Rattle.cbor_core.specs.declared.item.Item.TheFolds.{fold-roll-Item}
use Rattle.cbor_core.specs.declared.item.Item.TheVariants as items
use Rattle.cbor_core.specs.Norm.{norm, norm_step, IsFit, IsFitLayer, IsFitWithin, IsReadBack}
use Rattle.cbor_core.specs.Reading.{first_item}
use Rattle.cbor_core.specs.Shapes.{array_layer, of_length}
use Rattle.cbor_core.specs.Spots.{bytes_in, text_in}
use Rattle.cbor_core.specs.Whole.{said_of, ended}
use Rattle.cbor_core.proofs.NormLaws.{norm_uint, norm_bytes, norm_array, content_back, fit_uint, fit_bytes, fit_array}
use Rattle.hash_hmac.specs.declared.hash.Hash.{Hash}
use Rattle.key_codec.specs.Fault.{ok_of}
use Rattle.key_codec.specs.Hash.{hash_in, item_of_hash}
use Rattle.key_codec.proofs.HashLaws.{hash_back}
use Rattle.key_codec.proofs.Norms.{norm_hash}
use Rattle.voucher_chain.specs.declared.credential.Credential.{Credential}
use Rattle.voucher_chain.specs.Fault.{◌>>=◌}
use Rattle.voucher_chain.specs.Header.{guid_in}
use Rattle.voucher_chain.proofs.BackLaws.{of_layer, hash_inside}
use Rattle.credential_store.specs.Body.{is_number, is_rv, rv_bytes_in, secret_in, is_alg, alg_of, credential_with, credential_of, credential_in, credential_place, body_at, item_of_credential, body_of_credential, IsKept, IsInMemory}

-- ---- it is fit to be written

text_fit : (n : ℕ) (t : List ℕ) → length t < 2 ^ 64 → is_utf8 t ≡ true → IsFitWithin (suc n) (items.Text t)
text_fit n t small utf8 = of_layer n (items.Text t) (subst (IsFitLayer (IsFitWithin n)) (sym (items.outs-Text t)) (small, utf8))

alg_small : (n : ℕ) → is_alg n ≡ true → n < 2 ^ 64
alg_small n is = grind (arith, nat_tests)

pub credential_fits : (c : Credential) → IsInMemory c → IsKept c → IsFit (item_of_credential c)
credential_fits c here kept =
    fit_array 15 (items.Uint 2 ∷ items.Bytes c.guid ∷ items.Bytes c.rv ∷ items.Text c.info ∷ items.Bytes c.secret ∷ item_of_hash c.key_hash ∷ items.Uint c.alg ∷ []) (lit< tt) (
      fit_uint 14 2 (lit< tt),
      (
        fit_bytes 14 c.guid (omega (arith, here.guid)),
        (
          fit_bytes 14 c.rv here.rv,
          (
            text_fit 14 c.info here.info here.text,
            (
              fit_bytes 14 c.secret (omega (arith, here.secret)),
              (
                hash_inside c.key_hash kept.key_hash,
                (fit_uint 14 c.alg (alg_small c.alg kept.alg), tt),
              ),
            ),
          ),
        ),
      ),
    )

-- ---- no map stands in it

norm_text : (t : List ℕ) → norm (items.Text t) ≡ items.Text t
norm_text t = ap norm (sym (items.rolls-Text t)) ∙ fold-roll-Item Item norm_step (Item-F.Text t)

norm_credential : (c : Credential) → norm (item_of_credential c) ≡ item_of_credential c
norm_credential c =
    norm_array (items.Uint 2 ∷ items.Bytes c.guid ∷ items.Bytes c.rv ∷ items.Text c.info ∷ items.Bytes c.secret ∷ item_of_hash c.key_hash ∷ items.Uint c.alg ∷ [])
    ∙ (rw (norm_uint 2, norm_bytes c.guid, norm_bytes c.rv, norm_text c.info, norm_bytes c.secret, norm_hash c.key_hash, norm_uint c.alg) refl)

-- ---- it is read back

long_back : (n : ℕ) (b : List ℕ) → length b ≡ n → (bytes_in (out-Item (items.Bytes b)) >>= of_length n) ≡ Some b
long_back n b size = ap (λ (o : Option (List ℕ)). o >>= of_length n) (content_back b) ∙ (rw (eq-eqb (length b) n size) refl)

rv_back : (b : List ℕ) → is_rv b ≡ true → rv_bytes_in (items.Bytes b) ≡ Some b
rv_back b is = ap (λ (o : Option (List ℕ)). o >>= λ bytes. if is_rv bytes then Some bytes else None) (content_back b) ∙ (rw is refl)

alg_back : (n : ℕ) → is_alg n ≡ true → alg_of (out-Item (items.Uint n)) ≡ Some n
alg_back n is = ap alg_of (items.outs-Uint n) ∙ (rw is refl)

six_back : (c : Credential) (guid rv info secret : Option (List ℕ)) (hash : Option Hash) (alg : Option ℕ) → guid ≡ Some c.guid → rv ≡ Some c.rv → info ≡ Some c.info → secret ≡ Some c.secret → hash ≡ Some c.key_hash → alg ≡ Some c.alg
    → (guid >>= λ guid. rv >>= λ rv. info >>= λ info. secret >>= λ secret. hash >>= λ hash. alg >>= λ alg. Some (record { guid = guid; rv = rv; info = info; secret = secret; key_hash = hash; alg = alg })) ≡ Some c
six_back c guid rv info secret hash alg a b d e f g = rw (a, b, d, e, f, g) refl

with_back : (c : Credential) → IsInMemory c → IsKept c → credential_with (items.Bytes c.guid) (items.Bytes c.rv) (items.Text c.info) (items.Bytes c.secret) (item_of_hash c.key_hash) (alg_of (out-Item (items.Uint c.alg))) ≡ Some c
with_back c here kept =
    six_back c (guid_in (items.Bytes c.guid)) (rv_bytes_in (items.Bytes c.rv)) (text_in (out-Item (items.Text c.info))) (secret_in (items.Bytes c.secret)) (ok_of (hash_in (item_of_hash c.key_hash))) (alg_of (out-Item (items.Uint c.alg)))
    (long_back 16 c.guid here.guid) (rv_back c.rv kept.rv) (ap text_in (items.outs-Text c.info)) (long_back 32 c.secret here.secret) (ap ok_of (hash_back c.key_hash here.hash kept.key_hash)) (alg_back c.alg kept.alg)

pub credential_in_back : (n : ℕ) (c : Credential) → IsInMemory c → IsKept c → credential_in n (item_of_credential c) ≡ Some c
unfolding credential_in
credential_in_back n c here kept =
    let number : is_number 2 (out-Item (items.Uint 2)) ≡ true = ap (is_number 2) (items.outs-Uint 2) in
    ap (λ f. array_layer f >>= credential_of n) (items.outs-Array (items.Uint 2 ∷ items.Bytes c.guid ∷ items.Bytes c.rv ∷ items.Text c.info ∷ items.Bytes c.secret ∷ item_of_hash c.key_hash ∷ items.Uint c.alg ∷ []))
    ∙ ap (λ b. if b then credential_with (items.Bytes c.guid) (items.Bytes c.rv) (items.Text c.info) (items.Bytes c.secret) (item_of_hash c.key_hash) (alg_of (out-Item (items.Uint c.alg))) else None) number
    ∙ with_back c here kept

whole_ended : {A : Type 0} (n place : ℕ) (o : Option A) (x : A) → o ≡ Some x → ended n n place o ≡ Ok x
whole_ended n place o x is = ap (ended n n place) is ∙ (rw (eq-eqb n n refl) refl)

pub body_back : (c : Credential) (body : List ℕ) → body ≡ body_of_credential c → IsInMemory c → IsKept c → IsReadBack (item_of_credential c) body → body_at body ≡ Ok c
body_back c body is here kept back =
    let read : first_item true body ≡ Ok (item_of_credential c, length body) =
    ap (first_item true) (sym (append-nil body)) ∙ (back []).0 ∙ ap (λ x. Ok (x, length body)) (norm_credential c) in
    ap (said_of (credential_in (length body)) (credential_place (length body)) body) read
    ∙ whole_ended (length body) _ (credential_in (length body) (item_of_credential c)) c (credential_in_back (length body) c here kept)

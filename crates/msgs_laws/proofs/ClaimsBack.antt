-- Claims are read back.
use Rattle.std.proofs.Common.{◌≡◌, ℕ, ◌^◌, ◌<◌, ℤ, pos, negsuc, List, [], ◌∷◌, ◌++◌, map, length, true, false, Option, Some, None, refl, sym, ap, subst, ◌∙◌, arith, lit<}
use Rattle.std.proofs.lemmas.Bool.{eq-eqb}
use Rattle.cbor_core.specs.declared.item.Item.{Item, out-Item}
use Rattle.cbor_core.specs.declared.item.Item.TheVariants as items
use Rattle.cbor_core.specs.Deterministic.{det}
use Rattle.cbor_core.specs.Head.{head}
use Rattle.cbor_core.specs.Norm.{norm, in_order, IsFit, IsFitWithin}
use Rattle.cbor_core.specs.Numbers.{item_of_integer, integer_in}
use Rattle.cbor_core.specs.Whole.{whole}
use Rattle.cbor_core.proofs.Dets.{det_uint, det_nint}
use Rattle.cbor_core.proofs.NormLaws.{norm_uint, norm_nint, norm_bytes, norm_map, norm_array, integer_back, content_back, pairs_back, fit_integer, fit_bytes, fit_array, fit_map, fit_said}
use Rattle.cbor_core.proofs.WholeLaws.{spelled_whole}
use Rattle.cbor_core.specs.Shapes.{of_length}
use Rattle.voucher_chain.specs.Fault.{◌>>=◌}
use Rattle.voucher_chain.specs.Header.{guid_in as sixteen_in}
use Rattle.key_codec.specs.declared.key.PublicKey.{PublicKey}
use Rattle.key_codec.specs.Fault.{ok_of}
use Rattle.key_codec.specs.Key.{key_in, item_of_key, IsKey}
use Rattle.key_codec.proofs.Back.{key_back}
use Rattle.voucher_chain.proofs.Seen.{some_is}
use Rattle.msgs_laws.specs.Claims.{OneProof, OneDeviceProof, OneOwnerClaims, OneDeviceClaims}
use Rattle.fdo_msgs.specs.Claims.{owner_claims, owner_claims_in, device_claims, device_claims_in, guid_of, ueid_in, xb_in, proof_of, proof_in, device_proof_of, device_proof_in, item_of_proof, item_of_device_proof}

ten : head 0 10 ≡ 10 ∷ []
unfolding head
ten = refl

two_hundred_fifty_six : head 0 256 ≡ 25 ∷ 1 ∷ 0 ∷ []
unfolding head
two_hundred_fifty_six = refl

minus_257 : head 1 256 ≡ 57 ∷ 1 ∷ 0 ∷ []
unfolding head
minus_257 = refl

uint_det : (n : ℕ) (text : List ℕ) → head 0 n ≡ text → det (items.Uint n) ≡ text
uint_det n text is = ap det (sym (items.rolls-Uint n)) ∙ det_uint n ∙ is

nint_det : (n : ℕ) (text : List ℕ) → head 1 n ≡ text → det (items.Nint n) ≡ text
nint_det n text is = ap det (sym (items.rolls-Nint n)) ∙ det_nint n ∙ is

det_nonce : det (items.Uint 10) ≡ 10 ∷ []
det_nonce = uint_det 10 (10 ∷ []) ten

det_ueid : det (items.Uint 256) ≡ 25 ∷ 1 ∷ 0 ∷ []
det_ueid = uint_det 256 (25 ∷ 1 ∷ 0 ∷ []) two_hundred_fifty_six

det_fdo : det (items.Nint 256) ≡ 57 ∷ 1 ∷ 0 ∷ []
det_fdo = nint_det 256 (57 ∷ 1 ∷ 0 ∷ []) minus_257

-- ---- the pairs are in their order

norm_two : (a b : Item) → norm (items.Map ((items.Uint 10, a) ∷ (items.Uint 256, b) ∷ [])) ≡ items.Map ((items.Uint 10, norm a) ∷ (items.Uint 256, norm b) ∷ [])
norm_two a b = norm_map ((items.Uint 10, a) ∷ (items.Uint 256, b) ∷ []) ∙ (rw (norm_uint 10, norm_uint 256, det_nonce, det_ueid) refl)

norm_three : (a b c : Item) → norm (items.Map ((items.Uint 10, a) ∷ (items.Uint 256, b) ∷ (items.Nint 256, c) ∷ []))
    ≡ items.Map ((items.Uint 10, norm a) ∷ (items.Uint 256, norm b) ∷ (items.Nint 256, norm c) ∷ [])
norm_three a b c = norm_map ((items.Uint 10, a) ∷ (items.Uint 256, b) ∷ (items.Nint 256, c) ∷ []) ∙ (rw (norm_uint 10, norm_uint 256, norm_nint 256, det_nonce, det_ueid, det_fdo) refl)

-- ---- what the bytes say

abbrev proof_pairs : List ℕ → List ℕ → List (Item × Item)
proof_pairs nonce guid = (items.Uint 10, items.Bytes nonce) ∷ (items.Uint 256, items.Bytes (1 ∷ guid)) ∷ []

proof_whole : (nonce guid : List ℕ) → length nonce ≡ 16 → length guid ≡ 16 → whole (det (item_of_proof nonce guid)) ≡ Some (item_of_proof nonce guid)
proof_whole nonce guid n g =
    let x : Item = item_of_proof nonce guid in
    let fit : IsFit x = fit_map 15 (proof_pairs nonce guid) (omega arith)
    ((fit_integer 14 (pos 10) (omega arith), fit_bytes 14 nonce (omega (arith, n))), ((fit_integer 14 (pos 256) (omega arith), fit_bytes 14 (1 ∷ guid) (omega (arith, g))), tt)) in
    spelled_whole (det x) (norm x) (fit_said x fit) ∙ ap Some (norm_two (items.Bytes nonce) (items.Bytes (1 ∷ guid)) ∙ (rw (norm_bytes nonce, norm_bytes (1 ∷ guid)) refl))

abbrev device_pairs : List ℕ → List ℕ → List ℕ → List (Item × Item)
device_pairs nonce guid xb = (items.Uint 10, items.Bytes nonce) ∷ (items.Uint 256, items.Bytes (1 ∷ guid)) ∷ (items.Nint 256, items.Array (items.Bytes xb ∷ [])) ∷ []

norm_half : (xb : List ℕ) → norm (items.Array (items.Bytes xb ∷ [])) ≡ items.Array (items.Bytes xb ∷ [])
norm_half xb = norm_array (items.Bytes xb ∷ []) ∙ ap (λ (x : Item). items.Array (x ∷ [])) (norm_bytes xb)

device_whole : (nonce guid xb : List ℕ) → length nonce ≡ 16 → length guid ≡ 16 → length xb < 2 ^ 64 → whole (det (item_of_device_proof nonce guid xb)) ≡ Some (item_of_device_proof nonce guid xb)
device_whole nonce guid xb n g small =
    let x : Item = item_of_device_proof nonce guid xb in
    let fit : IsFit x = fit_map 15 (device_pairs nonce guid xb) (omega arith) (
      (fit_integer 14 (pos 10) (omega arith), fit_bytes 14 nonce (omega (arith, n))),
      (
        (fit_integer 14 (pos 256) (omega arith), fit_bytes 14 (1 ∷ guid) (omega (arith, g))),
        ((fit_integer 14 (negsuc 256) (omega arith), fit_array 14 (items.Bytes xb ∷ []) (omega arith) (fit_bytes 13 xb small, tt)), tt),
      ),
    ) in
    spelled_whole (det x) (norm x) (fit_said x fit)
    ∙ ap Some (norm_three (items.Bytes nonce) (items.Bytes (1 ∷ guid)) (items.Array (items.Bytes xb ∷ [])) ∙ (rw (norm_bytes nonce, norm_bytes (1 ∷ guid), norm_half xb) refl))

-- ---- claims

sixteen : (b : List ℕ) → length b ≡ 16 → sixteen_in (items.Bytes b) ≡ Some b
sixteen b size = ap (λ (o : Option (List ℕ)). o >>= λ bytes. of_length 16 bytes) (content_back b) ∙ (rw (eq-eqb (length b) 16 size) refl)

ueid : (guid : List ℕ) → length guid ≡ 16 → ueid_in (items.Bytes (1 ∷ guid)) ≡ Some guid
ueid guid size = ap (λ (o : Option (List ℕ)). o >>= guid_of) (content_back (1 ∷ guid)) ∙ (rw (eq-eqb (length guid) 16 size) refl)

half : (xb : List ℕ) → xb_in (items.Array (items.Bytes xb ∷ [])) ≡ Some xb
half xb = rw (items.outs-Array (items.Bytes xb ∷ []), items.outs-Bytes xb) refl

ten_is : integer_in (items.Uint 10) ≡ Some (pos 10)
ten_is = integer_back (pos 10) (omega arith)

ueid_is : integer_in (items.Uint 256) ≡ Some (pos 256)
ueid_is = integer_back (pos 256) (omega arith)

fdo_is : integer_in (items.Nint 256) ≡ Some (negsuc 256)
fdo_is = integer_back (negsuc 256) (omega arith)

proof_says : (nonce guid : List ℕ) (more : List (Item × Item)) → length nonce ≡ 16 → length guid ≡ 16
    → proof_of (items.Map ((items.Uint 10, items.Bytes nonce) ∷ (items.Uint 256, items.Bytes (1 ∷ guid)) ∷ more)) ≡ Some (nonce, guid)
proof_says nonce guid more n g = rw (pairs_back ((items.Uint 10, items.Bytes nonce) ∷ (items.Uint 256, items.Bytes (1 ∷ guid)) ∷ more), ten_is, ueid_is, sixteen nonce n, ueid guid g) refl

pub proof_back : (nonce guid : List ℕ) → length nonce ≡ 16 → length guid ≡ 16 → proof_in (det (item_of_proof nonce guid)) ≡ Some (nonce, guid)
unfolding proof_in
proof_back nonce guid n g = ap (λ (o : Option Item). o >>= proof_of) (proof_whole nonce guid n g) ∙ proof_says nonce guid [] n g

device_says : (nonce guid xb : List ℕ) → length nonce ≡ 16 → length guid ≡ 16 → device_proof_of (items.Map (device_pairs nonce guid xb)) ≡ Some (nonce, guid, xb)
device_says nonce guid xb n g = rw (proof_says nonce guid ((items.Nint 256, items.Array (items.Bytes xb ∷ [])) ∷ []) n g, pairs_back (device_pairs nonce guid xb), ten_is, ueid_is, fdo_is, half xb) refl

pub device_back : (nonce guid xb : List ℕ) → length nonce ≡ 16 → length guid ≡ 16 → length xb < 2 ^ 64 → device_proof_in (det (item_of_device_proof nonce guid xb)) ≡ Some (nonce, guid, xb)
unfolding device_proof_in
device_back nonce guid xb n g small = ap (λ (o : Option Item). o >>= device_proof_of) (device_whole nonce guid xb n g small) ∙ device_says nonce guid xb n g

-- ---- unprotected headers

own_is : integer_in (items.Uint 257) ≡ Some (pos 257)
own_is = integer_back (pos 257) (omega arith)

setup_is : integer_in (items.Nint 258) ≡ Some (negsuc 258)
setup_is = integer_back (negsuc 258) (omega arith)

key_read : (key : PublicKey) → IsKey key → ok_of (key_in (item_of_key key)) ≡ Some key
key_read key is = ap ok_of (key_back key is)

pub owner_back : (nonce : List ℕ) (key : PublicKey) → length nonce ≡ 16 → IsKey key → owner_claims_in (owner_claims nonce key) ≡ Some (nonce, key)
unfolding owner_claims_in
owner_back nonce key n is = rw (ueid_is, own_is, sixteen nonce n, key_read key is) refl

pub setup_back : (nonce : List ℕ) → length nonce ≡ 16 → device_claims_in (device_claims nonce) ≡ Some nonce
unfolding device_claims_in
setup_back nonce n = rw (setup_is, sixteen nonce n) refl

-- ---- so equal texts say the same

both : {A B : Type 0} (x x' : A) (y y' : B) → ◌≡◌ {A = Option (A × B)} (Some (x, y)) (Some (x', y')) → (x ≡ x') × (y ≡ y')
both {A} {B} x x' y y' e = (ap (λ (p : A × B). p.0) (some_is (x, y) (x', y') e), ap (λ (p : A × B). p.1) (some_is (x, y) (x', y') e))

pub one_proof : OneProof
one_proof nonce guid nonce' guid' n g n' g' same =
    both nonce nonce' guid guid' (sym (proof_back nonce guid n g) ∙ ap proof_in same ∙ proof_back nonce' guid' n' g')

pub one_device_proof : OneDeviceProof
one_device_proof nonce guid xb nonce' guid' xb' n g small n' g' small' same =
    let e : ◌≡◌ {A = Option (List ℕ × List ℕ × List ℕ)} (Some (nonce, guid, xb)) (Some (nonce', guid', xb')) =
    sym (device_back nonce guid xb n g small) ∙ ap device_proof_in same ∙ device_back nonce' guid' xb' n' g' small' in
    let p = some_is (nonce, guid, xb) (nonce', guid', xb') e in
    (ap (λ (x : List ℕ × List ℕ × List ℕ). x.0) p, ap (λ (x : List ℕ × List ℕ × List ℕ). x.1) p, ap (λ (x : List ℕ × List ℕ × List ℕ). x.2) p)

pub one_owner : OneOwnerClaims
one_owner nonce nonce' key key' n n' is is' same = both nonce nonce' key key' (sym (owner_back nonce key n is) ∙ ap owner_claims_in same ∙ owner_back nonce' key' n' is')

pub one_setup : OneDeviceClaims
one_setup nonce nonce' n n' same = some_is nonce nonce' (sym (setup_back nonce n) ∙ ap device_claims_in same ∙ setup_back nonce' n')

-- A voucher without entries that is made is read back from its bytes.
use Rattle.std.proofs.Common.{◌≡◌, ℕ, ◌^◌, ◌<◌, true, false, List, [], map, length, Option, Some, None, refl, sym, ap, subst, ◌∙◌, arith}
use Rattle.std.specs.Prelude.{◌≢◌}
use Rattle.cbor_core.specs.declared.item.Item.{out-Item}
use Rattle.cbor_core.specs.declared.item.Item.TheVariants as items
use Rattle.cbor_core.specs.Head.{head}
use Rattle.cbor_core.specs.Deterministic.{det}
use Rattle.cbor_core.specs.Norm.{IsFitWithin}
use Rattle.cbor_core.specs.Shapes.{is_null, is_array}
use Rattle.cbor_core.proofs.NormLaws.{content_back}
use Rattle.cbor_core.proofs.WholeLaws.{shows_again}
use Rattle.hash_hmac.specs.declared.hash.Hash.{Hash}
use Rattle.hash_hmac.specs.Value.{IsConsistent}
use Rattle.key_codec.specs.Fault.{ok_of}
use Rattle.key_codec.specs.Hash.{item_of_hash}
use Rattle.key_codec.proofs.Back.{chain_back}
use Rattle.key_codec.proofs.HashLaws.{hash_back}
use Rattle.key_codec.proofs.Norms.{norm_hash}
use Rattle.voucher_chain.specs.declared.header.Header.{Header}
use Rattle.voucher_chain.specs.declared.voucher.Voucher.{Voucher}
use Rattle.voucher_chain.specs.Fault.{◌>>=◌, value_in}
use Rattle.voucher_chain.specs.Header.{header_seen, header_place, header_at, IsHeader}
use Rattle.voucher_chain.specs.Reading.{IsInMemory, IsVoucher}
use Rattle.voucher_chain.specs.Voucher.{is_mac, mac_if, mac_in, header_inside, certificates_in, item_of_certificates, voucher_with}
use Rattle.voucher_chain.proofs.BackLaws.{hash_inside, null_fits, null_is}
use Rattle.voucher_chain.proofs.InMemory.{chain_fit}
use Rattle.voucher_chain.proofs.WholeBack.{Parts, sixth_below, norm_certificates, det_spelled, written_back}

-- ---- the certificates

certificates_fit : (chain : Option (List (List ℕ))) → length (det (item_of_certificates chain)) < 2 ^ 64 → IsFitWithin 15 (item_of_certificates chain)
certificates_fit None small = null_fits 14
certificates_fit (Some bs) small = chain_fit 13 bs small

certificates_back : (chain : Option (List (List ℕ))) → chain ≢ Some [] → certificates_in (item_of_certificates chain) ≡ Some chain
certificates_back None h = rw null_is refl
certificates_back (Some bs) h =
    let xs = map items.Bytes bs in
    let not_null : is_null (out-Item (items.Array xs)) ≡ false = ap is_null (items.outs-Array xs) in
    let array : is_array (out-Item (items.Array xs)) ≡ true = ap is_array (items.outs-Array xs) in
    rw (not_null, array, chain_back bs (λ e. h (ap Some e))) refl

-- ---- the header and the HMAC

header_back : (header : Header) → IsHeader header.raw header → header_inside (items.Bytes header.raw) ≡ Some header
header_back header h =
    ap (λ (o : Option (List ℕ)). o >>= λ bytes. value_in (header_at bytes)) (content_back header.raw) ∙ ap value_in (shows_again header_seen header_place header.raw header h)

mac_back : (hmac : Hash) → length hmac.bytes ≡ 48 → IsConsistent hmac → is_mac hmac.kind ≡ true → mac_in (item_of_hash hmac) ≡ Some hmac
mac_back hmac room is known = ap (λ r. ok_of r >>= mac_if) (hash_back hmac room is) ∙ (rw known refl)

-- ---- the whole

pub new_back : (header : Header) (hmac : Hash) (chain : Option (List (List ℕ))) (w : Voucher) → w ≡ voucher_with header hmac (det (item_of_hash hmac)) chain [] → IsInMemory w.raw → length hmac.bytes ≡ 48 → is_mac hmac.kind ≡ true
    → IsHeader header.raw header → IsConsistent hmac → chain ≢ Some [] → IsVoucher w.raw w
new_back header hmac chain w is memory room known spelled consistent some =
    let certs = item_of_certificates chain in
    let small : length (det certs) < 2 ^ 64 = sixth_below (head 4 5) (head 0 101) (head 2 (length header.raw)) header.raw (det (item_of_hash hmac)) (det certs) (head 4 0) [] (2 ^ 64) (subst (λ (u : Voucher). length u.raw < 2 ^ 64) is memory.small) in
    let p : Parts w [] = subst (λ (u : Voucher). Parts u []) (sym is) (record {
      mac = item_of_hash hmac;
      certificates = certs;
      mac_spelled = det_spelled 15 (item_of_hash hmac) (det (item_of_hash hmac)) (hash_inside hmac consistent) (norm_hash hmac) refl;
      certificates_spelled = det_spelled 15 certs (det certs) (certificates_fit chain small) (norm_certificates chain) refl;
      header = header_back header spelled;
      hmac = mac_back hmac room consistent known;
      chain = certificates_back chain some;
      kept = record { ps = []; spelled = tt; says = refl; same = refl; count = refl };
    }) in
    subst (IsVoucher w.raw) whole (written_back w [] p (omega arith) w.raw raw memory.small memory.fits)
  where
    whole : voucher_with w.header w.hmac w.hmac_raw w.chain [] ≡ w
    whole = ap (λ (u : Voucher). voucher_with u.header u.hmac u.hmac_raw u.chain []) is ∙ sym is

    raw : w.raw ≡ (voucher_with w.header w.hmac w.hmac_raw w.chain []).raw
    raw = sym (ap (λ (u : Voucher). u.raw) whole)

pub some_not : {A : Type 0} (xs : List A) → xs ≢ [] → Some xs ≢ Some []
some_not xs h e = h (cc e)

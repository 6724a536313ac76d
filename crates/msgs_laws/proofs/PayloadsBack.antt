-- Payloads are read back.
use Rattle.std.proofs.Common.{◌≡◌, ℕ, ◌+◌, ◌^◌, ◌<◌, List, [], ◌∷◌, ◌++◌, length, Option, Some, None, refl, sym, ap, ◌∙◌, arith}
use Rattle.std.proofs.lemmas.List.{length-append}
use Rattle.cbor_core.specs.declared.item.Item.{Item, out-Item}
use Rattle.cbor_core.specs.declared.item.Item.TheVariants as items
use Rattle.cbor_core.specs.Deterministic.{det}
use Rattle.cbor_core.specs.Head.{head}
use Rattle.cbor_core.specs.Norm.{norm}
use Rattle.cbor_core.specs.Spots.{Spot, start}
use Rattle.key_codec.specs.declared.key.PublicKey.{PublicKey}
use Rattle.key_codec.specs.Fault.{ok_of}
use Rattle.key_codec.specs.Hash.{hash_in, item_of_hash}
use Rattle.key_codec.specs.Key.{key_in, item_of_key, IsKey}
use Rattle.key_codec.specs.SigInfo.{item_of_sig_info}
use Rattle.key_codec.proofs.Back.{key_back}
use Rattle.key_codec.proofs.Norms.{norm_key}
use Rattle.voucher_chain.specs.declared.rv_info.RvInstr.{RvInstr}
use Rattle.voucher_chain.specs.Fault.{◌>>=◌}
use Rattle.voucher_chain.specs.RvInfo.{rv_in, item_of_rv}
use Rattle.voucher_chain.proofs.InMemory.{key_fit, rv_fit}
use Rattle.voucher_chain.proofs.Places.{Texts}
use Rattle.voucher_chain.proofs.Seen.{some_is}
use Rattle.fdo_msgs.specs.declared.header_payload.HeaderPayload.{HeaderPayload}
use Rattle.fdo_msgs.specs.declared.setup_payload.SetupPayload.{SetupPayload}
use Rattle.fdo_msgs.specs.Payloads.{header_in, header_seen, header_text, setup_in, setup_seen, setup_text}
use Rattle.fdo_msgs.proofs.RowBack.{RowStands, row_stands, det_inside}
use Rattle.fdo_msgs.proofs.ValueBack.{u8_said, u16_said, bytes_said, sixteen_said, sig_said, hash_said, header_said, fit_number, fit_string, fit_sig, fit_hash}
use Rattle.msgs_laws.specs.Payloads.{IsSetup, IsHeaderPayload, OneSetup, OneHeader}
use Rattle.msgs_laws.proofs.Rows.{inside_is, four_stand, eight_stand}
use Rattle.msgs_laws.proofs.RvBack.{rv_back, norm_rv}

-- ---- TO2.SetupDevice

record AreBelow (a d : List ℕ) (n : ℕ) : Type 0 where
  first : length a < n
  last : length d < n

four_below : (h a b c d : List ℕ) (n : ℕ) → length (h ++ (a ++ (b ++ (c ++ (d ++ []))))) < n → AreBelow a d n
four_below h a b c d n small =
    let all : length (h ++ (a ++ (b ++ (c ++ (d ++ []))))) ≡ length h + length a + length b + length c + length (d ++ []) = omega (
      arith,
      length-append h (a ++ (b ++ (c ++ (d ++ [])))),
      length-append a (b ++ (c ++ (d ++ []))),
      length-append b (c ++ (d ++ [])),
      length-append c (d ++ []),
    ) in
    record { first = omega (arith, all, small); last = omega (arith, all, small, length-append d []) }

rv_said : (rv : List (List RvInstr)) → rv_in (norm (item_of_rv rv)) ≡ Some rv
rv_said rv = rw (norm_rv rv) (rv_back rv)

key_said : (key : PublicKey) → IsKey key → ok_of (key_in (norm (item_of_key key))) ≡ Some key
key_said key is = rw (norm_key key) (ap ok_of (key_back key is))

abbrev inner : Item → Item × List ℕ
inner x = (norm x, det x)

abbrev setup_parts : SetupPayload → Texts
setup_parts p = inner (item_of_rv p.rv) ∷ inner (items.Bytes p.guid) ∷ inner (items.Bytes p.nonce) ∷ inner (item_of_key p.key) ∷ []

pub setup_back : (p : SetupPayload) → IsSetup p → setup_in (setup_text p) ≡ Some p
unfolding setup_in
setup_back p h =
    let below = four_below (head 4 4) (det (item_of_rv p.rv)) (det (items.Bytes p.guid)) (det (items.Bytes p.nonce)) (det (item_of_key p.key)) (2 ^ 64) h.memory.small in
    let r : RowStands (setup_parts p) = row_stands (setup_parts p) (omega arith) (
      det_inside (item_of_rv p.rv) (rv_fit 11 p.rv h.rv below.first),
      (
        det_inside (items.Bytes p.guid) (fit_string p.guid (omega (arith, h.guid))),
        (
          det_inside (items.Bytes p.nonce) (fit_string p.nonce (omega (arith, h.nonce))),
          (det_inside (item_of_key p.key) (key_fit 12 p.key h.key below.last), tt),
        ),
      ),
    ) h.memory in
    let f = four_stand (inner (item_of_rv p.rv)) (inner (items.Bytes p.guid)) (inner (items.Bytes p.nonce)) (inner (item_of_key p.key)) r in
    ap (λ (o : Option Spot). o >>= setup_seen) (inside_is (setup_parts p) r)
    ∙ (rw (f.is, f.a_item, f.b_item, f.c_item, f.d_item, rv_said p.rv, sixteen_said p.guid h.guid, sixteen_said p.nonce h.nonce, key_said p.key h.key) refl)

pub one_setup : OneSetup
one_setup p q is is' same = some_is p q (sym (setup_back p is) ∙ ap setup_in same ∙ setup_back q is')

-- ---- TO2.ProveOVHdr

abbrev header_parts : (p : HeaderPayload) → IsHeaderPayload p → Texts
header_parts p h =
    inner (items.Bytes p.header.raw) ∷ inner (items.Uint p.entries) ∷ (h.hmac.item, p.hmac_raw) ∷ inner (items.Bytes p.nonce) ∷
    inner (item_of_sig_info p.sig) ∷ inner (items.Bytes p.xa) ∷ inner (item_of_hash p.hello_hash) ∷ inner (items.Uint p.max_size) ∷ []

pub header_back : (p : HeaderPayload) → IsHeaderPayload p → header_in (header_text p) ≡ Some p
unfolding header_in
header_back p h =
    let r : RowStands (header_parts p h) = row_stands (header_parts p h) (omega arith) (
      det_inside (items.Bytes p.header.raw) (fit_string p.header.raw h.header.1),
      (
        det_inside (items.Uint p.entries) (fit_number p.entries (omega (arith, h.entries))),
        (
          h.hmac.spelled,
          (
            det_inside (items.Bytes p.nonce) (fit_string p.nonce (omega (arith, h.nonce))),
            (
              det_inside (item_of_sig_info p.sig) (fit_sig p.sig h.sig),
              (
                det_inside (items.Bytes p.xa) (fit_string p.xa h.xa),
                (
                  det_inside (item_of_hash p.hello_hash) (fit_hash p.hello_hash h.hello_hash),
                  (det_inside (items.Uint p.max_size) (fit_number p.max_size (omega (arith, h.max_size))), tt),
                ),
              ),
            ),
          ),
        ),
      ),
    ) h.memory in
    let f = eight_stand (inner (items.Bytes p.header.raw)) (inner (items.Uint p.entries)) (h.hmac.item, p.hmac_raw) (inner (items.Bytes p.nonce))
    (inner (item_of_sig_info p.sig)) (inner (items.Bytes p.xa)) (inner (item_of_hash p.hello_hash)) (inner (items.Uint p.max_size)) r in
    ap (λ (o : Option Spot). o >>= header_seen) (inside_is (header_parts p h) r)
    ∙ (rw (
      f.is,
      f.a_item,
      f.b_item,
      f.c_item,
      f.c_raw,
      f.d_item,
      f.e_item,
      f.f_item,
      f.g_item,
      f.h_item,
      header_said p.header h.header.0,
      u8_said p.entries h.entries,
      h.hmac.says,
      sixteen_said p.nonce h.nonce,
      sig_said p.sig h.sig,
      bytes_said p.xa,
      hash_said p.hello_hash h.hello_hash,
      u16_said p.max_size h.max_size,
    ) refl)

pub one_header : OneHeader
one_header p q is is' same = some_is p q (sym (header_back p is) ∙ ap header_in same ∙ header_back q is')

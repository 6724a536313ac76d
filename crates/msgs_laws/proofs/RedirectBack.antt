-- Addresses and the hash of to0d are read back.
use Rattle.std.proofs.Common.{◌≡◌, ℕ, ◌^◌, ◌<◌, List, [], ◌∷◌, map, Option, Some, None, refl, sym, ap, subst, ◌∙◌, arith}
use Rattle.std.specs.List.{AllByRecursion}
use Rattle.cbor_core.specs.declared.item.Item.{Item, out-Item}
use Rattle.cbor_core.specs.declared.item.Item.TheVariants as items
use Rattle.cbor_core.specs.Deterministic.{det}
use Rattle.cbor_core.specs.Norm.{norm}
use Rattle.cbor_core.specs.Shapes.{array_layer, four_items}
use Rattle.cbor_core.specs.Spots.{Spot}
use Rattle.cbor_core.proofs.Dets.{norm_text as text_norm}
use Rattle.cbor_core.proofs.NormLaws.{norm_uint, norm_bytes, norm_array, four_back}
use Rattle.hash_hmac.specs.declared.hash.Hash.{Hash}
use Rattle.key_codec.specs.Hash.{item_of_hash}
use Rattle.voucher_chain.specs.Fault.{◌>>=◌, all_in}
use Rattle.voucher_chain.proofs.BackLaws.{norm_null, null_is}
use Rattle.voucher_chain.proofs.Places.{Texts}
use Rattle.voucher_chain.proofs.Seen.{two_some, some_is}
use Rattle.fdo_msgs.specs.declared.addr.AddrEntry.{AddrEntry}
use Rattle.fdo_msgs.specs.Addr.{maybe_bytes_in, maybe_text_in, addr_in, addrs_in, item_of_maybe_bytes, item_of_maybe_text, item_of_addr, item_of_addrs}
use Rattle.fdo_msgs.specs.Fit.{IsPort}
use Rattle.fdo_msgs.specs.To1d.{redirect, redirect_in, redirect_text}
use Rattle.fdo_msgs.specs.Value.{u16_in}
use Rattle.fdo_msgs.proofs.RowBack.{RowStands, row_stands, two_stand, det_inside}
use Rattle.fdo_msgs.proofs.ValueBack.{u16_said, text_said, hash_said, fit_hash}
use Rattle.msgs_laws.specs.Redirect.{IsRedirect, OneRedirect}
use Rattle.msgs_laws.proofs.Rows.{inside_is}

number_back : (n : ℕ) → n < 2 ^ 16 → u16_in (items.Uint n) ≡ Some n
number_back n h = subst (λ x. u16_in x ≡ Some n) (norm_uint n) (u16_said n h)

norm_text : (t : List ℕ) → norm (items.Text t) ≡ items.Text t
norm_text t = ap norm (sym (items.rolls-Text t)) ∙ text_norm t ∙ items.rolls-Text t

norm_maybe_bytes : (o : Option (List ℕ)) → norm (item_of_maybe_bytes o) ≡ item_of_maybe_bytes o
norm_maybe_bytes None = norm_null
norm_maybe_bytes (Some b) = norm_bytes b

norm_maybe_text : (o : Option (List ℕ)) → norm (item_of_maybe_text o) ≡ item_of_maybe_text o
norm_maybe_text None = norm_null
norm_maybe_text (Some t) = norm_text t

ip_back : (o : Option (List ℕ)) → maybe_bytes_in (item_of_maybe_bytes o) ≡ Some o
ip_back None = rw null_is refl
ip_back (Some b) = rw (items.outs-Bytes b) refl

name_back : (o : Option (List ℕ)) → maybe_text_in (item_of_maybe_text o) ≡ Some o
name_back None = rw null_is refl
name_back (Some t) = rw (items.outs-Text t) refl

addr_back : (a : AddrEntry) → IsPort a → addr_in (item_of_addr a) ≡ Some a
addr_back a h = rw (four_back (item_of_maybe_bytes a.ip) (item_of_maybe_text a.dns) (items.Uint a.port) (items.Uint a.protocol), ip_back a.ip, name_back a.dns, number_back a.port h.0, number_back a.protocol h.1) refl

norm_addr : (a : AddrEntry) → norm (item_of_addr a) ≡ item_of_addr a
norm_addr a = norm_array (item_of_maybe_bytes a.ip ∷ item_of_maybe_text a.dns ∷ items.Uint a.port ∷ items.Uint a.protocol ∷ [])
    ∙ (rw (norm_maybe_bytes a.ip, norm_maybe_text a.dns, norm_uint a.port, norm_uint a.protocol) refl)

norm_all : (addrs : List AddrEntry) → map norm (map item_of_addr addrs) ≡ map item_of_addr addrs
norm_all [] = refl
norm_all (a ∷ addrs) = rw (norm_addr a, norm_all addrs) refl

all_back : (addrs : List AddrEntry) → AllByRecursion IsPort addrs → all_in addr_in (map item_of_addr addrs) ≡ Some addrs
all_back [] h = refl
all_back (a ∷ addrs) h = two_some (addr_in (item_of_addr a)) (all_in addr_in (map item_of_addr addrs)) a addrs (addr_back a h.0) (all_back addrs h.1)

addrs_said : (addrs : List AddrEntry) → AllByRecursion IsPort addrs → addrs_in (norm (item_of_addrs addrs)) ≡ Some addrs
addrs_said addrs h = rw (norm_array (map item_of_addr addrs), norm_all addrs, items.outs-Array (map item_of_addr addrs)) (all_back addrs h)

abbrev inner : Item → Item × List ℕ
inner x = (norm x, det x)

abbrev parts : List AddrEntry → Hash → Texts
parts addrs hash = inner (item_of_addrs addrs) ∷ inner (item_of_hash hash) ∷ []

pub redirect_back : (addrs : List AddrEntry) (hash : Hash) → IsRedirect addrs hash → redirect_in (redirect_text addrs hash) ≡ Some (addrs, hash)
unfolding redirect_in
redirect_back addrs hash h =
    let r : RowStands (parts addrs hash) = row_stands (parts addrs hash) (omega arith) (det_inside (item_of_addrs addrs) h.fit, (det_inside (item_of_hash hash) (fit_hash hash h.hashed), tt)) h.memory in
    let f = two_stand (inner (item_of_addrs addrs)) (inner (item_of_hash hash)) r in
    ap (λ (o : Option Spot). o >>= redirect) (inside_is (parts addrs hash) r) ∙ (rw (f.is, f.a_item, f.b_item, addrs_said addrs h.ports, hash_said hash h.hashed) refl)

pub one_redirect : OneRedirect
one_redirect addrs addrs' hash hash' is is' same =
    let e : ◌≡◌ {A = Option (List AddrEntry × Hash)} (Some (addrs, hash)) (Some (addrs', hash')) = sym (redirect_back addrs hash is) ∙ ap redirect_in same ∙ redirect_back addrs' hash' is' in
    let p = some_is (addrs, hash) (addrs', hash') e in
    (ap (λ (x : List AddrEntry × Hash). x.0) p, ap (λ (x : List AddrEntry × Hash). x.1) p)

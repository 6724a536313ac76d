-- A header that is made is read back from its bytes.
use Rattle.std.proofs.Common.{◌≡◌, ℕ, ◌+◌, ◌^◌, ◌<◌, true, false, List, [], ◌∷◌, ◌++◌, map, length, Option, Some, None, refl, sym, ap, subst, ◌∙◌, arith, lit<}
use Rattle.std.specs.List.{AllByRecursion}
use Rattle.std.proofs.lemmas.Bool.{eq-eqb}
use Rattle.std.specs.Str.{is_utf8}
use Rattle.std.proofs.lemmas.List.{append-nil, length-append}
use Rattle.cbor_core.specs.declared.item.Item.{Item, out-Item}
use Rattle.cbor_core.specs.declared.item.Item.TheOpen.{Item-F}
use Rattle.cbor_core.specs.declared.item.Item.TheFolds.{fold-roll-Item}
use Rattle.cbor_core.specs.declared.item.Item.TheVariants as items
use Rattle.cbor_core.specs.Head.{head}
use Rattle.cbor_core.specs.Deterministic.{det}
use Rattle.cbor_core.specs.Norm.{norm, norm_step, IsFitLayer, IsFitWithin}
use Rattle.cbor_core.specs.Shapes.{array_layer, is_array, is_null, of_length, six_spots}
use Rattle.cbor_core.specs.Spelling.{Spells}
use Rattle.cbor_core.specs.Spots.{Spot, start, spot_item, spot_raw, spot_parts, text_in}
use Rattle.cbor_core.proofs.Dets.{det_text}
use Rattle.cbor_core.proofs.NormLaws.{norm_uint, norm_bytes, norm_array, content_back, fit_uint, fit_bytes}
use Rattle.hash_hmac.specs.declared.hash.Hash.{Hash}
use Rattle.key_codec.specs.declared.key.PublicKey.{PublicKey}
use Rattle.key_codec.specs.Fault.{ok_of}
use Rattle.key_codec.specs.Hash.{item_of_hash}
use Rattle.key_codec.specs.Key.{key_in, item_of_key, IsKey}
use Rattle.key_codec.proofs.Back.{key_back}
use Rattle.key_codec.proofs.HashLaws.{hash_back}
use Rattle.key_codec.proofs.Norms.{norm_hash, norm_key}
use Rattle.voucher_chain.specs.declared.header.Header.{Header}
use Rattle.voucher_chain.specs.declared.rv_info.RvInstr.{RvInstr}
use Rattle.voucher_chain.specs.Fault.{◌>>=◌, all_in}
use Rattle.voucher_chain.specs.Header.{is_version, guid_in, maybe_hash_in, header_seen, item_of_header, item_of_maybe_hash, header_with, IsHeader, IsMaybeHash, HasRoom}
use Rattle.voucher_chain.specs.Reading.{IsInMemory}
use Rattle.voucher_chain.specs.RvInfo.{instr_in, directive_in, rv_in, value_items, item_of_instr, item_of_directive, item_of_rv, AreNumbers}
use Rattle.voucher_chain.proofs.BackLaws.{of_layer, hash_inside, null_fits, norm_null, null_is}
use Rattle.voucher_chain.proofs.InMemory.{array_is, key_fit, rv_fit}
use Rattle.voucher_chain.proofs.Places.{Placed, placed_is, Texts, AreSpelled, ArePlaced, array_text, array_spelled, array_parts}
use Rattle.voucher_chain.proofs.Seen.{two_some}
use Rattle.voucher_chain.proofs.WholeBack.{det_spelled}

-- ---- rendezvous information

all_back : {X A : Type 0} (said : X → Option A) (made : A → X) → ((a : A) → said (made a) ≡ Some a) → (xs : List A) → all_in said (map made xs) ≡ Some xs
all_back said made one [] = refl
all_back said made one (x ∷ xs) = two_some (said (made x)) (all_in said (map made xs)) x xs (one x) (all_back said made one xs)

instr_by : (n : ℕ) (o : Option (List ℕ)) → instr_in (items.Array (items.Uint n ∷ value_items o)) ≡ Some (record { variable = n; value = o })
instr_by n None = rw (items.outs-Array (items.Uint n ∷ []), items.outs-Uint n) refl
instr_by n (Some b) = rw (items.outs-Array (items.Uint n ∷ items.Bytes b ∷ []), items.outs-Uint n, items.outs-Bytes b) refl

instr_back : (i : RvInstr) → instr_in (item_of_instr i) ≡ Some i
instr_back i = instr_by i.variable i.value

directive_back : (d : List RvInstr) → directive_in (item_of_directive d) ≡ Some d
directive_back d = ap (λ f. array_layer f >>= λ xs. all_in instr_in xs) (items.outs-Array (map item_of_instr d)) ∙ all_back instr_in item_of_instr instr_back d

rv_back : (rv : List (List RvInstr)) → rv_in (item_of_rv rv) ≡ Some rv
rv_back rv = ap (λ f. array_layer f >>= λ xs. all_in directive_in xs) (items.outs-Array (map item_of_directive rv)) ∙ all_back directive_in item_of_directive directive_back rv

map_same : {X : Type 0} (made : X → Item) → ((x : X) → norm (made x) ≡ made x) → (xs : List X) → map norm (map made xs) ≡ map made xs
map_same made one [] = refl
map_same made one (x ∷ xs) = rw (one x, map_same made one xs) refl

norm_value : (n : ℕ) (o : Option (List ℕ)) → norm (items.Array (items.Uint n ∷ value_items o)) ≡ items.Array (items.Uint n ∷ value_items o)
norm_value n None = norm_array (items.Uint n ∷ []) ∙ (rw (norm_uint n) refl)
norm_value n (Some b) = norm_array (items.Uint n ∷ items.Bytes b ∷ []) ∙ (rw (norm_uint n, norm_bytes b) refl)

norm_instr : (i : RvInstr) → norm (item_of_instr i) ≡ item_of_instr i
norm_instr i = norm_value i.variable i.value

norm_directive : (d : List RvInstr) → norm (item_of_directive d) ≡ item_of_directive d
norm_directive d = norm_array (map item_of_instr d) ∙ ap items.Array (map_same item_of_instr norm_instr d)

norm_rv : (rv : List (List RvInstr)) → norm (item_of_rv rv) ≡ item_of_rv rv
norm_rv rv = norm_array (map item_of_directive rv) ∙ ap items.Array (map_same item_of_directive norm_directive rv)

-- ---- the other parts

norm_text : (t : List ℕ) → norm (items.Text t) ≡ items.Text t
norm_text t = ap norm (sym (items.rolls-Text t)) ∙ fold-roll-Item Item norm_step (Item-F.Text t)

norm_maybe : (o : Option Hash) → norm (item_of_maybe_hash o) ≡ item_of_maybe_hash o
norm_maybe None = norm_null
norm_maybe (Some hash) = norm_hash hash

guid_back : (guid : List ℕ) → length guid ≡ 16 → guid_in (items.Bytes guid) ≡ Some guid
guid_back guid size = ap (λ (o : Option (List ℕ)). o >>= λ bytes. of_length 16 bytes) (content_back guid) ∙ (rw (eq-eqb (length guid) 16 size) refl)

maybe_back : (o : Option Hash) → IsMaybeHash o → HasRoom o → maybe_hash_in (item_of_maybe_hash o) ≡ Some o
maybe_back None is room = rw null_is refl
maybe_back (Some hash) is room =
    let not_null : is_null (out-Item (item_of_hash hash)) ≡ false = ap is_null (items.outs-Array _) in
    rw (not_null, hash_back hash room is) refl

-- ---- parts that are fit to be written

text_fit : (t : List ℕ) → length (det (items.Text t)) < 2 ^ 64 → is_utf8 t ≡ true → IsFitWithin 15 (items.Text t)
text_fit t small utf8 =
    let long : length (det (items.Text t)) ≡ length (head 3 (length t)) + length t = ap length (ap det (sym (items.rolls-Text t)) ∙ det_text t) ∙ length-append (head 3 (length t)) t in
    of_layer 14 (items.Text t) (subst (IsFitLayer (IsFitWithin 14)) (sym (items.outs-Text t)) (omega arith, utf8))

maybe_fit : (o : Option Hash) → IsMaybeHash o → IsFitWithin 15 (item_of_maybe_hash o)
maybe_fit None is = null_fits 14
maybe_fit (Some hash) is = hash_inside hash is

-- no part is longer than the whole
record AreBelow (c d e : List ℕ) (n : ℕ) : Type 0 where
  third : length c < n
  fourth : length d < n
  fifth : length e < n

parts_below : (h a b c d e f : List ℕ) (n : ℕ) → length (h ++ (a ++ (b ++ (c ++ (d ++ (e ++ (f ++ []))))))) < n → AreBelow c d e n
parts_below h a b c d e f n small =
    let all : length (h ++ (a ++ (b ++ (c ++ (d ++ (e ++ (f ++ []))))))) ≡ length h + length a + length b + length c + length d + length e + length (f ++ []) =
    omega (
      arith,
      length-append h (a ++ (b ++ (c ++ (d ++ (e ++ (f ++ [])))))),
      length-append a (b ++ (c ++ (d ++ (e ++ (f ++ []))))),
      length-append b (c ++ (d ++ (e ++ (f ++ [])))),
      length-append c (d ++ (e ++ (f ++ []))),
      length-append d (e ++ (f ++ [])),
      length-append e (f ++ []),
    ) in
    record { third = omega arith; fourth = omega arith; fifth = omega arith }

-- ---- the six parts

record SixPlaced (levels : ℕ) (a b c d e f : Item × List ℕ) (ss : List Spot) : Type 0 where
  s0 : Spot
  s1 : Spot
  s2 : Spot
  s3 : Spot
  s4 : Spot
  s5 : Spot
  are : ss ≡ s0 ∷ s1 ∷ s2 ∷ s3 ∷ s4 ∷ s5 ∷ []
  p0 : Placed levels a.0 a.1 s0
  p1 : Placed levels b.0 b.1 s1
  p2 : Placed levels c.0 c.1 s2
  p3 : Placed levels d.0 d.1 s3
  p4 : Placed levels e.0 e.1 s4
  p5 : Placed levels f.0 f.1 s5

six_placed : (levels : ℕ) (a b c d e f : Item × List ℕ) (ss : List Spot) → ArePlaced levels (a ∷ b ∷ c ∷ d ∷ e ∷ f ∷ []) ss → SixPlaced levels a b c d e f ss
six_placed levels a b c d e f [] h = absurd h
six_placed levels a b c d e f (s ∷ []) h = absurd h.1
six_placed levels a b c d e f (s ∷ t ∷ []) h = absurd h.1.1
six_placed levels a b c d e f (s ∷ t ∷ u ∷ []) h = absurd h.1.1.1
six_placed levels a b c d e f (s ∷ t ∷ u ∷ v ∷ []) h = absurd h.1.1.1.1
six_placed levels a b c d e f (s ∷ t ∷ u ∷ v ∷ w ∷ []) h = absurd h.1.1.1.1.1
six_placed levels a b c d e f (s ∷ t ∷ u ∷ v ∷ w ∷ x ∷ []) h = record { s0 = s; s1 = t; s2 = u; s3 = v; s4 = w; s5 = x; are = refl; p0 = h.0; p1 = h.1.0; p2 = h.1.1.0; p3 = h.1.1.1.0; p4 = h.1.1.1.1.0; p5 = h.1.1.1.1.1.0 }
six_placed levels a b c d e f (s ∷ t ∷ u ∷ v ∷ w ∷ x ∷ y ∷ ss) h = absurd h.1.1.1.1.1.1

six_from : (s a b c d e f : Spot) → is_array (out-Item (spot_item s)) ≡ true → spot_parts s ≡ a ∷ b ∷ c ∷ d ∷ e ∷ f ∷ [] → six_spots s ≡ Some (a, b, c, d, e, f)
six_from s a b c d e f array are = rw (array, are) refl

seen_again : (s a b c d e f : Spot) (w : Header) → six_spots s ≡ Some (a, b, c, d, e, f) → is_version (out-Item (spot_item a)) ≡ true → guid_in (spot_item b) ≡ Some w.guid → rv_in (spot_item c) ≡ Some w.rv
    → text_in (out-Item (spot_item d)) ≡ Some w.info → ok_of (key_in (spot_item e)) ≡ Some w.key → maybe_hash_in (spot_item f) ≡ Some w.chain_hash → spot_raw s ≡ w.raw → spot_raw e ≡ w.key_raw → header_seen s ≡ Some w
unfolding header_seen
seen_again s a b c d e f w six version guid rv info key hash raw key_raw = rw (six, version, guid, rv, info, key, hash, raw, key_raw) refl

-- ---- the whole

module _ (guid : List ℕ) (rv : List (List RvInstr)) (info : List ℕ) (key : PublicKey) (hash : Option Hash) (size : length guid ≡ 16) (numbers : AllByRecursion AreNumbers rv) (utf8 : is_utf8 info ≡ true) (small : length (det (item_of_header guid rv info key hash)) < 2 ^ 64) (is_key : IsKey key) (is_hash : IsMaybeHash hash) (room : HasRoom hash) where
  abbrev xs : List Item
  xs = items.Uint 101 ∷ items.Bytes guid ∷ item_of_rv rv ∷ items.Text info ∷ item_of_key key ∷ item_of_maybe_hash hash ∷ []

  abbrev one : Item → Item × List ℕ
  one x = (x, det x)

  abbrev row : Texts
  row = one (items.Uint 101) ∷ one (items.Bytes guid) ∷ one (item_of_rv rv) ∷ one (items.Text info) ∷ one (item_of_key key) ∷ one (item_of_maybe_hash hash) ∷ []

  parts_fit : AllByRecursion (IsFitWithin 15) xs
  parts_fit =
      let below : length (head 4 6 ++ (det (items.Uint 101) ++ (det (items.Bytes guid) ++ (det (item_of_rv rv) ++ (det (items.Text info) ++ (det (item_of_key key) ++ (det (item_of_maybe_hash hash) ++ []))))))) < 2 ^ 64 = omega (arith, small, ap length (array_is xs)) in
      let are = parts_below (head 4 6) (det (items.Uint 101)) (det (items.Bytes guid)) (det (item_of_rv rv)) (det (items.Text info)) (det (item_of_key key)) (det (item_of_maybe_hash hash)) (2 ^ 64) below in
      (fit_uint 14 101 (lit< tt), (fit_bytes 14 guid (omega (arith, size)), (rv_fit 11 rv numbers are.third, (text_fit info are.fourth utf8, (key_fit 12 key is_key are.fifth, (maybe_fit hash is_hash, tt))))))

  row_is : AreSpelled 15 row
  row_is = (
    det_spelled 15 (items.Uint 101) (det (items.Uint 101)) parts_fit.0 (norm_uint 101) refl,
    (
      det_spelled 15 (items.Bytes guid) (det (items.Bytes guid)) parts_fit.1.0 (norm_bytes guid) refl,
      (
        det_spelled 15 (item_of_rv rv) (det (item_of_rv rv)) parts_fit.1.1.0 (norm_rv rv) refl,
        (
          det_spelled 15 (items.Text info) (det (items.Text info)) parts_fit.1.1.1.0 (norm_text info) refl,
          (
            det_spelled 15 (item_of_key key) (det (item_of_key key)) parts_fit.1.1.1.1.0 (norm_key key) refl,
            (det_spelled 15 (item_of_maybe_hash hash) (det (item_of_maybe_hash hash)) parts_fit.1.1.1.1.1.0 (norm_maybe hash) refl, tt),
          ),
        ),
      ),
    ),
  )

  raw_is : det (item_of_header guid rv info key hash) ≡ array_text row
  raw_is = array_is xs

  pub header_again : (raw : List ℕ) → raw ≡ det (item_of_header guid rv info key hash) → IsInMemory raw → IsHeader raw (header_with guid rv info key hash)
  header_again raw e memory =
      let s = start raw in
      let text : raw ≡ array_text row = e ∙ raw_is in
      let placed : Placed 16 (items.Array xs) (array_text row) s = record { level = refl; rest = []; bytes = text ∙ sym (append-nil (array_text row)); spelled = array_spelled 15 row (lit< tt) row_is; small = memory.small; fits = memory.fits } in
      let is = placed_is 16 (items.Array xs) (array_text row) s placed in
      let f = six_placed 15 (one (items.Uint 101)) (one (items.Bytes guid)) (one (item_of_rv rv)) (one (items.Text info)) (one (item_of_key key)) (one (item_of_maybe_hash hash)) (spot_parts s) (array_parts 15 row (items.Array xs) s (lit< tt) row_is placed) in
      let i0 = placed_is 15 (items.Uint 101) (det (items.Uint 101)) f.s0 f.p0 in
      let i1 = placed_is 15 (items.Bytes guid) (det (items.Bytes guid)) f.s1 f.p1 in
      let i2 = placed_is 15 (item_of_rv rv) (det (item_of_rv rv)) f.s2 f.p2 in
      let i3 = placed_is 15 (items.Text info) (det (items.Text info)) f.s3 f.p3 in
      let i4 = placed_is 15 (item_of_key key) (det (item_of_key key)) f.s4 f.p4 in
      let i5 = placed_is 15 (item_of_maybe_hash hash) (det (item_of_maybe_hash hash)) f.s5 f.p5 in
      let array : is_array (out-Item (spot_item s)) ≡ true = ap (λ (x : Item). is_array (out-Item x)) is.item ∙ ap is_array (items.outs-Array xs) in
      record {
        item = items.Array xs;
        spelled = subst (Spells (items.Array xs)) (sym text) (array_spelled 15 row (lit< tt) row_is);
        shows = seen_again s f.s0 f.s1 f.s2 f.s3 f.s4 f.s5 (header_with guid rv info key hash) (six_from s f.s0 f.s1 f.s2 f.s3 f.s4 f.s5 array f.are)
            (ap (λ (x : Item). is_version (out-Item x)) i0.item ∙ ap is_version (items.outs-Uint 101))
            (ap guid_in i1.item ∙ guid_back guid size)
            (ap rv_in i2.item ∙ rv_back rv)
            (ap (λ (x : Item). text_in (out-Item x)) i3.item ∙ ap text_in (items.outs-Text info))
            (ap (λ (x : Item). ok_of (key_in x)) i4.item ∙ ap ok_of (key_back key is_key))
            (ap maybe_hash_in i5.item ∙ maybe_back hash is_hash room) (is.raw ∙ sym text ∙ e) i4.raw;
      }

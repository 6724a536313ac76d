-- A voucher with one more entry is read back from its bytes.
use Rattle.std.proofs.Common.{◌≡◌, ℕ, suc, ◌+◌, ◌^◌, ◌<◌, ◌≤◌, pos, Bool, true, false, cond, List, [], ◌∷◌, ◌++◌, map, flat_map, length, Option, Some, None, Result, Ok, Err, IfOk, refl, sym, ap, subst, ◌∙◌, append_assoc, arith, lit<, inl, inr}
use Rattle.std.specs.Prelude.{if◌then◌else◌}
use Rattle.std.specs.List.{concat, AllByRecursion}
use Rattle.std.proofs.lemmas.Bool.{eqb-true}
use Rattle.std.proofs.lemmas.List.{append-nil, length-append}
use Rattle.std.proofs.lemmas.List.Concat.{flat_map-append}
use Rattle.cbor_core.specs.declared.head.Major.TheVariants as major
use Rattle.cbor_core.specs.declared.item.Item.{Item, out-Item, roll-Item, roll-out-Item}
use Rattle.cbor_core.specs.declared.item.Item.TheOpen.{Item-F}
use Rattle.cbor_core.specs.declared.item.Item.TheVariants as items
use Rattle.cbor_core.specs.Head.{head}
use Rattle.cbor_core.specs.Deterministic.{det}
use Rattle.cbor_core.specs.Norm.{norm, IsFitWithin}
use Rattle.cbor_core.specs.Shapes.{null, is_null, is_array, five_of, five_spots}
use Rattle.cbor_core.specs.Spelling.{Spells, SpellsRow, IsChunk, SpellsLayer, SpellsWithin}
use Rattle.cbor_core.specs.Spots.{Spot, start, spot_item, spot_raw, spot_parts, bytes_in}
use Rattle.cbor_core.specs.Whole.{Shows}
use Rattle.cbor_core.proofs.Bytes.{IsBytes, IsBytes-rest}
use Rattle.cbor_core.proofs.Dets.{det_uint, det_bytes}
use Rattle.cbor_core.proofs.Fits.{fit_spells}
use Rattle.cbor_core.proofs.Loose.{loosely}
use Rattle.cbor_core.proofs.NormLaws.{norm_uint, norm_bytes, content_back, fit_uint, fit_bytes}
use Rattle.cbor_core.proofs.SpelledFits.{spelled_fit}
use Rattle.cbor_core.proofs.WholeLaws.{shows_found}
use Rattle.key_codec.specs.declared.fault.KeyFault.{KeyFault}
use Rattle.key_codec.specs.declared.key.KeyBody.TheVariants as body
use Rattle.key_codec.specs.declared.key.PublicKey.{PublicKey}
use Rattle.key_codec.specs.Fault.{ok_of}
use Rattle.key_codec.specs.Key.{chain_in, body_in, IsBodyItem}
use Rattle.key_codec.proofs.Norms.{norm_body}
use Rattle.key_codec.proofs.Said.{body_said}
use Rattle.cose_envelopes.specs.Envelope.{sign1_in, item_of_sign1}
use Rattle.voucher_chain.specs.declared.entry.Entry.{Entry}
use Rattle.voucher_chain.specs.declared.header.Header.{Header}
use Rattle.voucher_chain.specs.declared.voucher.Voucher.{Voucher}
use Rattle.voucher_chain.specs.declared.fault.ChainFault.{ChainFault}
use Rattle.voucher_chain.specs.Entry.{entry_of, signed_entry, payload_in, IsEntry}
use Rattle.voucher_chain.specs.Fault.{◌>>=◌, all_in, value_in}
use Rattle.voucher_chain.specs.Header.{is_version, header_seen, header_place, header_at}
use Rattle.voucher_chain.specs.Chain.{Verifies}
use Rattle.voucher_chain.specs.Extended.{AreSized, IsExtended, IsReadBack}
use Rattle.voucher_chain.specs.Reading.{IsVoucher, most_entries}
use Rattle.voucher_chain.specs.Voucher.{voucher_seen, mac_in, header_inside, certificates_in, entries_inside, entry_inside, item_of_certificates, voucher_bytes, voucher_with}
use Rattle.voucher_chain.proofs.BackLaws.{norm_null, sign_spelled, new_says}
use Rattle.voucher_chain.proofs.Places.{bytes_front, bytes_back, bytes_join, Good, parts_good, entry_by, entry_shallow, inside_by, sign_shallow, Placed, placed_is, placed_good, Texts, items_of, texts, AreSpelled, ArePlaced, array_text, array_spelled, array_parts}
use Rattle.voucher_chain.proofs.Seen.{bind_some, guard_some, map_some, some_is, two_some, seen_is, header_kept, voucher_kept, start_is, all_kept}

-- ---- the entries

by_raw : (x : Item) (raw : List ℕ) (e : Entry) → entry_by x raw ≡ Some e → e.raw ≡ raw
by_raw x raw e h =
    let g = guard_some (entry_shallow x) (sign1_in x >>= signed_entry raw) e h in
    let p = bind_some (sign1_in x) (signed_entry raw) e g.1 in
    let m = map_some (entry_of raw p.0) (payload_in p.0.payload) e p.2 in
    sym (ap (λ (w : Entry). w.raw) m.2)

abbrev pub by : Item × List ℕ → Option Entry
by p = entry_by p.0 p.1

abbrev pub raws : List Entry → List ℕ
raws es = flat_map (λ (e : Entry). e.raw) es

-- the items and the bytes of entries
pub record Kept (es : List Entry) : Type 0 where
  pub ps : Texts
  pub spelled : AreSpelled 14 ps
  pub says : all_in by ps ≡ Some es
  pub same : texts ps ≡ raws es
  pub count : length ps ≡ length es

entries_kept : (ss : List Spot) (es : List Entry) → AllByRecursion (Good 14) ss → all_in entry_inside ss ≡ Some es → Kept es
entries_kept [] es h e = subst Kept (some_is [] es e) (record { ps = []; spelled = tt; says = refl; same = refl; count = refl })
entries_kept (s ∷ ss) es h e =
    let one = bind_some (entry_inside s) (λ value. all_in entry_inside ss >>= λ values. Some (value ∷ values)) es e in
    let more = bind_some (all_in entry_inside ss) (λ values. Some (one.0 ∷ values)) es one.2 in
    let later = entries_kept ss more.0 h.1 more.1 in
    let here : entry_by (spot_item s) (spot_raw s) ≡ Some one.0 = sym (inside_by 14 s h.0) ∙ one.1 in
    let raw : one.0.raw ≡ spot_raw s = by_raw (spot_item s) (spot_raw s) one.0 here in
    subst Kept (some_is (one.0 ∷ more.0) es more.2) (record {
      ps = (spot_item s, spot_raw s) ∷ later.ps;
      spelled = (subst (λ k. SpellsWithin false k (spot_item s) (spot_raw s)) h.0.level h.0.spelled.spelled, later.spelled);
      says = rw (here, later.says) refl;
      same = rw (raw, later.same) refl;
      count = ap suc later.count;
    })

spelled_more : (ps : Texts) (p : Item × List ℕ) → AreSpelled 14 ps → SpellsWithin false 14 p.0 p.1 → AreSpelled 14 (ps ++ p ∷ [])
spelled_more [] p h one = (one, tt)
spelled_more (q ∷ ps) p h one = (h.0, spelled_more ps p h.1 one)

all_more : (ps : Texts) (p : Item × List ℕ) (es : List Entry) (e : Entry) → all_in by ps ≡ Some es → by p ≡ Some e → all_in by (ps ++ p ∷ []) ≡ Some (es ++ e ∷ [])
all_more [] p es e h one = subst (λ (xs : List Entry). all_in by (p ∷ []) ≡ Some (xs ++ e ∷ [])) (some_is [] es h) (rw one refl)
all_more (q ∷ ps) p es e h one =
    let first = bind_some (by q) (λ value. all_in by ps >>= λ values. Some (value ∷ values)) es h in
    let rest = bind_some (all_in by ps) (λ values. Some (first.0 ∷ values)) es first.2 in
    subst (λ (xs : List Entry). all_in by (q ∷ (ps ++ p ∷ [])) ≡ Some (xs ++ e ∷ [])) (some_is (first.0 ∷ rest.0) es rest.2)
    (two_some (by q) (all_in by (ps ++ p ∷ [])) first.0 (rest.0 ++ e ∷ []) first.1 (all_more ps p rest.0 e rest.1 one))

texts_more : (ps : Texts) (p : Item × List ℕ) → texts (ps ++ p ∷ []) ≡ texts ps ++ (p.1 ++ [])
texts_more [] p = refl
texts_more (q ∷ ps) p = ap (λ t. q.1 ++ t) (texts_more ps p) ∙ sym (append_assoc q.1 (texts ps) (p.1 ++ []))

kept_more : (es : List Entry) (e : Entry) (x : Item) → Kept es → SpellsWithin false 14 x e.raw → entry_by x e.raw ≡ Some e → Kept (es ++ e ∷ [])
kept_more es e x k spelled says = record {
  ps = k.ps ++ (x, e.raw) ∷ [];
  spelled = spelled_more k.ps (x, e.raw) k.spelled spelled;
  says = all_more k.ps (x, e.raw) es e k.says says;
  same = texts_more k.ps (x, e.raw) ∙ ap (λ t. t ++ (e.raw ++ [])) k.same ∙ sym (flat_map-append (λ (w : Entry). w.raw) es (e ∷ []));
  count = omega (arith, length-append k.ps ((x, e.raw) ∷ []), length-append es (e ∷ []), k.count);
}

inside_all : (ps : Texts) (ss : List Spot) → ArePlaced 14 ps ss → all_in entry_inside ss ≡ all_in by ps
inside_all [] [] h = refl
inside_all [] (s ∷ ss) h = absurd h
inside_all (p ∷ ps) [] h = absurd h
inside_all (p ∷ ps) (s ∷ ss) h =
    let is = placed_is 14 p.0 p.1 s h.0 in
    let here : entry_inside s ≡ entry_by p.0 p.1 = inside_by 14 s (placed_good 14 p.0 p.1 s h.0) ∙ ap (λ (x : Item). entry_by x (spot_raw s)) is.item ∙ ap (entry_by p.0) is.raw in
    rw (here, inside_all ps ss h.1) refl

-- ---- the content of a string is bytes

module _ (spells : Item → List ℕ → Type 0) where
  chunks_kept : (before chunks : List (List ℕ)) (row : List ℕ) → SpellsRow (IsChunk major.Bytes) before chunks row → IsBytes row → IsBytes (concat chunks)
  unfolding SpellsRow
  chunks_kept before [] row h fits = subst IsBytes h fits
  chunks_kept before (x ∷ xs) row h fits =
      let both : IsBytes (h.0 ++ h.1) = subst IsBytes h.4 fits in
      let first : IsBytes (h.2.head ++ x) = subst IsBytes h.2.bytes (bytes_front h.0 h.1 both) in
      bytes_join x (concat xs) (bytes_back h.2.head x first) (chunks_kept (before ++ x ∷ []) xs h.1 h.3 (bytes_back h.0 h.1 both))

  layer_kept : (f : Item-F Item) (text b : List ℕ) → SpellsLayer false spells f text → bytes_in f ≡ Some b → IsBytes text → IsBytes b
  layer_kept (Item-F.Uint n) text b h e fits = absurd (cc e)
  layer_kept (Item-F.Nint n) text b h e fits = absurd (cc e)
  layer_kept (Item-F.Bytes c) text b (inl h) e fits = subst IsBytes (some_is c b e) (bytes_back h.head c (subst IsBytes h.bytes fits))
  layer_kept (Item-F.Bytes c) text b (inr h) e fits =
      let o = h.has_chunks in
      let row : IsBytes o.row = bytes_front o.row (255 ∷ []) (IsBytes-rest 95 (o.row ++ 255 ∷ []) (subst IsBytes o.bytes fits)) in
      subst IsBytes (sym h.joined ∙ some_is c b e) (chunks_kept [] h.chunks o.row o.has_row row)
  layer_kept (Item-F.Text t) text b h e fits = absurd (cc e)
  layer_kept (Item-F.Array xs) text b h e fits = absurd (cc e)
  layer_kept (Item-F.Map ps) text b h e fits = absurd (cc e)
  layer_kept (Item-F.Tag t x) text b h e fits = absurd (cc e)
  layer_kept (Item-F.Simple n) text b h e fits = absurd (cc e)

content_kept : (levels : ℕ) (x : Item) (text b : List ℕ) → SpellsWithin false (suc levels) x text → bytes_in (out-Item x) ≡ Some b → IsBytes text → IsBytes b
unfolding SpellsWithin
content_kept levels x text b h e fits = layer_kept (SpellsWithin false levels) (out-Item x) text b h e fits

raw_fits : (levels : ℕ) (s : Spot) → Good levels s → IsBytes (spot_raw s)
raw_fits levels s g = bytes_front (spot_raw s) g.spelled.rest (subst IsBytes g.spelled.bytes g.fits)

at_level : (levels : ℕ) (s : Spot) → Good levels s → SpellsWithin false levels (spot_item s) (spot_raw s)
at_level levels s g = subst (λ k. SpellsWithin false k (spot_item s) (spot_raw s)) g.level g.spelled.spelled

-- ---- the header

value_ok : (r : Result Header ℕ) (header : Header) → value_in r ≡ Some header → r ≡ Ok header
value_ok (Ok x) header e = ap (λ (h : Header). Ok h) (some_is x header e)
value_ok (Err place) header e = absurd (cc e)

header_again : (s : Spot) (header : Header) → Good 15 s → header_inside (spot_item s) ≡ Some header → header_inside (items.Bytes header.raw) ≡ Some header
header_again s header g e =
    let b = bind_some (bytes_in (out-Item (spot_item s))) (λ bytes. value_in (header_at bytes)) header e in
    let fits : IsBytes b.0 = content_kept 14 (spot_item s) (spot_raw s) b.0 (at_level 15 s g) b.1 (raw_fits 15 s g) in
    let shown : Shows header_seen b.0 header = shows_found header_seen header_place b.0 header fits (value_ok (header_at b.0) header b.2) in
    let raw : header.raw ≡ b.0 = all_kept header_seen (λ (w : Header). w.raw) header_kept b.0 header shown in
    ap (λ (o : Option (List ℕ)). o >>= λ bytes. value_in (header_at bytes)) (content_back header.raw) ∙ ap (λ (t : List ℕ). value_in (header_at t)) raw ∙ b.2

-- ---- the certificates

null_layer : (f : Item-F Item) → is_null f ≡ true → roll-Item f ≡ null
null_layer (Item-F.Uint n) e = absurd (cc e)
null_layer (Item-F.Nint n) e = absurd (cc e)
null_layer (Item-F.Bytes b) e = absurd (cc e)
null_layer (Item-F.Text t) e = absurd (cc e)
null_layer (Item-F.Array xs) e = absurd (cc e)
null_layer (Item-F.Map ps) e = absurd (cc e)
null_layer (Item-F.Tag t x) e = absurd (cc e)
null_layer (Item-F.Simple n) e = ap (λ (k : ℕ). roll-Item (Item-F.Simple k)) (eqb-true n 22 e) ∙ items.rolls-Simple 22

chain_ok : (r : Result (List (List ℕ)) KeyFault) (bs : List (List ℕ)) → ok_of r ≡ Some bs → r ≡ Ok bs
chain_ok (Ok x) bs e = ap (λ (c : List (List ℕ)). Ok c) (some_is x bs e)
chain_ok (Err f) bs e = absurd (cc e)

chain_item : (x : Item) (bs : List (List ℕ)) → is_array (out-Item x) ≡ true → chain_in x ≡ Ok bs → x ≡ items.Array (map items.Bytes bs)
unfolding body_in
chain_item x bs array e = go (body_said (pos 2) x (body.Chain bs) (rw e refl))
  where
    go : IsBodyItem (body.Chain bs) x → x ≡ items.Array (map items.Bytes bs)
    go (inl is) = is
    go (inr one) =
        let is : is_array (out-Item x) ≡ false = ap (λ (y : Item). is_array (out-Item y)) one.1.1 ∙ ap is_array (items.outs-Bytes one.0) in
        absurd (cc (array, is))

certificates_are : (x : Item) (chain : Option (List (List ℕ))) → certificates_in x ≡ Some chain → x ≡ item_of_certificates chain
certificates_are x chain e = go (is_null (out-Item x)) (is_array (out-Item x)) refl refl e
  where
    go : (a b : Bool) → is_null (out-Item x) ≡ a → is_array (out-Item x) ≡ b → cond a (Some None) (cond b (ok_of (chain_in x) >>= λ c. Some (Some c)) None) ≡ Some chain → x ≡ item_of_certificates chain
    go true b null_is array_is e = sym (roll-out-Item x) ∙ null_layer (out-Item x) null_is ∙ ap item_of_certificates (some_is None chain e)
    go false true null_is array_is e =
        let c = bind_some (ok_of (chain_in x)) (λ c. Some (Some c)) chain e in
        chain_item x c.0 array_is (chain_ok (chain_in x) c.0 c.1) ∙ ap item_of_certificates (some_is (Some c.0) chain c.2)
    go false false null_is array_is e = absurd (cc e)

pub norm_certificates : (chain : Option (List (List ℕ))) → norm (item_of_certificates chain) ≡ item_of_certificates chain
norm_certificates None = norm_null
norm_certificates (Some bs) = norm_body (body.Chain bs)

-- what is fit, and in order, is spelled by its deterministic spelling
pub det_spelled : (n : ℕ) (x : Item) (text : List ℕ) → IsFitWithin n x → norm x ≡ x → det x ≡ text → SpellsWithin false n x text
det_spelled n x text fit normed is = subst (λ (y : Item). SpellsWithin false n y text) normed (subst (SpellsWithin false n (norm x)) is (loosely n (norm x) (det x) (fit_spells n x fit)))

-- ---- the five parts

five_are : (ss : List Spot) (p : Spot × Spot × Spot × Spot × Spot) → five_of ss ≡ Some p → ss ≡ p.0 ∷ p.1 ∷ p.2 ∷ p.3 ∷ p.4 ∷ []
five_are [] p e = absurd (cc e)
five_are (a ∷ []) p e = absurd (cc e)
five_are (a ∷ b ∷ []) p e = absurd (cc e)
five_are (a ∷ b ∷ c ∷ []) p e = absurd (cc e)
five_are (a ∷ b ∷ c ∷ d ∷ []) p e = absurd (cc e)
five_are (a ∷ b ∷ c ∷ d ∷ f ∷ []) p e = ap (λ (q : Spot × Spot × Spot × Spot × Spot). q.0 ∷ q.1 ∷ q.2 ∷ q.3 ∷ q.4 ∷ []) (some_is (a, b, c, d, f) p e)
five_are (a ∷ b ∷ c ∷ d ∷ f ∷ g ∷ ss) p e = absurd (cc e)

five_from : (s a b c d f : Spot) → is_array (out-Item (spot_item s)) ≡ true → spot_parts s ≡ a ∷ b ∷ c ∷ d ∷ f ∷ [] → five_spots s ≡ Some (a, b, c, d, f)
five_from s a b c d f array are = rw (array, are) refl

record FivePlaced (levels : ℕ) (a b c d f : Item × List ℕ) (ss : List Spot) : Type 0 where
  s0 : Spot
  s1 : Spot
  s2 : Spot
  s3 : Spot
  s4 : Spot
  are : ss ≡ s0 ∷ s1 ∷ s2 ∷ s3 ∷ s4 ∷ []
  p0 : Placed levels a.0 a.1 s0
  p1 : Placed levels b.0 b.1 s1
  p2 : Placed levels c.0 c.1 s2
  p3 : Placed levels d.0 d.1 s3
  p4 : Placed levels f.0 f.1 s4

five_placed : (levels : ℕ) (a b c d f : Item × List ℕ) (ss : List Spot) → ArePlaced levels (a ∷ b ∷ c ∷ d ∷ f ∷ []) ss → FivePlaced levels a b c d f ss
five_placed levels a b c d f [] h = absurd h
five_placed levels a b c d f (s ∷ []) h = absurd h.1
five_placed levels a b c d f (s ∷ t ∷ []) h = absurd h.1.1
five_placed levels a b c d f (s ∷ t ∷ u ∷ []) h = absurd h.1.1.1
five_placed levels a b c d f (s ∷ t ∷ u ∷ v ∷ []) h = absurd h.1.1.1.1
five_placed levels a b c d f (s ∷ t ∷ u ∷ v ∷ w ∷ []) h = record { s0 = s; s1 = t; s2 = u; s3 = v; s4 = w; are = refl; p0 = h.0; p1 = h.1.0; p2 = h.1.1.0; p3 = h.1.1.1.0; p4 = h.1.1.1.1.0 }
five_placed levels a b c d f (s ∷ t ∷ u ∷ v ∷ w ∷ x ∷ ss) h = absurd h.1.1.1.1.1

seen_again : (s a b c d f : Spot) (w : Voucher) → five_spots s ≡ Some (a, b, c, d, f) → is_version (out-Item (spot_item a)) ≡ true → header_inside (spot_item b) ≡ Some w.header → mac_in (spot_item c) ≡ Some w.hmac
    → certificates_in (spot_item d) ≡ Some w.chain → entries_inside f ≡ Some w.entries → spot_raw s ≡ w.raw → spot_raw c ≡ w.hmac_raw → voucher_seen s ≡ Some w
unfolding voucher_seen
seen_again s a b c d f w five version header hmac chain entries raw hmac_raw = rw (five, version, hmac, header, chain, entries, raw, hmac_raw) refl

-- ---- the parts of a voucher, as items with their bytes

pub record Parts (v : Voucher) (es : List Entry) : Type 0 where
  pub mac : Item
  pub certificates : Item
  pub mac_spelled : SpellsWithin false 15 mac v.hmac_raw
  pub certificates_spelled : SpellsWithin false 15 certificates (det (item_of_certificates v.chain))
  pub header : header_inside (items.Bytes v.header.raw) ≡ Some v.header
  pub hmac : mac_in mac ≡ Some v.hmac
  pub chain : certificates_in certificates ≡ Some v.chain
  pub kept : Kept es

start_good : (bytes : List ℕ) (x : Item) → Spells x bytes → length bytes < 2 ^ 64 → IsBytes bytes → Good 16 (start bytes)
start_good bytes x h small fits =
    let is = start_is bytes x h in
    record {
      level = refl;
      spelled = record {
        rest = [];
        bytes = sym (append-nil bytes) ∙ ap (λ (t : List ℕ). t ++ []) (sym is.raw);
        spelled = subst (λ (y : Item). SpellsWithin false 16 y (spot_raw (start bytes))) (sym is.item) (subst (SpellsWithin false 16 x) (sym is.raw) h);
      };
      small = small;
      fits = fits;
    }

pub parts_of : (bytes : List ℕ) (v : Voucher) → Shows voucher_seen bytes v → length bytes < 2 ^ 64 → IsBytes bytes → Parts v v.entries
parts_of bytes v shown small fits =
    let s = start bytes in
    let good = start_good bytes shown.item shown.spelled small fits in
    let seen = seen_is s v shown.shows in
    let p = seen.parts in
    let five = guard_some (is_array (out-Item (spot_item s))) (five_of (spot_parts s)) p seen.five in
    let parts : AllByRecursion (Good 15) (p.0 ∷ p.1 ∷ p.2 ∷ p.3 ∷ p.4 ∷ []) = subst (AllByRecursion (Good 15)) (five_are (spot_parts s) p five.1) (parts_good 16 s good) in
    let g1 : Good 15 p.1 = parts.1.0 in
    let g2 : Good 15 p.2 = parts.1.1.0 in
    let g3 : Good 15 p.3 = parts.1.1.1.0 in
    let g4 : Good 15 p.4 = parts.1.1.1.1.0 in
    let old = guard_some (is_array (out-Item (spot_item p.4))) (all_in entry_inside (spot_parts p.4)) v.entries seen.entries in
    let is : spot_item p.3 ≡ item_of_certificates v.chain = certificates_are (spot_item p.3) v.chain seen.chain in
    let fit : IsFitWithin 15 (spot_item p.3) = spelled_fit 15 (spot_item p.3) (spot_raw p.3) (omega (arith, g3.small, ap length g3.spelled.bytes, length-append (spot_raw p.3) g3.spelled.rest)) (at_level 15 p.3 g3) in
    record {
      mac = spot_item p.2;
      certificates = spot_item p.3;
      mac_spelled = subst (SpellsWithin false 15 (spot_item p.2)) (sym seen.hmac_raw) (at_level 15 p.2 g2);
      certificates_spelled = det_spelled 15 (spot_item p.3) (det (item_of_certificates v.chain)) fit (ap norm is ∙ norm_certificates v.chain ∙ sym is) (ap det is);
      header = header_again p.1 v.header g1 seen.header;
      hmac = seen.hmac;
      chain = seen.chain;
      kept = entries_kept (spot_parts p.4) v.entries (parts_good 15 p.4 g4) old.1;
    }

-- ---- what is written of them

in_a_row : (a b c d e f g h : List ℕ) → a ++ b ++ c ++ d ++ e ++ f ++ g ++ h ≡ a ++ (b ++ ((c ++ d) ++ (e ++ (f ++ ((g ++ h) ++ [])))))
in_a_row a b c d e f g h = simp (append_assoc, append-nil)

-- no part is longer than the whole
long : (a b c d e f g h : List ℕ) → length (a ++ b ++ c ++ d ++ e ++ f ++ g ++ h) ≡ length a + length b + length c + length d + length e + length f + length g + length h
long a b c d e f g h = omega (
  arith,
  length-append (a ++ b ++ c ++ d ++ e ++ f ++ g) h,
  length-append (a ++ b ++ c ++ d ++ e ++ f) g,
  length-append (a ++ b ++ c ++ d ++ e) f,
  length-append (a ++ b ++ c ++ d) e,
  length-append (a ++ b ++ c) d,
  length-append (a ++ b) c,
  length-append a b,
)

fourth_below : (a b c d e f g h : List ℕ) (n : ℕ) → length (a ++ b ++ c ++ d ++ e ++ f ++ g ++ h) < n → length d < n
fourth_below a b c d e f g h n small = omega (arith, small, long a b c d e f g h)

pub sixth_below : (a b c d e f g h : List ℕ) (n : ℕ) → length (a ++ b ++ c ++ d ++ e ++ f ++ g ++ h) < n → length f < n
sixth_below a b c d e f g h n small = omega (arith, small, long a b c d e f g h)

last_below : (a b c d e f g h : List ℕ) (n : ℕ) → length (a ++ b ++ c ++ d ++ e ++ f ++ g ++ h) < n → length h < n
last_below a b c d e f g h n small = omega (arith, small, long a b c d e f g h)

version_item : SpellsWithin false 15 (items.Uint 101) (head 0 101)
version_item = det_spelled 15 (items.Uint 101) (head 0 101) (fit_uint 14 101 (lit< tt)) (norm_uint 101) (ap det (sym (items.rolls-Uint 101)) ∙ det_uint 101)

bytes_item : (b : List ℕ) → length b < 2 ^ 64 → SpellsWithin false 15 (items.Bytes b) (head 2 (length b) ++ b)
bytes_item b small = det_spelled 15 (items.Bytes b) (head 2 (length b) ++ b) (fit_bytes 14 b small) (norm_bytes b) (ap det (sym (items.rolls-Bytes b)) ∙ det_bytes b)

module _ (v : Voucher) (es : List Entry) (p : Parts v es) (few : length es ≤ most_entries) (longer : List ℕ) (all : longer ≡ voucher_bytes v.header.raw v.hmac_raw v.chain es) (small : length longer < 2 ^ 64) (fits : IsBytes longer) where
  abbrev hd : List ℕ
  hd = head 2 (length v.header.raw)

  abbrev certs : List ℕ
  certs = det (item_of_certificates v.chain)

  abbrev row : Texts
  row = (items.Uint 101, head 0 101) ∷ (items.Bytes v.header.raw, hd ++ v.header.raw) ∷ (p.mac, v.hmac_raw) ∷ (p.certificates, certs) ∷ (items.Array (items_of p.kept.ps), array_text p.kept.ps) ∷ []

  few_texts : length p.kept.ps < 2 ^ 8
  few_texts = omega (arith, few, p.kept.count)

  header_small : length v.header.raw < 2 ^ 64
  header_small = fourth_below (head 4 5) (head 0 101) hd v.header.raw v.hmac_raw certs (head 4 (length es)) (raws es) (2 ^ 64) (subst (λ (t : List ℕ). length t < 2 ^ 64) all small)

  row_is : AreSpelled 15 row
  row_is = (version_item, (bytes_item v.header.raw header_small, (p.mac_spelled, (p.certificates_spelled, (array_spelled 14 p.kept.ps few_texts p.kept.spelled, tt)))))

  entries_text : head 4 (length es) ++ raws es ≡ array_text p.kept.ps
  entries_text = ap (λ (n : ℕ). head 4 n ++ raws es) (sym p.kept.count) ∙ ap (λ (t : List ℕ). head 4 (length p.kept.ps) ++ t) (sym p.kept.same)

  text_is : longer ≡ array_text row
  text_is = all ∙ in_a_row (head 4 5) (head 0 101) hd v.header.raw v.hmac_raw certs (head 4 (length es)) (raws es)
      ∙ ap (λ (t : List ℕ). head 4 5 ++ (head 0 101 ++ ((hd ++ v.header.raw) ++ (v.hmac_raw ++ (certs ++ (t ++ [])))))) entries_text

  whole_placed : Placed 16 (items.Array (items_of row)) (array_text row) (start longer)
  whole_placed = record { level = refl; rest = []; bytes = text_is ∙ sym (append-nil (array_text row)); spelled = array_spelled 15 row (lit< tt) row_is; small = small; fits = fits }

  entries_again : (s : Spot) → Placed 15 (items.Array (items_of p.kept.ps)) (array_text p.kept.ps) s → entries_inside s ≡ Some es
  entries_again s h =
      let is = placed_is 15 (items.Array (items_of p.kept.ps)) (array_text p.kept.ps) s h in
      let array : is_array (out-Item (spot_item s)) ≡ true = ap (λ (x : Item). is_array (out-Item x)) is.item ∙ ap is_array (items.outs-Array (items_of p.kept.ps)) in
      let inside : all_in entry_inside (spot_parts s) ≡ Some es = inside_all p.kept.ps (spot_parts s) (array_parts 14 p.kept.ps (items.Array (items_of p.kept.ps)) s few_texts p.kept.spelled h) ∙ p.kept.says in
      rw (array, inside) refl

  pub written_back : IsVoucher longer (voucher_with v.header v.hmac v.hmac_raw v.chain es)
  written_back =
      let s = start longer in
      let is = placed_is 16 (items.Array (items_of row)) (array_text row) s whole_placed in
      let f = five_placed 15 (items.Uint 101, head 0 101) (items.Bytes v.header.raw, hd ++ v.header.raw) (p.mac, v.hmac_raw) (p.certificates, certs) (items.Array (items_of p.kept.ps), array_text p.kept.ps) (spot_parts s) (array_parts 15 row (items.Array (items_of row)) s (lit< tt) row_is whole_placed) in
      let i0 = placed_is 15 (items.Uint 101) (head 0 101) f.s0 f.p0 in
      let i1 = placed_is 15 (items.Bytes v.header.raw) (hd ++ v.header.raw) f.s1 f.p1 in
      let i2 = placed_is 15 p.mac v.hmac_raw f.s2 f.p2 in
      let i3 = placed_is 15 p.certificates certs f.s3 f.p3 in
      let array : is_array (out-Item (spot_item s)) ≡ true = ap (λ (x : Item). is_array (out-Item x)) is.item ∙ ap is_array (items.outs-Array (items_of row)) in
      let five : five_spots s ≡ Some (f.s0, f.s1, f.s2, f.s3, f.s4) = five_from s f.s0 f.s1 f.s2 f.s3 f.s4 array f.are in
      record {
        shown = record {
          item = items.Array (items_of row);
          spelled = subst (Spells (items.Array (items_of row))) (sym text_is) (array_spelled 15 row (lit< tt) row_is);
          shows = seen_again s f.s0 f.s1 f.s2 f.s3 f.s4 (voucher_with v.header v.hmac v.hmac_raw v.chain es) five
              (ap (λ (x : Item). is_version (out-Item x)) i0.item ∙ ap is_version (items.outs-Uint 101))
              (ap header_inside i1.item ∙ p.header)
              (ap mac_in i2.item ∙ p.hmac)
              (ap certificates_in i3.item ∙ p.chain)
              (entries_again f.s4 f.p4) (is.raw ∙ sym text_is ∙ all) i2.raw;
        };
        few = few;
      }

-- ---- with one more entry

-- what is to be known of a voucher, and of an entry, for the one with both to be read back
pub record Both (bytes : List ℕ) (v : Voucher) (e : Entry) (longer : List ℕ) : Type 0 where
  pub read : IsVoucher bytes v
  pub old_small : length bytes < 2 ^ 64
  pub old_fits : IsBytes bytes
  pub few : length v.entries < most_entries
  pub raw : e.raw ≡ det (item_of_sign1 e.sign)
  pub unprotected : e.sign.unprotected ≡ []
  pub back : IsEntry e.raw e
  pub all : longer ≡ voucher_bytes v.header.raw v.hmac_raw v.chain (v.entries ++ e ∷ [])
  pub small : length longer < 2 ^ 64
  pub fits : IsBytes longer

raws_last : (es : List Entry) (e : Entry) → length e.raw ≤ length (raws (es ++ e ∷ []))
raws_last es e = omega (arith, ap length (flat_map-append (λ (w : Entry). w.raw) es (e ∷ [])), length-append (raws es) (e.raw ++ []), length-append e.raw [])

pub whole_back : (bytes : List ℕ) (v : Voucher) (e : Entry) (longer : List ℕ) → Both bytes v e longer → IsVoucher longer (voucher_with v.header v.hmac v.hmac_raw v.chain (v.entries ++ e ∷ []))
whole_back bytes v e longer k =
    let es = v.entries ++ e ∷ [] in
    let x = item_of_sign1 e.sign in
    let p = parts_of bytes v k.read.shown k.old_small k.old_fits in
    let entries_small : length (raws es) < 2 ^ 64 =
    last_below (head 4 5) (head 0 101) (head 2 (length v.header.raw)) v.header.raw v.hmac_raw (det (item_of_certificates v.chain)) (head 4 (length es)) (raws es) (2 ^ 64) (subst (λ (t : List ℕ). length t < 2 ^ 64) k.all k.small) in
    let small : length e.raw < 2 ^ 64 = omega (arith, entries_small, raws_last v.entries e) in
    let spelled : SpellsWithin false 14 x e.raw = subst (SpellsWithin false 14 x) (sym k.raw) (sign_spelled 11 e.sign (omega (arith, ap length (sym k.raw), small)) k.unprotected) in
    let says : entry_by x e.raw ≡ Some e = ap (λ (b : Bool). if b then (sign1_in x >>= signed_entry e.raw) else None) (sign_shallow e.sign k.unprotected) ∙ new_says e k.raw k.unprotected small k.back in
    let more : Parts v es = record {
      mac = p.mac;
      certificates = p.certificates;
      mac_spelled = p.mac_spelled;
      certificates_spelled = p.certificates_spelled;
      header = p.header;
      hmac = p.hmac;
      chain = p.chain;
      kept = kept_more v.entries e x p.kept spelled says;
    } in
    written_back v es more (omega (arith, length-append v.entries (e ∷ []), k.few)) longer k.all k.small k.fits

-- ---- as the call answers

extended_back : (v : Verifies) (w : Voucher) (next : PublicKey) (longer : Voucher) → IsExtended v w next longer → AreSized w longer → IsReadBack w next longer
extended_back v w next longer x sized bytes read is =
    let raw : w.raw ≡ bytes = all_kept voucher_seen (λ (u : Voucher). u.raw) voucher_kept bytes w read.shown in
    let whole = whole_back bytes w x.entry longer.raw (record {
      read = read;
      old_small = subst (λ (t : List ℕ). length t < 2 ^ 64) raw sized.old.small;
      old_fits = subst IsBytes raw sized.old.fits;
      few = sized.few;
      raw = x.is_next.raw;
      unprotected = x.is_next.unprotected;
      back = x.back is;
      all = ap (λ (u : Voucher). u.raw) x.all;
      small = sized.new.small;
      fits = sized.new.fits;
    }) in
    subst (IsVoucher longer.raw) (sym x.all) whole

pub longer_back : (v : Verifies) (w : Voucher) (next : PublicKey) (r : Result Voucher ChainFault) → IfOk r (IsExtended v w next) → IfOk r (λ longer. AreSized w longer) → IfOk r (IsReadBack w next)
longer_back v w next (Ok longer) x sized = extended_back v w next longer x sized
longer_back v w next (Err f) x sized = tt

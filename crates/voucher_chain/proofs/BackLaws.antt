-- An entry that is made is read back from its bytes.
use Rattle.std.proofs.Common.{◌≡◌, ℕ, suc, ◌+◌, ◌^◌, ◌<◌, ◌≤◌, List, [], ◌∷◌, ◌++◌, length, true, false, Option, Some, None, refl, sym, ap, subst, ◌∙◌, arith, lit<, inl}
use Rattle.std.proofs.lemmas.List.{length-append, length-take}
use Rattle.cbor_core.specs.declared.item.Item.{Item, out-Item}
use Rattle.cbor_core.specs.declared.item.Item.TheOpen.{Item-F}
use Rattle.cbor_core.specs.declared.item.Item.TheFolds.{fold-roll-Item}
use Rattle.cbor_core.specs.declared.item.Item.TheVariants as items
use Rattle.cbor_core.specs.Head.{head}
use Rattle.cbor_core.specs.Deterministic.{det}
use Rattle.cbor_core.specs.Norm.{norm, norm_step, IsFit, IsFitLayer, IsFitWithin}
use Rattle.cbor_core.specs.Numbers.{item_of_integer}
use Rattle.cbor_core.specs.Shapes.{null, is_null}
use Rattle.cbor_core.specs.Spelling.{Spells, SpellsWithin}
use Rattle.cbor_core.specs.Spots.{start, spot_item, spot_raw}
use Rattle.cbor_core.proofs.Dets.{det_array, det_bytes, det_tag}
use Rattle.cbor_core.proofs.Fits.{fit_spells}
use Rattle.cbor_core.proofs.Loose.{loosely}
use Rattle.cbor_core.proofs.NormLaws.{norm_array, norm_bytes, norm_none, norm_tag, four_back, tagged_back, content_back, pairs_back, fit_integer, fit_bytes, fit_array, fit_map, fit_tag, fit_said}
use Rattle.cbor_core.proofs.WholeLaws.{spelled_whole}
use Rattle.hash_hmac.specs.declared.hash.Hash.{Hash}
use Rattle.hash_hmac.specs.Value.{content, IsConsistent}
use Rattle.key_codec.specs.declared.key.PublicKey.{PublicKey}
use Rattle.key_codec.specs.Hash.{item_of_hash}
use Rattle.key_codec.specs.Key.{IsKey, item_of_key}
use Rattle.key_codec.proofs.Back.{key_back}
use Rattle.key_codec.proofs.HashLaws.{hash_back, kind_known}
use Rattle.key_codec.proofs.Norms.{norm_hash, norm_key}
use Rattle.cose_envelopes.specs.declared.sign1.Sign1.{Sign1}
use Rattle.cose_envelopes.specs.Envelope.{algorithm_in, sign1_in, item_of_sign1}
use Rattle.voucher_chain.specs.declared.entry.Entry.{Entry}
use Rattle.voucher_chain.specs.declared.entry.Payload.{Payload}
use Rattle.voucher_chain.specs.Entry.{payload_item, payload_in, signed_entry, entry_seen, item_of_payload, IsEntry}
use Rattle.voucher_chain.specs.Fault.{◌>>=◌}
use Rattle.voucher_chain.proofs.InMemory.{array_is, key_fit}
use Rattle.voucher_chain.proofs.Seen.{start_is}

-- ---- parts that are fit to be written

pub of_layer : (n : ℕ) (x : Item) → IsFitLayer (IsFitWithin n) (out-Item x) → IsFitWithin (suc n) x
unfolding IsFitWithin
of_layer n x h = h

pub hash_inside : (hash : Hash) → IsConsistent hash → IsFitWithin 15 (item_of_hash hash)
hash_inside hash h =
    let known = kind_known hash.kind hash.len h.len in
    let few : length (content hash) ≤ 48 = omega (arith, known.short, length-take hash.len hash.bytes) in
    fit_array 14 (item_of_integer hash.kind ∷ items.Bytes (content hash) ∷ []) (lit< tt) (fit_integer 13 hash.kind known.number, (fit_bytes 13 (content hash) (omega (arith, few)), tt))

pub null_fits : (n : ℕ) → IsFitWithin (suc n) null
null_fits n = of_layer n null (subst (IsFitLayer (IsFitWithin n)) (sym (items.outs-Simple 22)) (inl (lit< tt)))

-- ---- the payload

pub norm_null : norm null ≡ null
norm_null = ap norm (sym (items.rolls-Simple 22)) ∙ fold-roll-Item Item norm_step (Item-F.Simple 22)

pub null_is : is_null (out-Item null) ≡ true
null_is = ap is_null (items.outs-Simple 22)

module _ (prev hdr : Hash) (key : PublicKey) (prev_room : length prev.bytes ≡ 48) (hdr_room : length hdr.bytes ≡ 48) (prev_is : IsConsistent prev) (hdr_is : IsConsistent hdr) (is : IsKey key) (small : length (det (item_of_payload prev hdr key)) < 2 ^ 64) where
  key_inside : IsFitWithin 15 (item_of_key key)
  key_inside =
      let h = head 4 4 in
      let a = det (item_of_hash prev) in
      let b = det (item_of_hash hdr) in
      let c = det null in
      let d = det (item_of_key key) in
      let all : length (h ++ (a ++ (b ++ (c ++ (d ++ []))))) < 2 ^ 64 = omega (arith, small, ap length (array_is (item_of_hash prev ∷ item_of_hash hdr ∷ null ∷ item_of_key key ∷ []))) in
      key_fit 12 key is (omega (arith, all, length-append h (a ++ (b ++ (c ++ (d ++ [])))), length-append a (b ++ (c ++ (d ++ []))), length-append b (c ++ (d ++ [])), length-append c (d ++ []), length-append d []))

  payload_fits : IsFit (item_of_payload prev hdr key)
  payload_fits = fit_array 15 (item_of_hash prev ∷ item_of_hash hdr ∷ null ∷ item_of_key key ∷ []) (lit< tt) (hash_inside prev prev_is, (hash_inside hdr hdr_is, (null_fits 14, (key_inside, tt))))

  norm_payload : norm (item_of_payload prev hdr key) ≡ item_of_payload prev hdr key
  norm_payload = norm_array (item_of_hash prev ∷ item_of_hash hdr ∷ null ∷ item_of_key key ∷ []) ∙ (rw (norm_hash prev, norm_hash hdr, norm_null, norm_key key) refl)

  payload_says : payload_item (item_of_payload prev hdr key) ≡ Some (record { prev = prev; hdr = hdr; extra = None; key = key })
  payload_says = rw (four_back (item_of_hash prev) (item_of_hash hdr) null (item_of_key key), hash_back prev prev_room prev_is, hash_back hdr hdr_room hdr_is, null_is, key_back key is) refl

  pub payload_back : payload_in (det (item_of_payload prev hdr key)) ≡ Some (record { prev = prev; hdr = hdr; extra = None; key = key })
  unfolding payload_in
  payload_back =
      ap (λ (o : Option Item). o >>= payload_item) (spelled_whole (det (item_of_payload prev hdr key)) (norm (item_of_payload prev hdr key)) (fit_said (item_of_payload prev hdr key) payload_fits))
      ∙ ap payload_item norm_payload
      ∙ payload_says

-- ---- the envelope

abbrev sign_parts : Sign1 → List Item
sign_parts s = items.Bytes s.protected ∷ items.Map s.unprotected ∷ items.Bytes s.payload ∷ items.Bytes s.sig ∷ []

sign_is : (s : Sign1) → det (item_of_sign1 s) ≡ head 6 18 ++ (head 4 4 ++ ((head 2 (length s.protected) ++ s.protected) ++ (det (items.Map s.unprotected) ++ ((head 2 (length s.payload) ++ s.payload) ++ ((head 2 (length s.sig) ++ s.sig) ++ [])))))
sign_is s =
    ap det (sym (items.rolls-Tag 18 (items.Array (sign_parts s)))) ∙ det_tag 18 (items.Array (sign_parts s))
    ∙ ap (λ t. head 6 18 ++ t) (ap det (sym (items.rolls-Array (sign_parts s))) ∙ det_array (sign_parts s) ∙ (rw (bytes_is s.protected, bytes_is s.payload, bytes_is s.sig) refl))
  where
    bytes_is : (b : List ℕ) → det (items.Bytes b) ≡ head 2 (length b) ++ b
    bytes_is b = ap det (sym (items.rolls-Bytes b)) ∙ det_bytes b

-- its strings are no longer than its bytes
record IsShort (s : Sign1) : Type 0 where
  protected : length s.protected < 2 ^ 64
  payload : length s.payload < 2 ^ 64
  sig : length s.sig < 2 ^ 64

longer_than : (a b c : List ℕ) → length b ≤ length (a ++ (b ++ c))
longer_than a b c = omega (arith, length-append a (b ++ c), length-append b c)

sign_short : (s : Sign1) → length (det (item_of_sign1 s)) < 2 ^ 64 → IsShort s
sign_short s small =
    let p = head 2 (length s.protected) in
    let u = det (items.Map s.unprotected) in
    let q = head 2 (length s.payload) in
    let g = head 2 (length s.sig) in
    let last = (g ++ s.sig) ++ [] in
    let third = (q ++ s.payload) ++ last in
    let second = u ++ third in
    let first = (p ++ s.protected) ++ second in
    let total : length (det (item_of_sign1 s)) ≡ length (head 6 18 ++ (head 4 4 ++ first)) = ap length (sign_is s) in
    let outer : length first ≤ length (head 6 18 ++ (head 4 4 ++ first)) = omega (arith, length-append (head 6 18) (head 4 4 ++ first), length-append (head 4 4) first) in
    let a : length first ≡ length (p ++ s.protected) + length second = length-append (p ++ s.protected) second in
    let b : length second ≡ length u + length third = length-append u third in
    let c : length third ≡ length (q ++ s.payload) + length last = length-append (q ++ s.payload) last in
    let d : length last ≡ length (g ++ s.sig) + length {A = ℕ} [] = length-append (g ++ s.sig) [] in
    let e : length (p ++ s.protected) ≡ length p + length s.protected = length-append p s.protected in
    let f : length (q ++ s.payload) ≡ length q + length s.payload = length-append q s.payload in
    let h : length (g ++ s.sig) ≡ length g + length s.sig = length-append g s.sig in
    record { protected = omega arith; payload = omega arith; sig = omega arith }

sign_fits : (n : ℕ) (s : Sign1) → IsShort s → s.unprotected ≡ [] → IsFitWithin (suc (suc (suc n))) (item_of_sign1 s)
sign_fits n s short none =
    fit_tag (suc (suc n)) 18 (items.Array (sign_parts s)) (lit< tt)
    (fit_array (suc n) (sign_parts s) (lit< tt)
    (fit_bytes n s.protected short.protected, (subst (λ (ps : List (Item × Item)). IsFitWithin (suc n) (items.Map ps)) (sym none) (fit_map n [] (lit< tt) tt), (fit_bytes n s.payload short.payload, (fit_bytes n s.sig short.sig, tt)))))

norm_sign : (s : Sign1) → s.unprotected ≡ [] → norm (item_of_sign1 s) ≡ item_of_sign1 s
norm_sign s none =
    norm_tag 18 (items.Array (sign_parts s))
    ∙ ap (items.Tag 18) (norm_array (sign_parts s))
    ∙ (rw (norm_bytes s.protected, norm_bytes s.payload, norm_bytes s.sig, none, norm_none) refl)

-- an envelope without pairs in its unprotected header is spelled by its bytes
pub sign_spelled : (n : ℕ) (s : Sign1) → length (det (item_of_sign1 s)) < 2 ^ 64 → s.unprotected ≡ [] → SpellsWithin false (suc (suc (suc n))) (item_of_sign1 s) (det (item_of_sign1 s))
sign_spelled n s small none =
    subst (λ (x : Item). SpellsWithin false (suc (suc (suc n))) x (det (item_of_sign1 s))) (norm_sign s none)
    (loosely (suc (suc (suc n))) (norm (item_of_sign1 s)) (det (item_of_sign1 s)) (fit_spells (suc (suc (suc n))) (item_of_sign1 s) (sign_fits n s (sign_short s small) none)))

sign_says : (s : Sign1) → algorithm_in s.protected ≡ Some s.alg → sign1_in (item_of_sign1 s) ≡ Some s
unfolding sign1_in
sign_says s names =
    rw (tagged_back 18 (items.Array (sign_parts s)), four_back (items.Bytes s.protected) (items.Map s.unprotected) (items.Bytes s.payload) (items.Bytes s.sig), content_back s.protected, names, pairs_back s.unprotected, content_back s.payload, content_back s.sig) refl

-- ---- the entry

-- what is said of an entry that is made
pub record IsMade (next : PublicKey) (e : Entry) : Type 0 where
  pub small : length e.raw < 2 ^ 64
  pub raw : e.raw ≡ det (item_of_sign1 e.sign)
  pub unprotected : e.sign.unprotected ≡ []
  pub names : algorithm_in e.sign.protected ≡ Some e.sign.alg
  pub payload : e.sign.payload ≡ det (item_of_payload e.prev e.hdr next)
  pub extra : e.extra ≡ None
  pub key : e.key ≡ next
  pub prev_room : length e.prev.bytes ≡ 48
  pub hdr_room : length e.hdr.bytes ≡ 48
  pub prev_is : IsConsistent e.prev
  pub hdr_is : IsConsistent e.hdr
  pub next_is : IsKey next

abbrev payload_made : Hash → Hash → Option (List ℕ) → PublicKey → Payload
payload_made prev hdr extra key = record { prev = prev; hdr = hdr; extra = extra; key = key }

pub entry_says : (next : PublicKey) (e : Entry) (x : Item) (raw : List ℕ) → IsMade next e → sign1_in x ≡ Some e.sign → raw ≡ e.raw → (sign1_in x >>= signed_entry raw) ≡ Some e
entry_says next e x raw m says same =
    let short = sign_short e.sign (omega (arith, ap length (sym m.raw), m.small)) in
    let payload : payload_in e.sign.payload ≡ Some (payload_made e.prev e.hdr e.extra e.key) =
    ap payload_in m.payload ∙ payload_back e.prev e.hdr next m.prev_room m.hdr_room m.prev_is m.hdr_is m.next_is (omega (arith, short.payload, ap length m.payload))
    ∙ ap (λ (extra : Option (List ℕ)). Some (payload_made e.prev e.hdr extra next)) (sym m.extra)
    ∙ ap (λ (key : PublicKey). Some (payload_made e.prev e.hdr e.extra key)) (sym m.key) in
    rw (says, same, payload) refl

pub entry_back : (next : PublicKey) (e : Entry) → IsMade next e → IsEntry e.raw e
unfolding entry_seen
entry_back next e m =
    let x = item_of_sign1 e.sign in
    let spelled : Spells x e.raw = subst (Spells x) (sym m.raw) (sign_spelled 13 e.sign (omega (arith, ap length (sym m.raw), m.small)) m.unprotected) in
    let is = start_is e.raw x spelled in
    record { item = x; spelled = spelled; shows = shown (ap sign1_in is.item ∙ sign_says e.sign m.names) is.raw }
  where
    shown : sign1_in (spot_item (start e.raw)) ≡ Some e.sign → spot_raw (start e.raw) ≡ e.raw → entry_seen (start e.raw) ≡ Some e
    shown says same = entry_says next e (spot_item (start e.raw)) (spot_raw (start e.raw)) m says same

-- ---- and among others

pub new_says : (e : Entry) → e.raw ≡ det (item_of_sign1 e.sign) → e.sign.unprotected ≡ [] → length e.raw < 2 ^ 64 → IsEntry e.raw e → (sign1_in (item_of_sign1 e.sign) >>= signed_entry e.raw) ≡ Some e
unfolding entry_seen
new_says e raw none small back =
    let x = item_of_sign1 e.sign in
    let spelled : Spells x e.raw = subst (Spells x) (sym raw) (sign_spelled 13 e.sign (omega (arith, ap length (sym raw), small)) none) in
    let is = start_is e.raw x spelled in
    ap (λ (y : Item). sign1_in y >>= signed_entry e.raw) (sym is.item) ∙ ap (λ (t : List ℕ). sign1_in (spot_item (start e.raw)) >>= signed_entry t) (sym is.raw) ∙ shown back.shows
  where
    shown : entry_seen (start e.raw) ≡ Some e → (sign1_in (spot_item (start e.raw)) >>= signed_entry (spot_raw (start e.raw))) ≡ Some e
    shown h = h

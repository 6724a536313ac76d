-- Entries are read from their snapshot.
use Rattle.std.proofs.Common.{◌≡◌, ◌⊎◌, inl, inr, ℕ, zero, suc, ℤ, ◌+◌, ◌-◌, pos, List, [], ◌∷◌, ◌++◌, map, length, true, false, ◌||◌, if◌then◌else◌, Option, Some, None, Ok, Err, refl, sym, ap, subst, ◌∙◌, append_assoc, arith, lit<, ◌<◌, ◌≤◌}
use Rattle.std.specs.List.{AllByRecursion}
use Rattle.std.specs.Ordering.{int_eq}
use Rattle.std.specs.Str.{IsAscii}
use Rattle.std.proofs.lemmas.Str.{is_utf8-from_IsUtf8, IsUtf8-from_ascii}
use Rattle.std.proofs.lemmas.Bool.{lt-ltb, cases_Bool}
use Rattle.std.proofs.lemmas.Bool.Decides.{Decides-int_eq}
use Rattle.std.proofs.lemmas.List.{append-nil, length-append}
use Rattle.std.proofs.lemmas.Slice.Eq.{bytes_eq-Decides}
use Rattle.cbor_core.specs.declared.item.Item.{Item, out-Item}
use Rattle.cbor_core.specs.declared.item.Item.TheOpen.{Item-F}
use Rattle.cbor_core.specs.declared.item.Item.TheFolds.{fold-roll-Item}
use Rattle.cbor_core.specs.declared.item.Item.TheVariants as items
use Rattle.cbor_core.specs.Norm.{norm, norm_step, IsFit, IsFitLayer, IsFitWithin, IsReadBack}
use Rattle.cbor_core.specs.Numbers.{item_of_integer, IsI64}
use Rattle.cbor_core.specs.Shapes.{null, is_null, three_spots}
use Rattle.cbor_core.specs.Spots.{Spot, start, spot_item, spot_parts, text_in}
use Rattle.cbor_core.proofs.Dets.{length_map}
use Rattle.cbor_core.proofs.NormLaws.{norm_uint, norm_bytes, norm_array, norm_integer, fit_uint, fit_bytes, fit_array, fit_integer}
use Rattle.voucher_chain.specs.Reading.{IsInMemory}
use Rattle.voucher_chain.specs.declared.voucher.Voucher.{Voucher}
use Rattle.voucher_chain.proofs.BackLaws.{norm_null, of_layer}
use Rattle.hash_hmac.specs.declared.hash.Hash.{Hash}
use Rattle.key_codec.specs.Fault.{ok_of}
use Rattle.key_codec.specs.Hash.{hash_in}
use Rattle.voucher_chain.specs.Voucher.{is_mac, mac_if}
use Rattle.voucher_chain.proofs.Seen.{bind_some, guard_some, some_is, seen_is}
use Rattle.voucher_map.specs.declared.kept.Kept.{Kept}
use Rattle.voucher_map.specs.declared.kept.Kept.TheVariants as kept
use Rattle.voucher_store.specs.Read.{◌>>=◌, det_at}
use Rattle.voucher_store.specs.Parts.{voucher_inside, candidate_inside, as_some}
use Rattle.voucher_store.specs.Snapshot.{is_at, EntrySpots, held_spots, sent_spots, second_spots_by, is_kind, is_kind_of, kind_place, kept_with, kept_by, entry_by, entry_at, is_new, with_new, one_more, entries_from, entries_at, is_word, ended_by, snapshot_by, snapshot_at}
use Rattle.voucher_store.specs.Writing.{item_of_candidate, item_of_kind, item_of_entry, word, item_of_snapshot, body_of_snapshot, IsSound, IsSoundCandidate, IsSoundEntry, AreSound, IsMap, CandidateHasSize, EntryHasSizes}
use Rattle.voucher_store.proofs.Leaves.{Leaf, AreLeaves, written, read_whole, array_leaves, array_is, three_are, four_are, number_is, voucher_back}

-- ---- in a loop

pub sizes_more : (front : List Kept) (e : Kept) → AllByRecursion EntryHasSizes front → EntryHasSizes e → AllByRecursion EntryHasSizes (front ++ e ∷ [])
sizes_more [] e h size = (size, tt)
sizes_more (x ∷ front) e h size = (h.0, sizes_more front e h.1 size)

-- ---- it is fit to be written

-- the kind of an HMAC that was read
mac_kind : (k : ℤ) → is_mac k ≡ true → (k ≡ pos 5) ⊎ (k ≡ pos 6)
mac_kind k is = elim (cases_Bool (int_eq k (pos 5))) [
  | inl five ↦ inl ((Decides-int_eq k (pos 5)).0 five)
  | inr other ↦ inr ((Decides-int_eq k (pos 6)).0 (sym (ap (λ t. t || int_eq k (pos 6)) other) ∙ is))
]

pub known_kind : (v : Voucher) → IsSound v → (v.hmac.kind ≡ pos 5) ⊎ (v.hmac.kind ≡ pos 6)
known_kind v sound =
    let seen = seen_is (start v.raw) v sound.shown.shows in
    let p = bind_some (ok_of (hash_in (spot_item seen.parts.2))) mac_if v.hmac seen.hmac in
    let g = guard_some (is_mac p.0.kind) (Some p.0) v.hmac p.2 in
    mac_kind v.hmac.kind (ap (λ (h : Hash). is_mac h.kind) (sym (some_is p.0 v.hmac g.1)) ∙ g.0)

known_small : (k : ℤ) → (k ≡ pos 5) ⊎ (k ≡ pos 6) → IsI64 k
known_small k (inl is) = subst IsI64 (sym is) (lit< tt)
known_small k (inr is) = subst IsI64 (sym is) (lit< tt)

null_fit : (n : ℕ) → IsFitWithin (suc n) null
null_fit n = of_layer n null (subst (IsFitLayer (IsFitWithin n)) (sym (items.outs-Simple 22)) (inl (lit< tt)))

candidate_fit : (n : ℕ) (o : Option Voucher) → CandidateHasSize o → IsFitWithin (suc n) (item_of_candidate o)
candidate_fit n None h = null_fit n
candidate_fit n (Some v) h = fit_bytes n v.raw h

entry_fit : (n : ℕ) (e : Kept) → EntryHasSizes e → IsSoundEntry e → IsFitWithin (suc (suc n)) (item_of_entry e)
entry_fit n (kept.Held b c) h sound =
    fit_array (suc n) (items.Uint 0 ∷ item_of_kind b ∷ items.Bytes b.raw ∷ item_of_candidate c ∷ []) (lit< tt)
    (fit_uint n 0 (lit< tt), (fit_integer n b.hmac.kind (known_small b.hmac.kind (known_kind b sound.0)), (fit_bytes n b.raw h.0, (candidate_fit n c h.1, tt))))
entry_fit n (kept.Sent v) h sound =
    fit_array (suc n) (items.Uint 1 ∷ item_of_kind v ∷ items.Bytes v.raw ∷ []) (lit< tt)
    (fit_uint n 1 (lit< tt), (fit_integer n v.hmac.kind (known_small v.hmac.kind (known_kind v sound)), (fit_bytes n v.raw h, tt)))

entries_fit : (n : ℕ) (before es : List Kept) → AllByRecursion EntryHasSizes es → AreSound before es → AllByRecursion (IsFitWithin (suc (suc n))) (map item_of_entry es)
entries_fit n before [] h sound = tt
entries_fit n before (e ∷ es) h sound = (entry_fit n e h.0 sound.0, entries_fit n (before ++ e ∷ []) es h.1 sound.2)

word_ascii : IsAscii word
word_ascii zero = lit< tt
word_ascii (suc zero) = lit< tt
word_ascii (suc (suc zero)) = lit< tt
word_ascii (suc (suc (suc zero))) = lit< tt
word_ascii (suc (suc (suc (suc zero)))) = lit< tt
word_ascii (suc (suc (suc (suc (suc zero))))) = lit< tt
word_ascii (suc (suc (suc (suc (suc (suc zero)))))) = lit< tt
word_ascii (suc (suc (suc (suc (suc (suc (suc i))))))) = lit< tt

word_fit : (n : ℕ) → IsFitWithin (suc n) (items.Text word)
word_fit n = of_layer n (items.Text word) (subst (IsFitLayer (IsFitWithin n)) (sym (items.outs-Text word)) (lit< tt, is_utf8-from_IsUtf8 word (IsUtf8-from_ascii word word_ascii)))

pub snapshot_fits : (es : List Kept) → AllByRecursion EntryHasSizes es → IsMap es → IsFit (item_of_snapshot es)
snapshot_fits es h is =
    fit_array 15 (items.Uint 2 ∷ items.Array (map item_of_entry es) ∷ items.Text word ∷ []) (lit< tt) (
      fit_uint 14 2 (lit< tt),
      (
        fit_array 14 (map item_of_entry es) (omega (arith, length_map item_of_entry es, is.few)) (entries_fit 12 [] es h is.sound),
        (word_fit 14, tt),
      ),
    )

-- ---- no map stands in it

text_norm : (t : List ℕ) → norm (items.Text t) ≡ items.Text t
text_norm t = ap norm (sym (items.rolls-Text t)) ∙ fold-roll-Item Item norm_step (Item-F.Text t)

candidate_norm : (o : Option Voucher) → norm (item_of_candidate o) ≡ item_of_candidate o
candidate_norm None = norm_null
candidate_norm (Some v) = norm_bytes v.raw

entry_norm : (e : Kept) → norm (item_of_entry e) ≡ item_of_entry e
entry_norm (kept.Held b c) = norm_array (items.Uint 0 ∷ item_of_kind b ∷ items.Bytes b.raw ∷ item_of_candidate c ∷ []) ∙ (rw (norm_uint 0, norm_integer b.hmac.kind, norm_bytes b.raw, candidate_norm c) refl)
entry_norm (kept.Sent v) = norm_array (items.Uint 1 ∷ item_of_kind v ∷ items.Bytes v.raw ∷ []) ∙ (rw (norm_uint 1, norm_integer v.hmac.kind, norm_bytes v.raw) refl)

entries_norm : (es : List Kept) → map norm (map item_of_entry es) ≡ map item_of_entry es
entries_norm [] = refl
entries_norm (e ∷ es) = rw (entry_norm e, entries_norm es) refl

snapshot_norm : (es : List Kept) → norm (item_of_snapshot es) ≡ item_of_snapshot es
snapshot_norm es =
    norm_array (items.Uint 2 ∷ items.Array (map item_of_entry es) ∷ items.Text word ∷ [])
    ∙ (rw (norm_uint 2, norm_array (map item_of_entry es), entries_norm es, text_norm word) refl)

-- ---- it is read

kind_back : (n : ℕ) (s : Spot) (k : ℤ) → Leaf n (item_of_integer k) s → (k ≡ pos 5) ⊎ (k ≡ pos 6) → is_kind (Some s) ≡ true
kind_back n s k l (inl is) = ap (λ t. t || is_at (pos 6) s) (number_is n s (pos 5) (pos 5) (subst (λ k. Leaf n (item_of_integer k) s) is l) (lit< tt))
kind_back n s k l (inr is) =
    let here = subst (λ k. Leaf n (item_of_integer k) s) is l in
    ap (λ t. t || is_at (pos 6) s) (number_is n s (pos 5) (pos 6) here (lit< tt)) ∙ number_is n s (pos 6) (pos 6) here (lit< tt)

own_kind : (n : ℕ) (s : Spot) (v : Voucher) → Leaf n (item_of_kind v) s → (v.hmac.kind ≡ pos 5) ⊎ (v.hmac.kind ≡ pos 6) → is_kind_of v (Some s) ≡ true
own_kind n s v l known = number_is n s v.hmac.kind v.hmac.kind l (known_small v.hmac.kind known) ∙ (Decides-int_eq v.hmac.kind v.hmac.kind).1 refl

candidate_back : (n : ℕ) (s : Spot) (o : Option Voucher) → Leaf n (item_of_candidate o) s → IsSoundCandidate o → candidate_inside s ≡ Ok o
candidate_back n s None l sound =
    ap (λ i. if is_null (out-Item i) then Ok None else as_some (voucher_inside s)) l.item ∙ ap (λ f. if is_null f then Ok None else as_some (voucher_inside s)) (items.outs-Simple 22)
candidate_back n s (Some v) l sound =
    ap (λ i. if is_null (out-Item i) then Ok None else as_some (voucher_inside s)) l.item ∙ ap (λ f. if is_null f then Ok None else as_some (voucher_inside s)) (items.outs-Bytes v.raw)
    ∙ ap as_some (voucher_back n s v l sound)

by_parts : (n : ℕ) (v : Voucher) (k a : Spot) (candidate : Option Spot) → Leaf n (item_of_kind v) k → Leaf n (items.Bytes v.raw) a → IsSound v
    → entry_by (record { kind = Some k; first = a; candidate = candidate }) ≡ kept_with v candidate
by_parts n v k a candidate at_k at_a sound =
    let parts : EntrySpots = record { kind = Some k; first = a; candidate = candidate } in
    ap (λ t. if t then voucher_inside a >>= kept_by parts else Err (kind_place parts)) (kind_back n k v.hmac.kind at_k (known_kind v sound))
    ∙ ap (λ r. r >>= kept_by parts) (voucher_back n a v at_a sound)
    ∙ ap (λ t. if t then kept_with v candidate else Err (kind_place parts)) (own_kind n k v at_k (known_kind v sound))

entry_back : (n : ℕ) (s : Spot) (e : Kept) → Leaf n (item_of_entry e) s → IsSoundEntry e → entry_at false s ≡ Ok e
unfolding entry_at
entry_back n s (kept.Held b c) l sound =
    let f = four_are n s (items.Uint 0) (item_of_kind b) (items.Bytes b.raw) (item_of_candidate c) l in
    ap (λ o. second_spots_by s.at o (three_spots s) >>= entry_by) f.four
    ∙ ap (λ t. (if t then Ok (held_spots (Some f.b) f.c f.d) else Err f.a.at) >>= entry_by) (number_is (n - 1) f.a (pos 0) (pos 0) f.at_a (lit< tt))
    ∙ by_parts (n - 1) b f.b f.c (Some f.d) f.at_b f.at_c sound.0
    ∙ ap (λ r. r >>= λ candidate. Ok (kept.Held b candidate)) (candidate_back (n - 1) f.d c f.at_d sound.1)
entry_back n s (kept.Sent v) l sound =
    let t = three_are n s (items.Uint 1) (item_of_kind v) (items.Bytes v.raw) l in
    ap (λ o. second_spots_by s.at o (three_spots s) >>= entry_by) t.four
    ∙ ap (λ o. second_spots_by s.at None o >>= entry_by) t.three
    ∙ ap (λ b. (if b then Ok (sent_spots (Some t.b) t.c) else Err t.a.at) >>= entry_by) (number_is (n - 1) t.a (pos 1) (pos 1) t.at_a (lit< tt))
    ∙ by_parts (n - 1) v t.b t.c None t.at_b t.at_c sound

more_back : (n : ℕ) (before : List Kept) (e : Kept) (s : Spot) → Leaf n (item_of_entry e) s → IsSoundEntry e → is_new before e ≡ true → length before < 4096 → one_more false before s ≡ Ok (before ++ e ∷ [])
unfolding one_more
more_back n before e s l sound new few =
    ap (λ t. if t then entry_at false s >>= with_new s.at before else Err s.at) (lt-ltb (length before) 4096 few)
    ∙ ap (λ r. r >>= with_new s.at before) (entry_back n s e l sound)
    ∙ ap (λ t. if t then Ok (before ++ e ∷ []) else Err s.at) new

entries_back : (n : ℕ) (before es : List Kept) (ss : List Spot) → AreLeaves n (map item_of_entry es) ss → AreSound before es → length before + length es ≤ 4096 → entries_from false before ss ≡ Ok (before ++ es)
entries_back n before [] [] l sound few = ap Ok (sym (append-nil before))
entries_back n before [] (s ∷ ss) l sound few = absurd l
entries_back n before (e ∷ es) [] l sound few = absurd l
entries_back n before (e ∷ es) (s ∷ ss) l sound few =
    ap (λ r. r >>= λ more. entries_from false more ss) (more_back n before e s l.0 sound.0 sound.1 (omega (arith, few)))
    ∙ entries_back n (before ++ e ∷ []) es ss l.1 sound.2 (omega (arith, few, length-append before (e ∷ [])))
    ∙ ap Ok (append_assoc before (e ∷ []) es)

word_back : (n : ℕ) (s : Spot) (es : List Kept) → Leaf n (items.Text word) s → ended_by s es ≡ Ok es
word_back n s es l =
    ap (λ i. if is_word (text_in (out-Item i)) then Ok es else Err s.at) l.item
    ∙ ap (λ f. if is_word (text_in f) then Ok es else Err s.at) (items.outs-Text word)
    ∙ ap (λ t. if t then Ok es else Err s.at) ((bytes_eq-Decides word word).1 refl)

snapshot_seen : (es : List Kept) (s : Spot) → Leaf 16 (item_of_snapshot es) s → IsMap es → snapshot_at s ≡ Ok es
unfolding snapshot_at
snapshot_seen es s l is =
    let t = three_are 16 s (items.Uint 2) (items.Array (map item_of_entry es)) (items.Text word) l in
    let first : is_at (pos 1) t.a ≡ false = number_is 15 t.a (pos 1) (pos 2) t.at_a (lit< tt) in
    let second : is_at (pos 2) t.a ≡ true = number_is 15 t.a (pos 2) (pos 2) t.at_a (lit< tt) in
    ap (snapshot_by s.at) t.three
    ∙ ap (λ b. if b || is_at (pos 2) t.a then entries_at b t.b >>= ended_by t.c else Err t.a.at) first
    ∙ ap (λ b. if b then entries_at false t.b >>= ended_by t.c else Err t.a.at) second
    ∙ ap (λ b. (if b then entries_from false [] (spot_parts t.b) else Err t.b.at) >>= ended_by t.c) (array_is 15 (map item_of_entry es) t.b t.at_b)
    ∙ ap (λ r. r >>= ended_by t.c) (entries_back 14 [] es (spot_parts t.b) (array_leaves 15 (map item_of_entry es) t.b t.at_b) is.sound (omega (arith, is.few)))
    ∙ word_back 15 t.c es t.at_c

pub snapshot_back : (es : List Kept) (body : List ℕ) → body ≡ body_of_snapshot es → AllByRecursion EntryHasSizes es → IsInMemory body → IsReadBack (item_of_snapshot es) body → IsMap es → det_at snapshot_at body ≡ Ok es
snapshot_back es body is sizes memory back kept =
    read_whole snapshot_at (item_of_snapshot es) body es (snapshot_norm es) back
    (snapshot_seen es (start body) (written (item_of_snapshot es) body (snapshot_fits es sizes kept) (snapshot_norm es) is memory) kept)

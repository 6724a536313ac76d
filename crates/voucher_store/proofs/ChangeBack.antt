-- A change is read from its record.
use Rattle.std.proofs.Common.{◌≡◌, ℕ, pos, List, [], ◌∷◌, length, if◌then◌else◌, None, Result, Ok, Err, refl, ap, ◌∙◌, arith, lit<, ◌<◌, ◌^◌}
use Rattle.cbor_core.specs.declared.item.Item.TheVariants as items
use Rattle.cbor_core.specs.Norm.{norm, IsFit, IsReadBack}
use Rattle.cbor_core.specs.Shapes.{three_spots}
use Rattle.cbor_core.specs.Spots.{Spot, start}
use Rattle.cbor_core.proofs.NormLaws.{norm_uint, norm_bytes, norm_array, fit_uint, fit_bytes, fit_array}
use Rattle.voucher_chain.specs.Reading.{IsInMemory}
use Rattle.voucher_chain.specs.declared.voucher.Voucher.{Voucher}
use Rattle.voucher_store.specs.Read.{◌>>=◌, det_at}
use Rattle.voucher_store.specs.Parts.{voucher_inside, guid_inside}
use Rattle.voucher_store.specs.Records.{change_by, change_at}
use Rattle.voucher_store.specs.Snapshot.{is_at}
use Rattle.voucher_store.specs.Writing.{item_of_change, body_of_change, IsSpelt, HasSizes}
use Rattle.voucher_store.specs.declared.change.Change.{Change}
use Rattle.voucher_store.specs.declared.change.Change.TheVariants as change
use Rattle.voucher_store.proofs.Leaves.{Leaf, written, read_whole, two_are, three_are, number_is, voucher_back, guid_back}

-- ---- it is fit to be written

two_fit : (k : ℕ) (b : List ℕ) → k < 2 ^ 64 → length b < 2 ^ 64 → IsFit (items.Array (items.Uint k ∷ items.Bytes b ∷ []))
two_fit k b small size = fit_array 15 (items.Uint k ∷ items.Bytes b ∷ []) (lit< tt) (fit_uint 14 k small, (fit_bytes 14 b size, tt))

three_fit : (k : ℕ) (g b : List ℕ) → k < 2 ^ 64 → length g ≡ 16 → length b < 2 ^ 64 → IsFit (items.Array (items.Uint k ∷ items.Bytes g ∷ items.Bytes b ∷ []))
three_fit k g b small guid size = fit_array 15 (items.Uint k ∷ items.Bytes g ∷ items.Bytes b ∷ []) (lit< tt) (fit_uint 14 k small, (fit_bytes 14 g (omega (arith, guid)), (fit_bytes 14 b size, tt)))

pub change_fits : (c : Change) → HasSizes c → IsFit (item_of_change c)
change_fits (change.Import v) h = two_fit 0 v.raw (lit< tt) h
change_fits (change.Candidate g v) h = three_fit 1 g v.raw (lit< tt) h.0 h.1
change_fits (change.Promotion g) h = two_fit 2 g (lit< tt) (omega (arith, h))
change_fits (change.Export g v) h = three_fit 3 g v.raw (lit< tt) h.0 h.1

two_norm : (k : ℕ) (b : List ℕ) → norm (items.Array (items.Uint k ∷ items.Bytes b ∷ [])) ≡ items.Array (items.Uint k ∷ items.Bytes b ∷ [])
two_norm k b = norm_array (items.Uint k ∷ items.Bytes b ∷ []) ∙ (rw (norm_uint k, norm_bytes b) refl)

three_norm : (k : ℕ) (g b : List ℕ) → norm (items.Array (items.Uint k ∷ items.Bytes g ∷ items.Bytes b ∷ [])) ≡ items.Array (items.Uint k ∷ items.Bytes g ∷ items.Bytes b ∷ [])
three_norm k g b = norm_array (items.Uint k ∷ items.Bytes g ∷ items.Bytes b ∷ []) ∙ (rw (norm_uint k, norm_bytes g, norm_bytes b) refl)

change_norm : (c : Change) → norm (item_of_change c) ≡ item_of_change c
change_norm (change.Import v) = two_norm 0 v.raw
change_norm (change.Candidate g v) = three_norm 1 g v.raw
change_norm (change.Promotion g) = two_norm 2 g
change_norm (change.Export g v) = three_norm 3 g v.raw

-- ---- it is read

import_seen : (v : Voucher) (s : Spot) → Leaf 16 (item_of_change (change.Import v)) s → IsSpelt (change.Import v) → change_at s ≡ Ok (change.Import v)
unfolding change_at
import_seen v s l spelt =
    let t = two_are 16 s (items.Uint 0) (items.Bytes v.raw) l in
    ap (λ o. change_by s.at o (three_spots s)) t.two
    ∙ ap (λ n. if n then voucher_inside t.b >>= (λ v. Ok (change.Import v)) else if is_at (pos 2) t.a then guid_inside t.b >>= (λ g. Ok (change.Promotion g)) else Err t.a.at) (number_is 15 t.a (pos 0) (pos 0) t.at_a (lit< tt))
    ∙ ap (λ r. r >>= (λ v. Ok (change.Import v))) (voucher_back 15 t.b v t.at_b spelt)

promotion_seen : (g : List ℕ) (s : Spot) → Leaf 16 (item_of_change (change.Promotion g)) s → length g ≡ 16 → change_at s ≡ Ok (change.Promotion g)
unfolding change_at
promotion_seen g s l size =
    let t = two_are 16 s (items.Uint 2) (items.Bytes g) l in
    ap (λ o. change_by s.at o (three_spots s)) t.two
    ∙ ap (λ n. if n then voucher_inside t.b >>= (λ v. Ok (change.Import v)) else if is_at (pos 2) t.a then guid_inside t.b >>= (λ g. Ok (change.Promotion g)) else Err t.a.at) (number_is 15 t.a (pos 0) (pos 2) t.at_a (lit< tt))
    ∙ ap (λ n. if n then guid_inside t.b >>= (λ g. Ok (change.Promotion g)) else Err t.a.at) (number_is 15 t.a (pos 2) (pos 2) t.at_a (lit< tt))
    ∙ ap (λ r. r >>= (λ g. Ok (change.Promotion g))) (guid_back 15 t.b g t.at_b size)

abbrev said_three : (List ℕ → Voucher → Change) → Spot → Spot → Result Change ℕ
said_three make b c = guid_inside b >>= (λ g. voucher_inside c >>= λ v. Ok (make g v))

three_said : (make : List ℕ → Voucher → Change) (g : List ℕ) (v : Voucher) (b c : Spot) → guid_inside b ≡ Ok g → voucher_inside c ≡ Ok v → said_three make b c ≡ Ok (make g v)
three_said make g v b c first second = ap (λ (r : Result (List ℕ) ℕ). r >>= (λ g. voucher_inside c >>= λ v. Ok (make g v))) first ∙ ap (λ (r : Result Voucher ℕ). r >>= λ v. Ok (make g v)) second

candidate_seen : (g : List ℕ) (v : Voucher) (s : Spot) → Leaf 16 (item_of_change (change.Candidate g v)) s → length g ≡ 16 → IsSpelt (change.Candidate g v) → change_at s ≡ Ok (change.Candidate g v)
unfolding change_at
candidate_seen g v s l size spelt =
    let t = three_are 16 s (items.Uint 1) (items.Bytes g) (items.Bytes v.raw) l in
    ap (λ o. change_by s.at o (three_spots s)) t.two ∙ ap (change_by s.at None) t.three
    ∙ ap (λ n. if n then said_three change.Candidate t.b t.c else if is_at (pos 3) t.a then said_three change.Export t.b t.c else Err t.a.at) (number_is 15 t.a (pos 1) (pos 1) t.at_a (lit< tt))
    ∙ three_said change.Candidate g v t.b t.c (guid_back 15 t.b g t.at_b size) (voucher_back 15 t.c v t.at_c spelt)

export_seen : (g : List ℕ) (v : Voucher) (s : Spot) → Leaf 16 (item_of_change (change.Export g v)) s → length g ≡ 16 → IsSpelt (change.Export g v) → change_at s ≡ Ok (change.Export g v)
unfolding change_at
export_seen g v s l size spelt =
    let t = three_are 16 s (items.Uint 3) (items.Bytes g) (items.Bytes v.raw) l in
    ap (λ o. change_by s.at o (three_spots s)) t.two ∙ ap (change_by s.at None) t.three
    ∙ ap (λ n. if n then said_three change.Candidate t.b t.c else if is_at (pos 3) t.a then said_three change.Export t.b t.c else Err t.a.at) (number_is 15 t.a (pos 1) (pos 3) t.at_a (lit< tt))
    ∙ ap (λ n. if n then said_three change.Export t.b t.c else Err t.a.at) (number_is 15 t.a (pos 3) (pos 3) t.at_a (lit< tt))
    ∙ three_said change.Export g v t.b t.c (guid_back 15 t.b g t.at_b size) (voucher_back 15 t.c v t.at_c spelt)

change_seen : (c : Change) (s : Spot) → Leaf 16 (item_of_change c) s → HasSizes c → IsSpelt c → change_at s ≡ Ok c
change_seen (change.Import v) s l h spelt = import_seen v s l spelt
change_seen (change.Candidate g v) s l h spelt = candidate_seen g v s l h.0 spelt
change_seen (change.Promotion g) s l h spelt = promotion_seen g s l h
change_seen (change.Export g v) s l h spelt = export_seen g v s l h.0 spelt

pub change_back : (c : Change) (body : List ℕ) → body ≡ body_of_change c → HasSizes c → IsInMemory body → IsReadBack (item_of_change c) body → IsSpelt c → det_at change_at body ≡ Ok c
change_back c body is sizes memory back spelt =
    read_whole change_at (item_of_change c) body c (change_norm c) back
    (change_seen c (start body) (written (item_of_change c) body (change_fits c sizes) (change_norm c) is memory) sizes spelt)

-- The map of a file, with one more record or with a new snapshot.
use Rattle.std.proofs.Common.{◌≡◌, ◌⊎◌, inl, inr, ℕ, ◌+◌, ◌*◌, ◌<◌, ◌≤◌, List, [], ◌∷◌, ◌++◌, length, take, drop, Bool, true, false, ◌&&◌, nat_lt, nat_le, if◌then◌else◌, Option, Some, None, Result, Ok, Err, refl, sym, ap, subst, ◌∙◌}
use Rattle.std.specs.Prelude.{not}
use Rattle.std.proofs.lemmas.Bool.{false≢true, ltb-true, leb-true}
use Rattle.disk_port.specs.Story.{Story, seen}
use Rattle.disk_port.specs.Gated.{gated}
use Rattle.disk_port.specs.Slots.{slot, is_newer}
use Rattle.disk_port.specs.declared.next_change.NextChange.{NextChange}
use Rattle.disk_port.specs.declared.side.Side.{Side}
use Rattle.disk_port.specs.declared.side.Side.TheVariants.{First, Second}
use Rattle.disk_port.proofs.Stepping.{steps_map}
use Rattle.journal.specs.Records.{walk, framed}
use Rattle.journal.specs.Areas.{Area, area_of, behind_slot, area_with, area, area_at, Standing, held, newest, base_of, stands, areas_for, IsReady}
use Rattle.journal.specs.Changing.{fresh, snapshot, one_more, IsSameOrMore, IsSameOrFresh, Appends, Rewrites}
use Rattle.journal.specs.declared.areas.Areas.{Areas}
use Rattle.voucher_map.specs.Map.{snapshot_length}
use Rattle.voucher_map.specs.declared.kept.Kept.{Kept}
use Rattle.voucher_store.specs.Read.{◌>>=◌, found, placed, det_at}
use Rattle.voucher_store.specs.Records.{change_at, changed, record_in, records_in}
use Rattle.voucher_store.specs.Snapshot.{snapshot_at}
use Rattle.voucher_store.specs.Image.{candidates, goes_on, checked, bodies_in, map_in, map_of}
use Rattle.voucher_store.specs.Changing.{IsBeforeOrAfter, Changes}
use Rattle.voucher_store.specs.declared.change.Change.{Change}

-- ---- an open area has a snapshot

pub record HasSnapshot (a : Area) : Type 0 where
  pub body : List ℕ
  pub records : List (List ℕ)
  pub bodies : a.bodies ≡ body ∷ records

behind_has : (base : ℕ) (s : ℕ × List ℕ) (x : List ℕ) (a : Area) → behind_slot base s x ≡ Some a → HasSnapshot a
behind_has base s [] a is = absurd (cc is)
behind_has base s (gate ∷ rest) a is =
    let w = walk (length (gate ∷ rest)) (base + (13 + length s.1)) (gate ∷ rest) in
    let same : area_of s w ≡ a = cc is in
    subst HasSnapshot same (record { body = s.1; records = w.bodies; bodies = refl })

with_has : (base : ℕ) (x : List ℕ) (o : Option (ℕ × List ℕ)) (a : Area) → area_with base x o ≡ Some a → HasSnapshot a
with_has base x None a is = absurd (cc is)
with_has base x (Some s) a is = behind_has base s (drop (13 + length s.1) x) a is

area_has : (areas : Areas) (side : Side) (image : List ℕ) (a : Area) → area_at areas side image ≡ Some a → HasSnapshot a
unfolding area
area_has areas side image a is = with_has (base_of areas side) (take areas.room (drop (base_of areas side) image)) (slot areas.most (take areas.room (drop (base_of areas side) image))) a is

newest_is : (f s : Option Area) (st : Standing) → newest f s ≡ Some st → (f ≡ Some st.area) ⊎ (s ≡ Some st.area)
newest_is None None st is = absurd (cc is)
newest_is None (Some s) st is = inr (ap Some (ap (λ (t : Standing). t.area) (some_same (held Second s) st is)))
  where
    some_same : (a b : Standing) → Some a ≡ Some b → a ≡ b
    some_same a b is = cc is
newest_is (Some f) None st is = inl (ap Some (ap (λ (t : Standing). t.area) (some_same (held First f) st is)))
  where
    some_same : (a b : Standing) → Some a ≡ Some b → a ≡ b
    some_same a b is = cc is
newest_is (Some f) (Some s) st is = by (is_newer s.generation f.generation) is
  where
    some_same : (a b : Standing) → Some a ≡ Some b → a ≡ b
    some_same a b is = cc is

    by : (b : Bool) → (if b then Some (held Second s) else Some (held First f)) ≡ Some st → (Some f ≡ Some st.area) ⊎ (Some s ≡ Some st.area)
    by true is = inr (ap Some (ap (λ (t : Standing). t.area) (some_same (held Second s) st is)))
    by false is = inl (ap Some (ap (λ (t : Standing). t.area) (some_same (held First f) st is)))

pub stands_has : (areas : Areas) (image : List ℕ) (st : Standing) → stands areas image ≡ Some st → HasSnapshot st.area
stands_has areas image st is = elim (newest_is (area_at areas First image) (area_at areas Second image) st is) [
  | inl first ↦ area_has areas First image st.area first
  | inr second ↦ area_has areas Second image st.area second
]

-- ---- what a map that was read says

bind_ok : {A B : Type 0} (r : Result A ℕ) (f : A → Result B ℕ) (y : B) → (r >>= f) ≡ Ok y → (x : A) × (r ≡ Ok x) × (f x ≡ Ok y)
bind_ok (Ok x) f y is = (x, refl, is)
bind_ok (Err place) f y is = absurd (cc is)

checked_is : (b : Bool) (place : ℕ) (e es : List Kept) → (if b then Ok e else Err place) ≡ Ok es → (b ≡ true) × (e ≡ es)
checked_is true place e es is = (refl, cc is)
checked_is false place e es is = absurd (cc is)

and_true : (a b : Bool) → (a && b) ≡ true → (a ≡ true) × (b ≡ true)
and_true true b is = (refl, is)
and_true false b is = absurd (false≢true is)

not_true : (b : Bool) → not b ≡ true → b ≡ false
not_true true is = absurd (false≢true is)
not_true false is = refl

pub record Said (areas : Areas) (limit : ℕ) (st : Standing) (es : List Kept) : Type 0 where
  pub bodies : bodies_in (base_of areas st.side + 13) st.area.bodies ≡ Ok es
  pub ready : st.area.one ≡ false
  pub room : st.area.place + 24 * candidates es < base_of areas st.side + areas.room
  pub fits : snapshot_length es ≤ limit

pub said : (areas : Areas) (limit : ℕ) (st : Standing) (es : List Kept) → map_in areas limit (Some st) ≡ Ok es → Said areas limit st es
said areas limit st es is =
    let end : ℕ = base_of areas st.side + areas.room in
    let p = bind_ok (bodies_in (base_of areas st.side + 13) st.area.bodies) (checked limit end st.area.place st.area.one) es is in
    let q = checked_is (goes_on limit end st.area.place st.area.one p.0) st.area.place p.0 es p.2 in
    let g = and_true (not st.area.one) (nat_lt (st.area.place + 24 * candidates es) end && nat_le (snapshot_length es) limit) (ap (goes_on limit end st.area.place st.area.one) (sym q.1) ∙ q.0) in
    let h = and_true (nat_lt (st.area.place + 24 * candidates es) end) (nat_le (snapshot_length es) limit) g.1 in
    record {
      bodies = p.1 ∙ ap Ok q.1;
      ready = not_true st.area.one g.0;
      room = ltb-true (st.area.place + 24 * candidates es) end h.0;
      fits = leb-true (snapshot_length es) limit h.1;
    }

-- a file whose map is read can be changed
pub map_ready : (limit : ℕ) (image : List ℕ) (es : List Kept) → map_of limit image ≡ Ok es → IsReady (stands (areas_for limit) image)
unfolding map_of
map_ready limit image es is = by (stands (areas_for limit) image) is
  where
    by : (o : Option Standing) → map_in (areas_for limit) limit o ≡ Ok es → IsReady o
    by None is = tt
    by (Some st) is = (said (areas_for limit) limit st es is).ready

-- ---- one more record

records_more : (place : ℕ) (e0 e1 e2 : List Kept) (bodies : List (List ℕ)) (body : List ℕ) (c : Change) → records_in place e0 bodies ≡ Ok e1 → det_at change_at body ≡ Ok c → changed c e1 ≡ Some e2 → records_in place e0 (bodies ++ body ∷ []) ≡ Ok e2
records_more place e0 e1 e2 [] body c is says makes =
    let same : e0 ≡ e1 = cc is in
    ap (λ (r : Result Change ℕ). (placed (place + 5) r >>= λ c. found place (changed c e0)) >>= λ a. Ok a) says
    ∙ ap (λ (o : Option (List Kept)). found place o >>= λ a. Ok a) (ap (changed c) same ∙ makes)
records_more place e0 e1 e2 (x ∷ bodies) body c is says makes =
    let p = bind_ok (record_in place e0 x) (λ a. records_in (place + (5 + length x)) a bodies) e1 is in
    ap (λ r. r >>= λ a. records_in (place + (5 + length x)) a (bodies ++ body ∷ [])) p.1
    ∙ records_more (place + (5 + length x)) p.0 e1 e2 bodies body c p.2 says makes

bodies_more : (place : ℕ) (e1 e2 : List Kept) (snap : List ℕ) (records : List (List ℕ)) (body : List ℕ) (c : Change) → bodies_in place (snap ∷ records) ≡ Ok e1 → det_at change_at body ≡ Ok c → changed c e1 ≡ Some e2
    → bodies_in place ((snap ∷ records) ++ body ∷ []) ≡ Ok e2
bodies_more place e1 e2 snap records body c is says makes =
    let p = bind_ok (placed place (det_at snapshot_at snap)) (λ e. records_in (place + length snap) e records) e1 is in
    ap (λ r. r >>= λ e. records_in (place + length snap) e (records ++ body ∷ [])) p.1
    ∙ records_more (place + length snap) p.0 e1 e2 records body c p.2 says makes

checked_by : (limit end place : ℕ) (one : Bool) (es : List Kept) → goes_on limit end place one es ≡ true → checked limit end place one es ≡ Ok es
checked_by limit end place one es is = ap (λ b. if b then Ok es else Err place) is

pub record_map : (limit : ℕ) (image after : List ℕ) (st : Standing) (e1 e2 : List Kept) (body : List ℕ) (c : Change) → stands (areas_for limit) image ≡ Some st → map_of limit image ≡ Ok e1
    → det_at change_at body ≡ Ok c → changed c e1 ≡ Some e2 → goes_on limit (base_of (areas_for limit) st.side + (areas_for limit).room) (st.area.place + (5 + length body)) false e2 ≡ true
    → stands (areas_for limit) after ≡ one_more body (stands (areas_for limit) image) → map_of limit after ≡ Ok e2
unfolding map_of
record_map limit image after st e1 e2 body c at is says makes room more =
    let h = stands_has (areas_for limit) image st at in
    let s = said (areas_for limit) limit st e1 (ap (map_in (areas_for limit) limit) (sym at) ∙ is) in
    let end : ℕ = base_of (areas_for limit) st.side + (areas_for limit).room in
    let bodies : bodies_in (base_of (areas_for limit) st.side + 13) (st.area.bodies ++ body ∷ []) ≡ Ok e2 =
    ap (λ bs. bodies_in (base_of (areas_for limit) st.side + 13) (bs ++ body ∷ [])) h.bodies
    ∙ bodies_more (base_of (areas_for limit) st.side + 13) e1 e2 h.body h.records body c (ap (bodies_in (base_of (areas_for limit) st.side + 13)) (sym h.bodies) ∙ s.bodies) says makes in
    ap (map_in (areas_for limit) limit) (more ∙ ap (one_more body) at)
    ∙ ap (λ r. r >>= checked limit end (st.area.place + (5 + length body)) false) bodies
    ∙ checked_by limit end (st.area.place + (5 + length body)) false e2 room

-- ---- a new snapshot

pub snapshot_map : (limit : ℕ) (after : List ℕ) (change : NextChange) (es : List Kept) (body : List ℕ) → det_at snapshot_at body ≡ Ok es
    → goes_on limit (base_of (areas_for limit) change.side + (areas_for limit).room) (base_of (areas_for limit) change.side + (13 + length body)) false es ≡ true
    → stands (areas_for limit) after ≡ Some (fresh (areas_for limit) change body) → map_of limit after ≡ Ok es
unfolding map_of
snapshot_map limit after change es body says room is =
    let base : ℕ = base_of (areas_for limit) change.side in
    let end : ℕ = base + (areas_for limit).room in
    ap (map_in (areas_for limit) limit) is
    ∙ ap (λ (r : Result (List Kept) ℕ). (placed (base + 13) r >>= λ e. records_in (base + 13 + length body) e []) >>= checked limit end (base + (13 + length body)) false) says
    ∙ checked_by limit end (base + (13 + length body)) false es room

-- ---- at each moment

same_map : (limit : ℕ) (c d : List ℕ) (es : List Kept) → stands (areas_for limit) c ≡ stands (areas_for limit) d → map_of limit d ≡ Ok es → map_of limit c ≡ Ok es
unfolding map_of
same_map limit c d es is was = ap (map_in (areas_for limit) limit) is ∙ was

-- a record is written
pub record_changes : {T E : Type 0} (limit place : ℕ) (st : Standing) (e1 e2 : List Kept) (body : List ℕ) (c : Change) (r : Result T E) (s s' : Story) → stands (areas_for limit) (seen s) ≡ Some st → map_of limit (seen s) ≡ Ok e1
    → det_at change_at body ≡ Ok c → changed c e1 ≡ Some e2 → goes_on limit (base_of (areas_for limit) st.side + (areas_for limit).room) (st.area.place + (5 + length body)) false e2 ≡ true
    → Appends (areas_for limit) place body r s s' → Changes limit (gated place true (framed body)) e1 e2 r s s'
record_changes limit place st e1 e2 body c r s s' at is says makes room steps =
    steps_map (IsSameOrMore (areas_for limit) body (seen s)) (IsBeforeOrAfter limit e1 e2) (gated place true (framed body)) r s s' either steps
  where
    either : (d : List ℕ) → IsSameOrMore (areas_for limit) body (seen s) d → IsBeforeOrAfter limit e1 e2 d
    either d (inl same) = inl (same_map limit d (seen s) e1 same is)
    either d (inr more) = inr (record_map limit (seen s) d st e1 e2 body c at is says makes room more)

-- a snapshot is written
pub snapshot_changes : {T E : Type 0} (limit : ℕ) (change : NextChange) (e1 e2 : List Kept) (body : List ℕ) (r : Result T E) (s s' : Story) → map_of limit (seen s) ≡ Ok e1 → det_at snapshot_at body ≡ Ok e2
    → goes_on limit (base_of (areas_for limit) change.side + (areas_for limit).room) (base_of (areas_for limit) change.side + (13 + length body)) false e2 ≡ true
    → Rewrites (areas_for limit) change body r s s' → Changes limit (gated (base_of (areas_for limit) change.side) change.shut (snapshot change.generation body)) e1 e2 r s s'
snapshot_changes limit change e1 e2 body r s s' is says room steps =
    steps_map (IsSameOrFresh (areas_for limit) change body (seen s)) (IsBeforeOrAfter limit e1 e2) (gated (base_of (areas_for limit) change.side) change.shut (snapshot change.generation body)) r s s' either steps
  where
    either : (d : List ℕ) → IsSameOrFresh (areas_for limit) change body (seen s) d → IsBeforeOrAfter limit e1 e2 d
    either d (inl same) = inl (same_map limit d (seen s) e1 same is)
    either d (inr new) = inr (snapshot_map limit d change e2 body says room new)

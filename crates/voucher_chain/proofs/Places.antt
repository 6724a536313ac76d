-- Where the parts of an item stand, and how an entry depends on its item and its bytes alone.
use Rattle.std.proofs.Common.{◌≡◌, ℕ, zero, suc, ◌+◌, ◌-◌, ◌^◌, ◌<◌, Bool, true, false, cond, List, [], ◌∷◌, ◌++◌, map, length, Option, Some, None, refl, sym, ap, subst, ◌∙◌, append_assoc, arith, inl, inr}
use Rattle.std.specs.Prelude.{◌&&◌, is_none, if◌then◌else◌}
use Rattle.std.specs.List.{AllByRecursion}
use Rattle.std.proofs.lemmas.Bool.{cases_lt, le-leb}
use Rattle.std.proofs.lemmas.List.{length-append}
use Rattle.cbor_core.specs.declared.cursor.Entry.{Entry as Behind}
use Rattle.cbor_core.specs.declared.cursor.Entry.TheVariants as behind
use Rattle.cbor_core.specs.declared.head.Major.{Major}
use Rattle.cbor_core.specs.declared.head.Major.TheVariants as major
use Rattle.cbor_core.specs.declared.head.Size.{Size}
use Rattle.cbor_core.specs.declared.head.Size.TheVariants as size
use Rattle.cbor_core.specs.declared.item.Item.{Item, out-Item}
use Rattle.cbor_core.specs.declared.item.Item.TheVariants as items
use Rattle.cbor_core.specs.Head.{head}
use Rattle.cbor_core.specs.Parts.{entry_of, inner}
use Rattle.cbor_core.specs.Reading.{breaks, head_at}
use Rattle.cbor_core.specs.Shapes.{is_array, four_of, is_tag, head_of}
use Rattle.cbor_core.specs.Spelling.{code, FitsIn, is_shortest, IsHead, SpellsRow, SpellsLayer, SpellsWithin}
use Rattle.cbor_core.specs.Spots.{Spot, spot_item, spot_raw, spot_end, spot_next, counted_spots, open_spots, spots_behind, parts_behind, spot_parts, IsSpelled}
use Rattle.cbor_core.proofs.Bytes.{IsBytes, IsBytes-rest}
use Rattle.cbor_core.proofs.Dets.{length_map}
use Rattle.cbor_core.proofs.PartLaws.{spelled_enters, head_reads}
use Rattle.cbor_core.proofs.SpotLaws.{SpotIs, spot_is, has_parts}
use Rattle.cbor_core.proofs.Strict.{shortest_is}
use Rattle.cose_envelopes.specs.declared.sign1.Sign1.{Sign1}
use Rattle.cose_envelopes.specs.Envelope.{sign1_in, item_of_sign1}
use Rattle.voucher_chain.specs.declared.entry.Entry.{Entry}
use Rattle.voucher_chain.specs.Deep.{deep_place, header_deep, content_deep, tagged_deep, deep_entry}
use Rattle.voucher_chain.specs.Entry.{entry_seen, signed_entry}
use Rattle.voucher_chain.specs.Fault.{◌>>=◌, or_else}
use Rattle.voucher_chain.specs.Voucher.{entry_inside}

-- ---- bytes of a list's parts

pub bytes_front : (a b : List ℕ) → IsBytes (a ++ b) → IsBytes a
bytes_front [] b h i = omega arith
bytes_front (x ∷ a) b h zero = h 0
bytes_front (x ∷ a) b h (suc i) = bytes_front a b (IsBytes-rest x (a ++ b) h) i

pub bytes_back : (a b : List ℕ) → IsBytes (a ++ b) → IsBytes b
bytes_back [] b h = h
bytes_back (x ∷ a) b h = bytes_back a b (IsBytes-rest x (a ++ b) h)

pub bytes_join : (a b : List ℕ) → IsBytes a → IsBytes b → IsBytes (a ++ b)
bytes_join [] b f g i = g i
bytes_join (x ∷ a) b f g zero = f 0
bytes_join (x ∷ a) b f g (suc i) = bytes_join a b (IsBytes-rest x a f) g i

-- ---- an item that is spelled where it stands

pub record Good (levels : ℕ) (s : Spot) : Type 0 where
  pub level : s.levels ≡ levels
  pub spelled : IsSpelled s
  pub small : length s.tail < 2 ^ 64
  pub fits : IsBytes s.tail

pub good_is : (levels : ℕ) (s : Spot) (g : Good levels s) → SpotIs s (spot_item s) (spot_raw s) g.spelled.rest
good_is levels s g = spot_is s (spot_item s) (spot_raw s) g.spelled.rest g.spelled.spelled g.spelled.bytes

next_small : (levels : ℕ) (s : Spot) → Good levels s → length (spot_end s) < 2 ^ 64
next_small levels s g = omega (arith, g.small, ap length (good_is levels s g).end, ap length g.spelled.bytes, length-append (spot_raw s) g.spelled.rest)

next_fits : (levels : ℕ) (s : Spot) → Good levels s → IsBytes (spot_end s)
next_fits levels s g = subst IsBytes (sym (good_is levels s g).end) (bytes_back (spot_raw s) g.spelled.rest (subst IsBytes g.spelled.bytes g.fits))

counted_good : (levels n : ℕ) (q : Spot) → q.levels ≡ levels → length q.tail < 2 ^ 64 → IsBytes q.tail → AllByRecursion IsSpelled (counted_spots n q) → AllByRecursion (Good levels) (counted_spots n q)
unfolding counted_spots
counted_good levels zero q level small fits h = tt
counted_good levels (suc n) q level small fits h =
    let here : Good levels q = record { level = level; spelled = h.0; small = small; fits = fits } in
    (here, counted_good levels n (spot_next q) level (next_small levels q here) (next_fits levels q here) h.1)

open_good : (levels turns : ℕ) (q : Spot) → q.levels ≡ levels → length q.tail < 2 ^ 64 → IsBytes q.tail → AllByRecursion IsSpelled (open_spots turns q) → AllByRecursion (Good levels) (open_spots turns q)
unfolding open_spots
open_good levels zero q level small fits h = tt
open_good levels (suc turns) q level small fits h = go (λ here later. open_good levels turns (spot_next q) level (next_small levels q here) (next_fits levels q here) later) (breaks q.tail) h
  where
    go : (Good levels q → AllByRecursion IsSpelled (open_spots turns (spot_next q)) → AllByRecursion (Good levels) (open_spots turns (spot_next q)))
        → (b : Bool) → AllByRecursion IsSpelled (cond b [] (q ∷ open_spots turns (spot_next q))) → AllByRecursion (Good levels) (cond b [] (q ∷ open_spots turns (spot_next q)))
    go more true h = tt
    go more false h =
        let here : Good levels q = record { level = level; spelled = h.0; small = small; fits = fits } in
        (here, more here h.1)

behind_good : (levels : ℕ) (e : Behind) (q : Spot) → q.levels ≡ levels → length q.tail < 2 ^ 64 → IsBytes q.tail → AllByRecursion IsSpelled (spots_behind e q) → AllByRecursion (Good levels) (spots_behind e q)
behind_good levels behind.Leaf q level small fits h = tt
behind_good levels (behind.Counted n) q level small fits h = counted_good levels n q level small fits h
behind_good levels behind.ToBreak q level small fits h = open_good levels (length q.tail) q level small fits h

-- and so are the items inside
pub parts_good : (levels : ℕ) (s : Spot) → Good levels s → AllByRecursion (Good (levels - 1)) (spot_parts s)
parts_good levels s g =
    let h = g.spelled in
    let en = spelled_enters s.levels (spot_item s) (spot_raw s) h.rest (omega (arith, g.small, ap length h.bytes)) h.spelled in
    let q : Spot = record { at = s.at + (length s.tail - length en.mid); levels = s.levels - 1; tail = en.mid } in
    let parts : spot_parts s ≡ spots_behind (entry_of en.head) q = ap (parts_behind s) (ap (head_at 0) h.bytes ∙ en.reads 0) in
    let small : length q.tail < 2 ^ 64 = omega (arith, g.small, ap length h.bytes, ap length en.parts, length-append en.front en.mid) in
    let fits : IsBytes q.tail = bytes_back en.front en.mid (subst IsBytes (h.bytes ∙ en.parts) g.fits) in
    subst (AllByRecursion (Good (levels - 1))) (sym parts)
    (behind_good (levels - 1) (entry_of en.head) q (ap (λ k. k - 1) g.level) small fits (subst (AllByRecursion IsSpelled) parts (has_parts s h g.small).spelled))

pub items_are : (levels : ℕ) (s : Spot) → Good levels s → map spot_item (spot_parts s) ≡ inner (spot_item s)
items_are levels s g = (has_parts s g.spelled g.small).items

-- ---- whether something stands too deep, by the items alone

unfoldable pub shallow : ℕ → List Item → Bool
shallow zero [] = true
shallow zero (x ∷ xs) = false
shallow (suc budget) [] = true
shallow (suc budget) (x ∷ xs) = shallow budget (inner x) && shallow (suc budget) xs

none_or : (a b : Option ℕ) → is_none (or_else a b) ≡ (is_none a && is_none b)
none_or None b = refl
none_or (Some x) b = refl

deep_same : (budget levels : ℕ) (ss : List Spot) → AllByRecursion (Good levels) ss → is_none (deep_place budget ss) ≡ shallow budget (map spot_item ss)
unfolding deep_place shallow
deep_same zero levels [] h = refl
deep_same zero levels (s ∷ ss) h = refl
deep_same (suc budget) levels [] h = refl
deep_same (suc budget) levels (s ∷ ss) h =
    let inside : is_none (deep_place budget (spot_parts s)) ≡ shallow budget (inner (spot_item s)) = deep_same budget (levels - 1) (spot_parts s) (parts_good levels s h.0) ∙ ap (shallow budget) (items_are levels s h.0) in
    none_or (deep_place budget (spot_parts s)) (deep_place (suc budget) ss) ∙ (rw (inside, deep_same (suc budget) levels ss h.1) refl)

abbrev pub header_shallow : ℕ → Option (Item × Item × Item × Item) → Bool
header_shallow budget None = true
header_shallow budget (Some parts) = shallow budget (inner parts.1)

abbrev pub content_shallow : ℕ → Item → Bool
content_shallow budget x = header_shallow budget (if is_array (out-Item x) then four_of (inner x) else None)

four_deep : (budget levels : ℕ) (ss : List Spot) → AllByRecursion (Good levels) ss → is_none (header_deep budget (four_of ss)) ≡ header_shallow budget (four_of (map spot_item ss))
four_deep budget levels [] h = refl
four_deep budget levels (a ∷ []) h = refl
four_deep budget levels (a ∷ b ∷ []) h = refl
four_deep budget levels (a ∷ b ∷ c ∷ []) h = refl
four_deep budget levels (a ∷ b ∷ c ∷ d ∷ []) h = deep_same budget (levels - 1) (spot_parts b) (parts_good levels b h.1.0) ∙ ap (shallow budget) (items_are levels b h.1.0)
four_deep budget levels (a ∷ b ∷ c ∷ d ∷ e ∷ ss) h = refl

content_same : (budget levels : ℕ) (s : Spot) → Good levels s → is_none (content_deep budget s) ≡ content_shallow budget (spot_item s)
content_same budget levels s g = go (is_array (out-Item (spot_item s))) (spot_parts s) (inner (spot_item s)) (parts_good levels s g) (items_are levels s g)
  where
    go : (b : Bool) (ss : List Spot) (xs : List Item) → AllByRecursion (Good (levels - 1)) ss → map spot_item ss ≡ xs → is_none (header_deep budget (cond b (four_of ss) None)) ≡ header_shallow budget (cond b (four_of xs) None)
    go false ss xs h e = refl
    go true ss xs h e = four_deep budget (levels - 1) ss h ∙ ap (λ (ys : List Item). header_shallow budget (four_of ys)) e

abbrev pub first_in : List Item → Option Item
first_in [] = None
first_in (x ∷ xs) = Some x

abbrev pub tagged_shallow : Item → Option Item → Bool
tagged_shallow x None = content_shallow 11 x
tagged_shallow x (Some content) = content_shallow 10 content

abbrev pub entry_shallow : Item → Bool
entry_shallow x = tagged_shallow x (if is_tag 18 (out-Item x) then first_in (inner x) else None)

entry_same : (levels : ℕ) (s : Spot) → Good levels s → is_none (deep_entry s) ≡ entry_shallow (spot_item s)
unfolding deep_entry
entry_same levels s g = go (is_tag 18 (out-Item (spot_item s))) (spot_parts s) (inner (spot_item s)) (parts_good levels s g) (items_are levels s g)
  where
    first : (ss : List Spot) → AllByRecursion (Good (levels - 1)) ss → is_none (tagged_deep s (head_of ss)) ≡ tagged_shallow (spot_item s) (first_in (map spot_item ss))
    first [] h = content_same 11 levels s g
    first (q ∷ ss) h = content_same 10 (levels - 1) q h.0

    go : (b : Bool) (ss : List Spot) (xs : List Item) → AllByRecursion (Good (levels - 1)) ss → map spot_item ss ≡ xs → is_none (tagged_deep s (cond b (head_of ss) None)) ≡ tagged_shallow (spot_item s) (cond b (first_in xs) None)
    go false ss xs h e = content_same 11 levels s g
    go true ss xs h e = first ss h ∙ ap (λ (ys : List Item). tagged_shallow (spot_item s) (first_in ys)) e

-- the entry that an item and its bytes are
abbrev pub entry_by : Item → List ℕ → Option Entry
entry_by x raw = if entry_shallow x then (sign1_in x >>= signed_entry raw) else None

pub inside_by : (levels : ℕ) (s : Spot) → Good levels s → entry_inside s ≡ entry_by (spot_item s) (spot_raw s)
unfolding entry_seen
inside_by levels s g = ap (λ (b : Bool). if b then (sign1_in (spot_item s) >>= signed_entry (spot_raw s)) else None) (entry_same levels s g)

-- an envelope without pairs has nothing too deep in it
pub sign_shallow : (sign : Sign1) → sign.unprotected ≡ [] → entry_shallow (item_of_sign1 sign) ≡ true
unfolding shallow
sign_shallow sign none =
    let array = items.Array (items.Bytes sign.protected ∷ items.Map sign.unprotected ∷ items.Bytes sign.payload ∷ items.Bytes sign.sig ∷ []) in
    rw (items.outs-Tag 18 array, items.outs-Array (items.Bytes sign.protected ∷ items.Map sign.unprotected ∷ items.Bytes sign.payload ∷ items.Bytes sign.sig ∷ []), none, items.outs-Map []) refl

-- ---- an item that stands at a place with its bytes

pub record Placed (levels : ℕ) (x : Item) (text : List ℕ) (s : Spot) : Type 0 where
  pub level : s.levels ≡ levels
  pub rest : List ℕ
  pub bytes : s.tail ≡ text ++ rest
  pub spelled : SpellsWithin false levels x text
  pub small : length s.tail < 2 ^ 64
  pub fits : IsBytes s.tail

pub placed_is : (levels : ℕ) (x : Item) (text : List ℕ) (s : Spot) (p : Placed levels x text s) → SpotIs s x text p.rest
placed_is levels x text s p = spot_is s x text p.rest (subst (λ k. SpellsWithin false k x text) (sym p.level) p.spelled) p.bytes

pub placed_good : (levels : ℕ) (x : Item) (text : List ℕ) (s : Spot) → Placed levels x text s → Good levels s
placed_good levels x text s p =
    let is = placed_is levels x text s p in
    let here : SpellsWithin false s.levels x text = subst (λ k. SpellsWithin false k x text) (sym p.level) p.spelled in
    record {
      level = p.level;
      spelled = record {
        rest = p.rest;
        bytes = p.bytes ∙ ap (λ t. t ++ p.rest) (sym is.raw);
        spelled = subst (λ y. SpellsWithin false s.levels y (spot_raw s)) (sym is.item) (subst (SpellsWithin false s.levels x) (sym is.raw) here);
      };
      small = p.small;
      fits = p.fits;
    }

-- ---- rows of items with their bytes

abbrev pub Texts : Type 0
Texts = List (Item × List ℕ)

abbrev pub items_of : Texts → List Item
items_of ps = map (λ p. p.0) ps

abbrev pub texts : Texts → List ℕ
texts [] = []
texts (p ∷ ps) = p.1 ++ texts ps

abbrev pub AreSpelled : ℕ → Texts → Type 0
AreSpelled levels ps = AllByRecursion (λ p. SpellsWithin false levels p.0 p.1) ps

abbrev pub ArePlaced : ℕ → Texts → List Spot → Type 0
ArePlaced levels [] [] = Unit {0}
ArePlaced levels [] (s ∷ ss) = ⊥
ArePlaced levels (p ∷ ps) [] = ⊥
ArePlaced levels (p ∷ ps) (s ∷ ss) = Placed levels p.0 p.1 s × ArePlaced levels ps ss

row_spelled : (levels : ℕ) (any : List Item) (ps : Texts) → AreSpelled levels ps → SpellsRow (λ before. SpellsWithin false levels) any (items_of ps) (texts ps)
unfolding SpellsRow
row_spelled levels any [] h = refl
row_spelled levels any (p ∷ ps) h = (p.1, texts ps, h.0, row_spelled levels (any ++ p.0 ∷ []) ps h.1, refl)

counted_placed : (levels : ℕ) (ps : Texts) (s : Spot) (rest : List ℕ) → s.levels ≡ levels → AreSpelled levels ps → s.tail ≡ texts ps ++ rest → length s.tail < 2 ^ 64 → IsBytes s.tail → ArePlaced levels ps (counted_spots (length ps) s)
unfolding counted_spots
counted_placed levels [] s rest level h e small fits = tt
counted_placed levels (p ∷ ps) s rest level h e small fits =
    let here : Placed levels p.0 p.1 s = record { level = level; rest = texts ps ++ rest; bytes = e ∙ append_assoc p.1 (texts ps) rest; spelled = h.0; small = small; fits = fits } in
    let good = placed_good levels p.0 p.1 s here in
    (here, counted_placed levels ps (spot_next s) rest level h.1 (placed_is levels p.0 p.1 s here).end (next_small levels s good) (next_fits levels s good))

-- ---- arrays with a definite length

made : (m : Major) (form : Size) (n : ℕ) → FitsIn form n → is_shortest form n ≡ true → IsHead false m n (head (code m) n)
made m form n fits short = record { form = form; fits = fits; shortest = λ e. short; bytes = sym (shortest_is m form n fits short) }

pub head_small : (m : Major) (n : ℕ) → n < 2 ^ 8 → IsHead false m n (head (code m) n)
head_small m n few = elim (cases_lt n 24) [
  | inl a ↦ made m size.Inside n a refl
  | inr a ↦ made m size.One n few (le-leb 24 n a)
]

abbrev pub array_text : Texts → List ℕ
array_text ps = head 4 (length ps) ++ texts ps

pub array_spelled : (levels : ℕ) (ps : Texts) → length ps < 2 ^ 8 → AreSpelled levels ps → SpellsWithin false (suc levels) (items.Array (items_of ps)) (array_text ps)
unfolding SpellsWithin
array_spelled levels ps few h =
    subst (λ f. SpellsLayer false (SpellsWithin false levels) f (array_text ps)) (sym (items.outs-Array (items_of ps))) (inl (record {
      head = head 4 (length ps);
      row = texts ps;
      has_head = subst (λ n. IsHead false major.Array n (head 4 (length ps))) (sym (length_map (λ (p : Item × List ℕ). p.0) ps)) (head_small major.Array (length ps) few);
      has_row = row_spelled levels [] ps h;
      bytes = refl;
    }))

pub array_parts : (levels : ℕ) (ps : Texts) (x : Item) (s : Spot) → length ps < 2 ^ 8 → AreSpelled levels ps → Placed (suc levels) x (array_text ps) s → ArePlaced levels ps (spot_parts s)
array_parts levels ps x s few h p =
    let mid = texts ps ++ p.rest in
    let bytes : s.tail ≡ head 4 (length ps) ++ mid = p.bytes ∙ append_assoc (head 4 (length ps)) (texts ps) p.rest in
    let q : Spot = record { at = s.at + (length s.tail - length mid); levels = s.levels - 1; tail = mid } in
    let parts : spot_parts s ≡ counted_spots (length ps) q = ap (parts_behind s) (ap (head_at 0) bytes ∙ head_reads major.Array (length ps) (head 4 (length ps)) mid (head_small major.Array (length ps) few) 0) in
    let level : s.levels - 1 ≡ levels = omega (arith, p.level) in
    let small : length mid < 2 ^ 64 = omega (arith, p.small, ap length bytes, length-append (head 4 (length ps)) mid) in
    let fits : IsBytes mid = bytes_back (head 4 (length ps)) mid (subst IsBytes bytes p.fits) in
    subst (ArePlaced levels ps) (sym parts) (counted_placed levels ps q p.rest level h refl small fits)

-- The places of parts, and the cursors that stand there.
use Rattle.std.proofs.Common.{◌≡◌, ℕ, zero, suc, ◌+◌, ◌-◌, ◌^◌, ◌<◌, ◌≤◌, true, false, List, [], ◌∷◌, ◌++◌, length, map, take, drop, min, Option, Some, None, Ok, refl, sym, ap, subst, ◌∙◌, append_assoc, arith}
use Rattle.std.specs.List.{AllByRecursion}
use Rattle.std.proofs.lemmas.List.{length-append, append-nil, take_at, drop_at}
use Rattle.cbor_core.specs.declared.cursor.Cursor.{Cursor}
use Rattle.cbor_core.specs.declared.cursor.Left.{Left}
use Rattle.cbor_core.specs.declared.cursor.Left.TheVariants as left
use Rattle.cbor_core.specs.declared.cursor.Entry.{Entry}
use Rattle.cbor_core.specs.declared.cursor.Entry.TheVariants as entry
use Rattle.cbor_core.specs.declared.head.Head.{Head}
use Rattle.cbor_core.specs.declared.item.Item.{Item}
use Rattle.cbor_core.specs.Deterministic.{det}
use Rattle.cbor_core.specs.Norm.{norm, IsFit}
use Rattle.cbor_core.specs.Reading.{breaks, head_at, item_at, first_item}
use Rattle.cbor_core.specs.Spelling.{SpellsRow, SpellsWithin}
use Rattle.cbor_core.specs.Parts.{entry_of, inner, Ends, Stands, Next}
use Rattle.cbor_core.specs.Spots.{Spot, start, item_in_read, end_in_read, spot_item, spot_end, spot_size, spot_raw, spot_next, counted_spots, open_spots, spots_left, spots_behind, parts_behind, spot_parts, cursor_spot, cursor_later, IsPlaced, IsFirst, IsSpelled, HasParts, Standing, first_of, spots_of}
use Rattle.cbor_core.proofs.Bytes.{ok_is}
use Rattle.cbor_core.proofs.Fits.{fit_spells}
use Rattle.cbor_core.proofs.Loose.{loosely}
use Rattle.cbor_core.proofs.Again.{item_again, item_some}
use Rattle.cbor_core.proofs.PartLaws.{First, FirstIn, Holds, begins, drop_add, entered, stands_enters, spelled_enters}

-- ---- what a spelled item says of its place

pub record SpotIs (s : Spot) (x : Item) (text rest : List ℕ) : Type 0 where
  pub item : spot_item s ≡ x
  pub end : spot_end s ≡ rest
  pub size : spot_size s ≡ length text
  pub raw : spot_raw s ≡ text

pub spot_is : (s : Spot) (x : Item) (text rest : List ℕ) → SpellsWithin false s.levels x text → s.tail ≡ text ++ rest → SpotIs s x text rest
spot_is s x text rest h e =
    let read : item_at false 0 s.levels s.tail ≡ Ok (x, rest) = ap (item_at false 0 s.levels) e ∙ item_again false 0 s.levels x text rest h in
    let end : spot_end s ≡ rest = ap end_in_read read in
    let size : spot_size s ≡ length text = omega (arith, ap length e, ap length end, length-append text rest) in
    record {
      item = ap item_in_read read;
      end = end;
      size = size;
      raw = ap (λ k. take k s.tail) size ∙ ap (take (length text)) e ∙ take_at text rest (length text) refl;
    }

-- ---- rows

-- what holds of the places of a row that is spelled
pub record RowIs (xs : List Item) (s : Spot) : Type 0 where
  pub items : map spot_item (counted_spots (length xs) s) ≡ xs
  pub spelled : AllByRecursion IsSpelled (counted_spots (length xs) s)

pub row_is : (any xs : List Item) (row rest : List ℕ) (s : Spot) → SpellsRow (λ before. SpellsWithin false s.levels) any xs row → s.tail ≡ row ++ rest → RowIs xs s
unfolding SpellsRow counted_spots
row_is any [] row rest s h e = record { items = refl; spelled = tt }
row_is any (x ∷ xs) row rest s h e =
    let bytes : s.tail ≡ h.0 ++ (h.1 ++ rest) = e ∙ ap (λ t. t ++ rest) h.4 ∙ append_assoc h.0 h.1 rest in
    let is = spot_is s x h.0 (h.1 ++ rest) h.2 bytes in
    let later = row_is (any ++ x ∷ []) xs h.1 rest (spot_next s) h.3 is.end in
    record {
      items = rw (is.item, later.items) refl;
      spelled = (
        record {
          rest = h.1 ++ rest;
          bytes = bytes ∙ ap (λ t. t ++ (h.1 ++ rest)) (sym is.raw);
          spelled = subst (λ y. SpellsWithin false s.levels y (spot_raw s)) (sym is.item) (subst (SpellsWithin false s.levels x) (sym is.raw) h.2);
        },
        later.spelled,
      );
    }

-- up to a break stand as many as the row has
pub open_is : (turns : ℕ) (any xs : List Item) (row more : List ℕ) (s : Spot) → SpellsRow (λ before. SpellsWithin false s.levels) any xs row → s.tail ≡ row ++ 255 ∷ more
    → length s.tail ≤ turns → open_spots turns s ≡ counted_spots (length xs) s
unfolding SpellsRow counted_spots open_spots
open_is zero any [] row more s h e enough = refl
open_is (suc turns) any [] row more s h e enough =
    let stops : breaks s.tail ≡ true = ap breaks (e ∙ ap (λ t. t ++ 255 ∷ more) h) in
    rw stops refl
open_is zero any (x ∷ xs) row more s h e enough = absurd (omega (arith, ap length e, length-append row (255 ∷ more)))
open_is (suc turns) any (x ∷ xs) row more s h e enough =
    let bytes : s.tail ≡ h.0 ++ (h.1 ++ 255 ∷ more) = e ∙ ap (λ t. t ++ 255 ∷ more) h.4 ∙ append_assoc h.0 h.1 (255 ∷ more) in
    let goes : breaks s.tail ≡ false = ap breaks bytes ∙ begins s.levels x h.0 (h.1 ++ 255 ∷ more) h.2 in
    let is = spot_is s x h.0 (h.1 ++ 255 ∷ more) h.2 bytes in
    let some : 1 ≤ length h.0 = long s.levels x h.0 h.2 in
    let later = open_is turns (any ++ x ∷ []) xs h.1 more (spot_next s) h.3 is.end (omega (arith, ap length bytes, length-append h.0 (h.1 ++ 255 ∷ more), ap length is.end)) in
    rw (goes, later) refl
  where
    long : (levels : ℕ) (x : Item) (text : List ℕ) → SpellsWithin false levels x text → 1 ≤ length text
    long levels x [] h = absurd (item_some false 0 levels (x, []) (item_again false 0 levels x [] [] h))
    long levels x (b ∷ text) h = omega arith

pub left_is : (l : Left) (xs : List Item) (row rest : List ℕ) (s : Spot) → SpellsRow (λ before. SpellsWithin false s.levels) [] xs row → Ends l xs rest → s.tail ≡ row ++ rest → spots_left l s ≡ counted_spots (length xs) s
left_is (left.Counted n) xs row rest s h ends e = ap (λ k. counted_spots k s) ends
left_is left.ToBreak xs row rest s h ends e = open_is (length s.tail) [] xs row ends.0 s h (e ∙ ap (λ t. row ++ t) ends.1) (omega arith)

-- ---- cursors

pub stands_spot : (c : Cursor) (input : List ℕ) (x : Item) (text : List ℕ) (later : List Item) (s : Stands c input x text later) → SpotIs (cursor_spot c) x text (s.row ++ s.rest)
stands_spot c input x text later s = spot_is (cursor_spot c) x text (s.row ++ s.rest) s.spelled s.bytes

pub later_is : (c : Cursor) (input : List ℕ) (x : Item) (text : List ℕ) (later : List Item) → Stands c input x text later → cursor_later c ≡ counted_spots (length later) (spot_next (cursor_spot c))
later_is c input x text later s = left_is c.left later s.row s.rest (spot_next (cursor_spot c)) s.has_row s.ends (stands_spot c input x text later s).end

-- where a move led
record Led (levels at : ℕ) (tail : List ℕ) (c : Cursor) : Type 0 where
  pub led_tail : c.tail.now ≡ tail
  pub led_levels : c.levels ≡ levels

led_by : (levels at : ℕ) (l : Left) (tail : List ℕ) (c : Cursor) → First levels at l tail (Some c) → Led levels at tail c
led_by levels at (left.Counted zero) tail c first = absurd (cc (first.0 refl))
led_by levels at (left.Counted (suc n)) tail c first = let m = first.1 (omega arith) in record { led_tail = m.0; led_levels = m.2 }
led_by levels at left.ToBreak tail c first = go (breaks tail) refl
  where
    go : (b : _) → breaks tail ≡ b → Led levels at tail c
    go true e = absurd (cc (first.0 e))
    go false e = let m = first.1 e in record { led_tail = m.0; led_levels = m.2 }

led_in : (levels at : ℕ) (e : Entry) (tail : List ℕ) (c : Cursor) → FirstIn levels at e tail (Some c) → Led levels at tail c
led_in levels at entry.Leaf tail c first = absurd (cc first)
led_in levels at (entry.Counted n) tail c first = led_by levels at (left.Counted n) tail c first
led_in levels at entry.ToBreak tail c first = led_by levels at left.ToBreak tail c first

abbrev LedTo : ℕ → ℕ → List ℕ → Option Cursor → Type 0
LedTo levels at tail None = Unit {0}
LedTo levels at tail (Some c) = Led levels at tail c

moves : (input : List ℕ) (s : Spot) (xs : List Item) (o : Option Cursor) → Next input s.at xs o → LedTo s.levels s.at s.tail o → IsFirst (counted_spots (length xs) s) o
unfolding counted_spots
moves input s [] None n led = tt
moves input s [] (Some c) n led = absurd n
moves input s (y ∷ ys) None n led = absurd n
moves input s (y ∷ ys) (Some c) n led =
    let same : cursor_spot c ≡ s = rw (n.2, led.led_levels, led.led_tail) refl in (
      record { input = input; item = y; text = n.0; later = ys; stands = n.1 },
      same,
      later_is c input y n.0 ys n.1 ∙ ap (λ t. counted_spots (length ys) (spot_next t)) same,
    )

pub after_first : (c : Cursor) (input : List ℕ) (x : Item) (text : List ℕ) (later : List Item) → Stands c input x text later → (at : ℕ) (end : List ℕ) (o : Option Cursor)
    → end ≡ spot_end (cursor_spot c) → Next input (c.at + length text) later o → First c.levels at c.left end o → IsFirst (cursor_later c) o
after_first c input x text later s at end o e next first =
    let is = stands_spot c input x text later s in
    let here : Next input (c.at + spot_size (cursor_spot c)) later o = subst (λ k. Next input (c.at + k) later o) (sym is.size) next in
    subst (λ ss. IsFirst ss o) (sym (later_is c input x text later s)) (moves input (spot_next (cursor_spot c)) later o here (led o (subst (λ t. First c.levels at c.left t o) e first)))
  where
    led : (o : Option Cursor) → First c.levels at c.left (spot_end (cursor_spot c)) o → LedTo c.levels (c.at + spot_size (cursor_spot c)) (spot_end (cursor_spot c)) o
    led None first = tt
    led (Some d) first = let l = led_by c.levels at c.left (spot_end (cursor_spot c)) d first in record { led_tail = l.led_tail; led_levels = l.led_levels }

-- ---- what is inside

holds_is : (e : Entry) (xs : List Item) (q : Spot) → Holds q.levels e xs q.tail → spots_behind e q ≡ counted_spots (length xs) q
unfolding counted_spots
holds_is entry.Leaf xs q h = rw h refl
holds_is (entry.Counted n) xs q h = ap (λ k. counted_spots k q) h.ends
holds_is entry.ToBreak xs q h = open_is (length q.tail) [] xs h.row h.ends.0 q h.has_row (h.bytes ∙ ap (λ t. h.row ++ t) h.ends.1) (omega arith)

holds_row : (e : Entry) (xs : List Item) (q : Spot) → Holds q.levels e xs q.tail → RowIs xs q
unfolding counted_spots
holds_row entry.Leaf xs q h = subst (λ ys. RowIs ys q) (sym h) (record { items = refl; spelled = tt })
holds_row (entry.Counted n) xs q h = row_is [] xs h.row h.rest q h.has_row h.bytes
holds_row entry.ToBreak xs q h = row_is [] xs h.row h.rest q h.has_row h.bytes

-- the place behind a head
abbrev behind : Spot → List ℕ → Spot
behind s rest = record { at = s.at + (length s.tail - length rest); levels = s.levels - 1; tail = rest }

pub has_parts : (s : Spot) → IsSpelled s → length s.tail < 2 ^ 64 → HasParts s
has_parts s h small =
    let en = spelled_enters s.levels (spot_item s) (spot_raw s) h.rest (omega (arith, ap length h.bytes)) h.spelled in
    let reads : head_at 0 s.tail ≡ Ok (en.head, en.mid) = ap (head_at 0) h.bytes ∙ en.reads 0 in
    let parts : spot_parts s ≡ counted_spots (length (inner (spot_item s))) (behind s en.mid) = ap (parts_behind s) reads ∙ holds_is (entry_of en.head) (inner (spot_item s)) (behind s en.mid) en.holds in
    let row = holds_row (entry_of en.head) (inner (spot_item s)) (behind s en.mid) en.holds in
    record { items = ap (map spot_item) parts ∙ row.items; spelled = subst (AllByRecursion IsSpelled) (sym parts) row.spelled }

pub inside_first : (c : Cursor) (input : List ℕ) (x : Item) (text : List ℕ) (later : List Item) → Stands c input x text later → (head : Head) (rest : List ℕ) (at levels : ℕ) (o : Option Cursor)
    → head_at 0 c.tail.now ≡ Ok (head, rest) → at ≡ min (c.at + (length c.tail.now - length rest)) (2 ^ 64 - 1) → levels ≡ c.levels - 1 → FirstIn levels at (entry_of head) rest o → IsFirst (spot_parts (cursor_spot c)) o
inside_first c input x text later s head rest at levels o reads a l first =
    let en = stands_enters c input x text later s in
    let same = ok_is (en.head, en.mid) (head, rest) (sym (en.reads 0) ∙ reads) in
    let head-is : en.head ≡ head = ap (λ (p : Head × List ℕ). p.0) same in
    let mid-is : en.mid ≡ rest = ap (λ (p : Head × List ℕ). p.1) same in
    let parts : c.tail.now ≡ en.front ++ rest = en.parts ∙ ap (λ t. en.front ++ t) mid-is in
    let len : length c.tail.now ≡ length en.front + length rest = ap length parts ∙ length-append en.front rest in
    let q = behind (cursor_spot c) rest in
    let here : at ≡ q.at = a ∙ omega (arith, s.within, s.small) in
    let far : c.at + length en.front ≡ q.at = omega arith in
    let place : rest ≡ drop q.at input = sym (drop_at en.front rest (length en.front) refl) ∙ ap (drop (length en.front)) (sym parts ∙ s.place) ∙ drop_add (length en.front) c.at input ∙ ap (λ k. drop k input) far in
    let holds : Holds (c.levels - 1) (entry_of head) (inner x) rest = subst (λ m. Holds (c.levels - 1) (entry_of head) (inner x) m) mid-is (subst (λ h. Holds (c.levels - 1) (entry_of h) (inner x) en.mid) head-is en.holds) in
    let led : FirstIn (c.levels - 1) q.at (entry_of head) rest o = subst (λ k. FirstIn (c.levels - 1) k (entry_of head) rest o) here (subst (λ k. FirstIn k at (entry_of head) rest o) l first) in
    let next : Next input q.at (inner x) o = entered input q.at (c.levels - 1) (entry_of head) (inner x) rest o holds place (omega (arith, s.within)) s.small led in
    subst (λ ss. IsFirst ss o) (sym (ap (parts_behind (cursor_spot c)) reads ∙ holds_is (entry_of head) (inner x) q holds)) (moves input q (inner x) o next (go o led))
  where
    go : (o : Option Cursor) → FirstIn (c.levels - 1) (c.at + (length c.tail.now - length rest)) (entry_of head) rest o → LedTo (c.levels - 1) (c.at + (length c.tail.now - length rest)) rest o
    go None first = tt
    go (Some d) first = led_in (c.levels - 1) (c.at + (length c.tail.now - length rest)) (entry_of head) rest d first

-- ---- the outermost item

pub none_spots : (s : Spot) → counted_spots 0 s ≡ []
unfolding counted_spots
none_spots s = refl

pub opened_first : (c : Cursor) (bytes : List ℕ) (x : Item) (n : ℕ) → first_item false bytes ≡ Ok (x, n) → Stands c bytes x (take n bytes) [] → cursor_spot c ≡ start bytes → first_item false bytes ≡ Ok (spot_item (start bytes), n)
opened_first c bytes x n read s is =
    let item : spot_item (start bytes) ≡ x = ap spot_item (sym is) ∙ (stands_spot c bytes x (take n bytes) [] s).item in
    read ∙ ap (λ (y : Item). Ok (y, n)) (sym item)

-- ---- parts

abbrev standing_of : Cursor → Standing
standing_of c = record { spot = cursor_spot c; later = cursor_later c }

pub placed_item : (c : Cursor) (p : IsPlaced c) (s : Standing) → standing_of c ≡ s → spot_item s.spot ≡ p.item
placed_item c p s e = ap (λ (m : Standing). spot_item m.spot) (sym e) ∙ (stands_spot c p.input p.item p.text p.later p.stands).item

pub placed_raw : (c : Cursor) (p : IsPlaced c) (s : Standing) → standing_of c ≡ s → spot_raw s.spot ≡ p.text
placed_raw c p s e = ap (λ (m : Standing). spot_raw m.spot) (sym e) ∙ (stands_spot c p.input p.item p.text p.later p.stands).raw

-- ---- what is written

pub written_spelled : (x : Item) (bytes : List ℕ) → IsFit x → bytes ≡ det x → IsSpelled (start bytes) × (spot_item (start bytes) ≡ norm x)
written_spelled x bytes fit e =
    let h : SpellsWithin false 16 (norm x) bytes = loosely 16 (norm x) bytes (subst (SpellsWithin true 16 (norm x)) (sym e) (fit_spells 16 x fit)) in
    let is = spot_is (start bytes) (norm x) bytes [] h (sym (append-nil bytes)) in (
      record {
        rest = [];
        bytes = sym (append-nil (spot_raw (start bytes)) ∙ is.raw);
        spelled = subst (λ y. SpellsWithin false 16 y (spot_raw (start bytes))) (sym is.item) (subst (SpellsWithin false 16 (norm x)) (sym is.raw) h);
      },
      is.item,
    )

pub placed_parts : (c : Cursor) (p : IsPlaced c) (s : Standing) → standing_of c ≡ s → map spot_item (spot_parts s.spot) ≡ inner (spot_item s.spot)
placed_parts c p s e =
    let h = p.stands in
    let is = stands_spot c p.input p.item p.text p.later h in
    let spelled : IsSpelled (cursor_spot c) = record {
      rest = h.row ++ h.rest;
      bytes = h.bytes ∙ ap (λ t. t ++ (h.row ++ h.rest)) (sym is.raw);
      spelled = subst (λ y. SpellsWithin false c.levels y (spot_raw (cursor_spot c))) (sym is.item) (subst (SpellsWithin false c.levels p.item) (sym is.raw) h.spelled);
    } in
    subst (λ (m : Standing). map spot_item (spot_parts m.spot) ≡ inner (spot_item m.spot)) e (has_parts (cursor_spot c) spelled (omega (arith, h.within, h.small))).items

pub spots_first : (ss : List Spot) → spots_of (first_of ss) ≡ ss
spots_first [] = refl
spots_first (s ∷ ss) = refl

pub none_left : (ss : List Spot) (o : Option Standing) → o ≡ first_of ss → o ≡ None → ss ≡ []
none_left [] o e n = refl
none_left (s ∷ ss) o e n = absurd (cc (e, n))

pub some_left : (ss : List Spot) (o : Option Standing) (p : Standing) → o ≡ first_of ss → o ≡ Some p → ss ≡ p.spot ∷ p.later
some_left [] o p e n = absurd (cc (e, n))
some_left (s ∷ ss) o p e n =
    let same : record { spot = s; later = ss } ≡ p = cc (e, n) in
    ap (λ (q : Standing). q.spot ∷ q.later) same

-- nothing follows the last
pub last_first : (c : Cursor) (n : ℕ) → c.left ≡ left.Counted n → n ≡ 0 → IsFirst (cursor_later c) None
unfolding counted_spots
last_first c n e zero-is = subst (λ (l : Left). IsFirst (spots_left l (spot_next (cursor_spot c))) None) (sym (e ∙ ap left.Counted zero-is)) tt

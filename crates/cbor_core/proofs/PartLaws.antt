-- Where a cursor stands, and where its moves lead.
use Rattle.std.proofs.Common.{◌≡◌, ℕ, zero, suc, ◌+◌, ◌-◌, ◌*◌, ◌^◌, ◌<◌, ◌≤◌, min, true, false, cond, ltb, List, [], ◌∷◌, ◌++◌, length, take, drop, flat_map, Option, Some, None, Result, Ok, Err, refl, sym, ap, subst, ◌∙◌, append_assoc, arith, inl, inr}
use Rattle.std.specs.Prelude.{IsNone, IsSomeAnd}
use Rattle.std.proofs.lemmas.Bool.{le-ltb}
use Rattle.std.proofs.lemmas.List.{length-append, append-nil, take_at, drop_at, take-append-drop}
use Rattle.cbor_core.specs.declared.cursor.Cursor.{Cursor}
use Rattle.cbor_core.specs.declared.cursor.Left.{Left}
use Rattle.cbor_core.specs.declared.cursor.Left.TheVariants as left
use Rattle.cbor_core.specs.declared.cursor.Entry.{Entry}
use Rattle.cbor_core.specs.declared.cursor.Entry.TheVariants as entry
use Rattle.cbor_core.specs.declared.fault.CborFault.{CborFault}
use Rattle.cbor_core.specs.declared.fault.CborFault.TheVariants as fault
use Rattle.cbor_core.specs.declared.head.Major.{Major}
use Rattle.cbor_core.specs.declared.head.Major.TheVariants as major
use Rattle.cbor_core.specs.declared.head.Head.{Head}
use Rattle.cbor_core.specs.declared.head.Head.TheVariants as heads
use Rattle.cbor_core.specs.declared.item.Item.{Item, out-Item}
use Rattle.cbor_core.specs.declared.item.Item.TheOpen.{Item-F}
use Rattle.cbor_core.specs.Reading.{Read, ◌>>=◌, Fails, breaks, head_at, item_at, first_item}
use Rattle.cbor_core.specs.Passing.{pass_at}
use Rattle.cbor_core.specs.Spelling.{code, is_shortest, IsHead, SpellsRow, IsPair, SpellsLayer, SpellsWithin, IsString, IsChunked}
use Rattle.cbor_core.specs.Parts.{inner_in, inner, entry_of, head_major, head_number, major_in, number_in, content_in, StringContent, ContentOf, Ends, Stands, Next, Inside}
use Rattle.cbor_core.proofs.Bytes.{IsBytes, ok_is}
use Rattle.cbor_core.proofs.Heads.{head_again, open_again, simple_again, no_break}
use Rattle.cbor_core.proofs.Again.{item_again, item_starts, err_not_ok}
use Rattle.cbor_core.proofs.Passes.{Passes, item_passes}
use Rattle.cbor_core.proofs.Lengths.{row_count}
use Rattle.cbor_core.proofs.Readings.{first_found}

-- ---- the end of an item

pub end_reads : (total levels : ℕ) (tail : List ℕ) (x : Item) (text rest : List ℕ) → SpellsWithin false levels x text → tail ≡ text ++ rest → pass_at false total levels tail ≡ Ok (tt, rest)
end_reads total levels tail x text rest h e =
    subst (Passes false (pass_at false total levels tail)) (ap (item_at false total levels) e ∙ item_again false total levels x text rest h) (item_passes false total levels tail)

abbrev Passed : Type 0
Passed = Unit {0} × List ℕ

pub end_found : (total levels : ℕ) (tail end : List ℕ) → pass_at false total levels tail ≡ Ok (tt, end) → (x : Item) (text rest : List ℕ) → SpellsWithin false levels x text → tail ≡ text ++ rest → end ≡ rest
end_found total levels tail end p x text rest h e =
    let here : Passed = (tt, end) in
    let there : Passed = (tt, rest) in
    ap (λ (q : Passed). q.1) (ok_is here there (sym p ∙ end_reads total levels tail x text rest h e))

pub end_stays : (total levels : ℕ) (tail end : List ℕ) (f : CborFault) → pass_at false total levels tail ≡ Err f → (x : Item) (text rest : List ℕ) → SpellsWithin false levels x text → tail ≡ text ++ rest → end ≡ rest
end_stays total levels tail end f p x text rest h e = absurd (err_not_ok (pass_at false total levels tail) f (tt, rest) p (end_reads total levels tail x text rest h e))

pub front_is : (tail text rest end : List ℕ) → tail ≡ text ++ rest → end ≡ rest → take (length tail - length end) tail ≡ text
front_is tail text rest end e f =
    let n : length tail - length end ≡ length text = omega (arith, ap length e, ap length f, length-append text rest) in
    ap (λ k. take k tail) n ∙ ap (take (length text)) e ∙ take_at text rest (length text) refl

pub item_is : (total levels : ℕ) (tail end : List ℕ) (y : Item) → item_at false total levels tail ≡ Ok (y, end) → (x : Item) (text rest : List ℕ) → SpellsWithin false levels x text → tail ≡ text ++ rest → y ≡ x
item_is total levels tail end y p x text rest h e =
    ap (λ (q : Item × List ℕ). q.0) (ok_is (y, end) (x, rest) (sym p ∙ ap (item_at false total levels) e ∙ item_again false total levels x text rest h))

-- ---- opening

-- what is taken of an input of n bytes
abbrev sized_by : ℕ → Item × List ℕ → Result (Item × ℕ) CborFault
sized_by n y = Ok (y.0, n - length y.1)

opened_by : (bytes rest : List ℕ) (r : Read Item) → Passes true (Ok (tt, rest)) r → (x : Item) × (r ≡ Ok (x, rest))
opened_by bytes rest (Ok x) h =
    let here : Passed = (tt, rest) in
    let there : Passed = (tt, x.1) in
    (x.0, ap (λ (t : List ℕ). Ok (x.0, t)) (sym (ap (λ (q : Passed). q.1) (ok_is here there h))))
opened_by bytes rest (Err f) h = absurd (cc (h refl))

pub opened : (bytes rest : List ℕ) → pass_at true (length bytes) 16 bytes ≡ Ok (tt, rest) → (x : Item) × (first_item false bytes ≡ Ok (x, length bytes - length rest))
opened bytes rest p =
    let o = opened_by bytes rest (item_at false (length bytes) 16 bytes) (subst (λ q. Passes true q (item_at false (length bytes) 16 bytes)) p (item_passes true (length bytes) 16 bytes)) in
    (o.0, ap (λ (r : Read Item). r >>= sized_by (length bytes)) o.1)

carries : {A B : Type 0} (f : CborFault) (r : Result A CborFault) (s : Result B CborFault) → ((g : CborFault) → r ≡ Err g → s ≡ Err g) → Fails f r → Fails f s
carries (fault.Truncated p) r s h e = h (fault.Truncated p) e
carries (fault.Malformed p) r s h e = h (fault.Malformed p) e
carries (fault.TooDeep p) r s h e = h (fault.TooDeep p) e
carries (fault.Duplicate p) r s h e = h (fault.Duplicate p) e
carries (fault.Float p) r s h e = h (fault.Float p) e
carries (fault.NotDeterministic p) r s h e = h (fault.NotDeterministic p) e
carries fault.NoMemory r s h e = tt

abbrev failed : CborFault → Read (Unit {0})
failed k = Err k

same_fault : (f g : CborFault) → failed f ≡ failed g → f ≡ g
same_fault f g e = cc

refused_by : (n : ℕ) (p : Read (Unit {0})) (r : Read Item) → Passes true p r → (g : CborFault) → p ≡ Err g → (r >>= sized_by n) ≡ Err g
refused_by n p (Ok x) h g e = absurd (err_not_ok p g (tt, x.1) e h)
refused_by n p (Err f) h g e = ap (λ (k : CborFault). Err k) (same_fault f g (sym (h refl) ∙ e))

pub refused : (bytes : List ℕ) (f : CborFault) → Fails f (pass_at true (length bytes) 16 bytes) → Fails f (first_item false bytes)
refused bytes f h = carries f (pass_at true (length bytes) 16 bytes) (first_item false bytes) (refused_by (length bytes) (pass_at true (length bytes) 16 bytes) (item_at false (length bytes) 16 bytes) (item_passes true (length bytes) 16 bytes)) h

-- ---- the next of a row

row_any : (spells : Item → List ℕ → Type 0) (a b xs : List Item) (row : List ℕ) → SpellsRow (λ before. spells) a xs row → SpellsRow (λ before. spells) b xs row
unfolding SpellsRow
row_any spells a b [] row h = h
row_any spells a b (x ∷ xs) row h = (h.0, h.1, h.2, row_any spells (a ++ x ∷ []) (b ++ x ∷ []) xs h.1 h.3, h.4)

pub begins : (levels : ℕ) (x : Item) (text rest : List ℕ) → SpellsWithin false levels x text → breaks (text ++ rest) ≡ false
begins levels x text rest h = no_break (text ++ rest) (λ more e. item_starts false 0 levels more (x, rest) (ap (item_at false 0 levels) (sym e) ∙ item_again false 0 levels x text rest h))

-- what a move answers where bytes begin a row
abbrev pub First : ℕ → ℕ → Left → List ℕ → Option Cursor → Type 0
First levels at (left.Counted n) tail o = (n ≡ 0 → IsNone o) × (0 < n → IsSomeAnd o (λ c. (c.tail.now ≡ tail) × (c.at ≡ at) × (c.levels ≡ levels) × (c.left ≡ left.Counted (n - 1))))
First levels at left.ToBreak tail o = (breaks tail ≡ true → IsNone o) × (breaks tail ≡ false → IsSomeAnd o (λ c. (c.tail.now ≡ tail) × (c.at ≡ at) × (c.levels ≡ levels) × (c.left ≡ left.ToBreak)))

none_next : (input : List ℕ) (at : ℕ) (o : Option Cursor) → IsNone o → Next input at [] o
none_next input at None h = tt
none_next input at (Some c) h = absurd (cc h)

some_next : (input : List ℕ) (at levels : ℕ) (l : Left) (tail row rest : List ℕ) (y : Item) (ys : List Item) (o : Option Cursor)
    → SpellsRow (λ before. SpellsWithin false levels) [] (y ∷ ys) row → Ends l ys rest → tail ≡ row ++ rest → tail ≡ drop at input → at + length tail ≡ length input → length input < 2 ^ 64
    → IsSomeAnd o (λ c. (c.tail.now ≡ tail) × (c.at ≡ at) × (c.levels ≡ levels) × (c.left ≡ l)) → Next input at (y ∷ ys) o
unfolding SpellsRow
some_next input at levels l tail row rest y ys None h ends e place within small o = absurd o
some_next input at levels l tail row rest y ys (Some c) h ends e place within small o = (
  h.0,
  record {
    row = h.1;
    rest = rest;
    spelled = subst (λ k. SpellsWithin false k y h.0) (sym o.2) h.2;
    has_row = subst (λ k. SpellsRow (λ before. SpellsWithin false k) [] ys h.1) (sym o.2) (row_any (SpellsWithin false levels) (y ∷ []) [] ys h.1 h.3);
    ends = subst (λ k. Ends k ys rest) (sym o.3) ends;
    bytes = o.0 ∙ e ∙ ap (λ t. t ++ rest) h.4 ∙ append_assoc h.0 h.1 rest;
    place = o.0 ∙ place ∙ ap (λ k. drop k input) (sym o.1);
    within = ap (λ k. k + length c.tail.now) o.1 ∙ ap (λ t. at + length t) o.0 ∙ within;
    small = small;
  },
  o.1,
)

pub row_next : (input : List ℕ) (at levels : ℕ) (l : Left) (later : List Item) (tail row rest : List ℕ) (o : Option Cursor)
    → SpellsRow (λ before. SpellsWithin false levels) [] later row → Ends l later rest → tail ≡ row ++ rest → tail ≡ drop at input → at + length tail ≡ length input → length input < 2 ^ 64
    → First levels at l tail o → Next input at later o
unfolding SpellsRow
row_next input at levels (left.Counted n) [] tail row rest o h ends e place within small first = none_next input at o (first.0 ends)
row_next input at levels left.ToBreak [] tail row rest o h ends e place within small first =
    none_next input at o (first.0 (rw (e, h, ends.1) refl))
row_next input at levels (left.Counted n) (y ∷ ys) tail row rest o h ends e place within small first =
    some_next input at levels (left.Counted (n - 1)) tail row rest y ys o h (omega (arith, ends)) e place within small (first.1 (omega (arith, ends)))
row_next input at levels left.ToBreak (y ∷ ys) tail row rest o h ends e place within small first =
    some_next input at levels left.ToBreak tail row rest y ys o h ends e place within small
    (first.1 (ap breaks (e ∙ ap (λ t. t ++ rest) h.4 ∙ append_assoc h.0 h.1 rest) ∙ begins levels y h.0 (h.1 ++ rest) h.2))

drop_none : {A : Type 0} (k : ℕ) → drop {A = A} k [] ≡ []
drop_none zero = refl
drop_none (suc k) = refl

pub drop_add : {A : Type 0} (a b : ℕ) (xs : List A) → drop a (drop b xs) ≡ drop (b + a) xs
drop_add a zero xs = ap (λ k. drop k xs) (omega arith)
drop_add a (suc b) [] = drop_none a ∙ sym (drop_none (suc b + a))
drop_add a (suc b) (x ∷ xs) =
    let more : suc b + a ≡ suc (b + a) = omega arith in
    rw more (drop_add a b xs)

-- a cursor moved behind a front of its bytes
pub after_next : (c : Cursor) (input : List ℕ) (x : Item) (text : List ℕ) (later : List Item) (s : Stands c input x text later) (end : List ℕ) (at : ℕ) (o : Option Cursor)
    → end ≡ s.row ++ s.rest → at ≡ min (c.at + (length c.tail.now - length end)) (2 ^ 64 - 1) → First c.levels at c.left end o → Next input (c.at + length text) later o
after_next c input x text later s end at o e a first =
    let bytes : c.tail.now ≡ text ++ end = s.bytes ∙ ap (λ t. text ++ t) (sym e) in
    let len : length c.tail.now ≡ length text + length end = ap length bytes ∙ length-append text end in
    let here : at ≡ c.at + length text = a ∙ omega (arith, s.within, s.small) in
    let place : end ≡ drop (c.at + length text) input = sym (drop_at text end (length text) refl) ∙ ap (drop (length text)) (sym bytes ∙ s.place) ∙ drop_add (length text) c.at input in
    row_next input (c.at + length text) c.levels c.left later end s.row s.rest o s.has_row s.ends e place (omega (arith, s.within)) s.small (subst (λ k. First c.levels k c.left end o) here first)

-- ---- what is inside

pub record RowAt (levels : ℕ) (l : Left) (xs : List Item) (mid : List ℕ) : Type 0 where
  pub row : List ℕ
  pub rest : List ℕ
  pub has_row : SpellsRow (λ before. SpellsWithin false levels) [] xs row
  pub ends : Ends l xs rest
  pub bytes : mid ≡ row ++ rest

abbrev pub Holds : ℕ → Entry → List Item → List ℕ → Type 0
Holds levels entry.Leaf xs mid = xs ≡ []
Holds levels (entry.Counted n) xs mid = RowAt levels (left.Counted n) xs mid
Holds levels entry.ToBreak xs mid = RowAt levels left.ToBreak xs mid

pub record Enters (levels : ℕ) (f : Item-F Item) (tail : List ℕ) : Type 0 where
  pub head : Head
  pub front : List ℕ
  pub mid : List ℕ
  pub reads : (place : ℕ) → head_at place tail ≡ Ok (head, mid)
  pub parts : tail ≡ front ++ mid
  pub holds : Holds levels (entry_of head) (inner_in f) mid
  pub major : head_major head ≡ major_in f
  pub number : head_number head ≡ number_in f

-- a map's pairs as a row of keys and values
paired : (spells : Item → List ℕ → Type 0) (before : List (Item × Item)) (any : List Item) (ps : List (Item × Item)) (row : List ℕ) → SpellsRow (IsPair false spells) before ps row
    → SpellsRow (λ before. spells) any (flat_map (λ p. p.0 ∷ p.1 ∷ []) ps) row
unfolding SpellsRow
paired spells before any [] row h = h
paired spells before any (p ∷ ps) row h = (
  h.2.key,
  h.2.value ++ h.1,
  h.2.has_key,
  (h.2.value, h.1, h.2.has_value, paired spells (before ++ p ∷ []) ((any ++ p.0 ∷ []) ++ p.1 ∷ []) ps h.1 h.3, refl),
  h.4 ∙ ap (λ t. t ++ h.1) h.2.bytes ∙ append_assoc h.2.key h.2.value h.1,
)

doubled : (ps : List (Item × Item)) → length (flat_map (λ p. p.0 ∷ p.1 ∷ []) ps) ≡ length ps * 2
doubled [] = refl
doubled (p ∷ ps) = omega (arith, doubled ps)

one_row : (levels : ℕ) (x : Item) (text : List ℕ) → SpellsWithin false levels x text → SpellsRow (λ before. SpellsWithin false levels) [] (x ∷ []) text
unfolding SpellsRow
one_row levels x text h = (text, [], h, refl, sym (append-nil text))

pub head_reads : (m : Major) (n : ℕ) (head mid : List ℕ) (h : IsHead false m n head) (place : ℕ) → head_at place (head ++ mid) ≡ Ok (heads.Sized m (is_shortest h.form n) n, mid)
head_reads m n head mid h place = ap (λ t. head_at place (t ++ mid)) h.bytes ∙ head_again place m h.form n mid h.fits

sized_enters : (levels : ℕ) (f : Item-F Item) (m : Major) (n : ℕ) (head mid tail : List ℕ) (h : IsHead false m n head) → tail ≡ head ++ mid
    → Holds levels (entry_of (heads.Sized m (is_shortest h.form n) n)) (inner_in f) mid → code m ≡ major_in f → head_number (heads.Sized m (is_shortest h.form n) n) ≡ number_in f → Enters levels f tail
sized_enters levels f m n head mid tail h e holds major number = record {
  head = heads.Sized m (is_shortest h.form n) n;
  front = head;
  mid = mid;
  reads = λ place. ap (head_at place) e ∙ head_reads m n head mid h place;
  parts = e;
  holds = holds;
  major = major;
  number = number;
}

open_enters : (levels : ℕ) (f : Item-F Item) (m : Major) (mid tail : List ℕ) → tail ≡ (32 * code m + 31) ∷ mid → Holds levels (entry_of (heads.Open m)) (inner_in f) mid
    → code m ≡ major_in f → None ≡ number_in f → Enters levels f tail
open_enters levels f m mid tail e holds major number = record {
  head = heads.Open m;
  front = (32 * code m + 31) ∷ [];
  mid = mid;
  reads = λ place. ap (head_at place) e ∙ open_again place m mid;
  parts = e;
  holds = holds;
  major = major;
  number = number;
}

layer_enters : (levels : ℕ) (f : Item-F Item) (text after : List ℕ) → length (text ++ after) < 2 ^ 64 → SpellsLayer false (SpellsWithin false levels) f text → Enters levels f (text ++ after)
layer_enters levels (Item-F.Uint n) text after small h = sized_enters levels (Item-F.Uint n) major.Unsigned n text after (text ++ after) h refl refl refl refl
layer_enters levels (Item-F.Nint n) text after small h = sized_enters levels (Item-F.Nint n) major.Negative n text after (text ++ after) h refl refl refl refl
layer_enters levels (Item-F.Bytes b) text after small (inl h) = sized_enters levels (Item-F.Bytes b) major.Bytes (length b) h.head (b ++ after) (text ++ after) h.has_head (ap (λ t. t ++ after) h.bytes ∙ append_assoc h.head b after) refl refl refl
layer_enters levels (Item-F.Bytes b) text after small (inr h) = open_enters levels (Item-F.Bytes b) major.Bytes ((h.has_chunks.row ++ 255 ∷ []) ++ after) (text ++ after) (ap (λ t. t ++ after) h.has_chunks.bytes) refl refl refl
layer_enters levels (Item-F.Text b) text after small (inl h) = sized_enters levels (Item-F.Text b) major.Text (length b) h.head (b ++ after) (text ++ after) h.has_head (ap (λ t. t ++ after) h.bytes ∙ append_assoc h.head b after) refl refl refl
layer_enters levels (Item-F.Text b) text after small (inr h) = open_enters levels (Item-F.Text b) major.Text ((h.has_chunks.row ++ 255 ∷ []) ++ after) (text ++ after) (ap (λ t. t ++ after) h.has_chunks.bytes) refl refl refl
layer_enters levels (Item-F.Array xs) text after small (inl h) =
    sized_enters levels (Item-F.Array xs) major.Array (length xs) h.head (h.row ++ after) (text ++ after) h.has_head (ap (λ t. t ++ after) h.bytes ∙ append_assoc h.head h.row after)
    (record { row = h.row; rest = after; has_row = h.has_row; ends = refl; bytes = refl }) refl refl
layer_enters levels (Item-F.Array xs) text after small (inr h) =
    open_enters levels (Item-F.Array xs) major.Array ((h.row ++ 255 ∷ []) ++ after) (text ++ after) (ap (λ t. t ++ after) h.bytes)
    (record { row = h.row; rest = 255 ∷ after; has_row = h.has_row; ends = (after, refl); bytes = append_assoc h.row (255 ∷ []) after }) refl refl
layer_enters levels (Item-F.Map ps) text after small (inl h) =
    let flat = flat_map (λ (p : Item × Item). p.0 ∷ p.1 ∷ []) ps in
    let row = paired (SpellsWithin false levels) [] [] ps h.row h.has_row in
    let long : length flat ≤ length h.row = row_count levels [] flat h.row row in
    let len : length (text ++ after) ≡ (length h.head + length h.row) + length after = length-append text after ∙ ap (λ k. k + length after) (ap length h.bytes ∙ length-append h.head h.row) in
    sized_enters levels (Item-F.Map ps) major.Map (length ps) h.head (h.row ++ after) (text ++ after) h.has_head (ap (λ t. t ++ after) h.bytes ∙ append_assoc h.head h.row after)
    (record { row = h.row; rest = after; has_row = row; ends = omega (arith, doubled ps, long, len, small); bytes = refl }) refl refl
layer_enters levels (Item-F.Map ps) text after small (inr h) =
    open_enters levels (Item-F.Map ps) major.Map ((h.row ++ 255 ∷ []) ++ after) (text ++ after) (ap (λ t. t ++ after) h.bytes)
    (record { row = h.row; rest = 255 ∷ after; has_row = paired (SpellsWithin false levels) [] [] ps h.row h.has_row; ends = (after, refl); bytes = append_assoc h.row (255 ∷ []) after }) refl refl
layer_enters levels (Item-F.Tag t x) text after small h =
    sized_enters levels (Item-F.Tag t x) major.Tag t h.head (h.content ++ after) (text ++ after) h.has_head (ap (λ u. u ++ after) h.bytes ∙ append_assoc h.head h.content after)
    (record { row = h.content; rest = after; has_row = one_row levels x h.content h.has_content; ends = refl; bytes = refl }) refl refl
layer_enters levels (Item-F.Simple n) text after small h = record { head = heads.Simple n; front = text; mid = after; reads = λ place. simple_again place n text after h; parts = refl; holds = refl; major = refl; number = refl }

-- ---- the first item inside

abbrev pub FirstIn : ℕ → ℕ → Entry → List ℕ → Option Cursor → Type 0
FirstIn levels at entry.Leaf tail o = IsNone o
FirstIn levels at (entry.Counted n) tail o = First levels at (left.Counted n) tail o
FirstIn levels at entry.ToBreak tail o = First levels at left.ToBreak tail o

pub entered : (input : List ℕ) (at levels : ℕ) (e : Entry) (xs : List Item) (mid : List ℕ) (o : Option Cursor) → Holds levels e xs mid → mid ≡ drop at input → at + length mid ≡ length input → length input < 2 ^ 64
    → FirstIn levels at e mid o → Next input at xs o
entered input at levels entry.Leaf xs mid o h place within small first = subst (λ ys. Next input at ys o) (sym h) (none_next input at o first)
entered input at levels (entry.Counted n) xs mid o h place within small first = row_next input at levels (left.Counted n) xs mid h.row h.rest o h.has_row h.ends h.bytes place within small first
entered input at levels entry.ToBreak xs mid o h place within small first = row_next input at levels left.ToBreak xs mid h.row h.rest o h.has_row h.ends h.bytes place within small first

pub spelled_enters : (levels : ℕ) (x : Item) (text after : List ℕ) → length (text ++ after) < 2 ^ 64 → SpellsWithin false levels x text → Enters (levels - 1) (out-Item x) (text ++ after)
unfolding SpellsWithin
spelled_enters zero x text after small h = absurd h
spelled_enters (suc levels) x text after small h =
    let e : suc levels - 1 ≡ levels = omega arith in
    subst (λ k. Enters k (out-Item x) (text ++ after)) (sym e) (layer_enters levels (out-Item x) text after small h)

pub stands_enters : (c : Cursor) (input : List ℕ) (x : Item) (text : List ℕ) (later : List Item) → Stands c input x text later → Enters (c.levels - 1) (out-Item x) c.tail.now
stands_enters c input x text later s =
    let small : length (text ++ (s.row ++ s.rest)) < 2 ^ 64 = omega (arith, ap length s.bytes, s.within, s.small) in
    subst (Enters (c.levels - 1) (out-Item x)) (sym s.bytes) (spelled_enters c.levels x text (s.row ++ s.rest) small s.spelled)

pub inside_found : (c : Cursor) (input : List ℕ) (x : Item) (text : List ℕ) (later : List Item) → Stands c input x text later → (head : Head) (rest : List ℕ) (at levels : ℕ) (o : Option Cursor)
    → head_at 0 c.tail.now ≡ Ok (head, rest) → at ≡ min (c.at + (length c.tail.now - length rest)) (2 ^ 64 - 1) → levels ≡ c.levels - 1 → FirstIn levels at (entry_of head) rest o → Inside input c.at x o
inside_found c input x text later s head rest at levels o reads a l first =
    let en = stands_enters c input x text later s in
    let same = ok_is (en.head, en.mid) (head, rest) (sym (en.reads 0) ∙ reads) in
    let head-is : en.head ≡ head = ap (λ (p : Head × List ℕ). p.0) same in
    let mid-is : en.mid ≡ rest = ap (λ (p : Head × List ℕ). p.1) same in
    let parts : c.tail.now ≡ en.front ++ rest = en.parts ∙ ap (λ t. en.front ++ t) mid-is in
    let len : length c.tail.now ≡ length en.front + length rest = ap length parts ∙ length-append en.front rest in
    let here : at ≡ c.at + length en.front = a ∙ omega (arith, s.within, s.small) in
    let place : rest ≡ drop (c.at + length en.front) input = sym (drop_at en.front rest (length en.front) refl) ∙ ap (drop (length en.front)) (sym parts ∙ s.place) ∙ drop_add (length en.front) c.at input in
    let holds : Holds (c.levels - 1) (entry_of head) (inner x) rest = subst (λ m. Holds (c.levels - 1) (entry_of head) (inner x) m) mid-is (subst (λ h. Holds (c.levels - 1) (entry_of h) (inner x) en.mid) head-is en.holds) in (
      head,
      length en.front,
      ap (head_at 0) (sym s.place) ∙ reads ∙ ap (λ (t : List ℕ). Ok (head, t)) place,
      entered input (c.at + length en.front) (c.levels - 1) (entry_of head) (inner x) rest o holds place (omega (arith, s.within)) s.small
          (subst (λ k. FirstIn (c.levels - 1) k (entry_of head) rest o) here (subst (λ k. FirstIn k at (entry_of head) rest o) l first)),
    )

pub inside_read : (c : Cursor) (input : List ℕ) (x : Item) (text : List ℕ) (later : List Item) → Stands c input x text later → (f : CborFault) → head_at 0 c.tail.now ≡ Err f → ⊥
inside_read c input x text later s f e = let en = stands_enters c input x text later s in err_not_ok (head_at 0 c.tail.now) f (en.head, en.mid) e (en.reads 0)

pub opens : (c : Cursor) (bytes rest : List ℕ) (n : ℕ) → IsBytes bytes → length bytes < 2 ^ 64 → c.tail.now ≡ bytes → c.at ≡ 0 → c.levels ≡ 16 → c.left ≡ left.Counted 0
    → n ≡ length bytes - length rest → pass_at true (length bytes) 16 bytes ≡ Ok (tt, rest) → (x : Item) × (first_item false bytes ≡ Ok (x, n)) × Stands c bytes x (take n bytes) []
unfolding SpellsRow
opens c bytes rest n fits small t a l s e p =
    let o = opened bytes rest p in
    let first : first_item false bytes ≡ Ok (o.0, n) = o.1 ∙ ap (λ (k : ℕ). Ok (o.0, k)) (sym e) in
    let h = first_found false bytes (o.0, n) fits first in (
      o.0,
      first,
      record {
        row = [];
        rest = drop n bytes;
        spelled = subst (λ k. SpellsWithin false k o.0 (take n bytes)) (sym l) h.1;
        has_row = refl;
        ends = subst (λ k. Ends k [] (drop n bytes)) (sym s) refl;
        bytes = t ∙ sym (take-append-drop n bytes);
        place = t ∙ ap (λ k. drop k bytes) (sym a);
        within = omega (arith, a, ap length t);
        small = small;
      },
    )

pub inside_leaf : (c : Cursor) (input : List ℕ) (x : Item) (text : List ℕ) (later : List Item) → Stands c input x text later → (head : Head) (rest : List ℕ)
    → head_at 0 c.tail.now ≡ Ok (head, rest) → entry.Leaf ≡ entry_of head → Inside input c.at x None
inside_leaf c input x text later s head rest reads leaf = go (min (c.at + (length c.tail.now - length rest)) (2 ^ 64 - 1)) (c.levels - 1) refl refl
  where
    go : (at levels : ℕ) → at ≡ min (c.at + (length c.tail.now - length rest)) (2 ^ 64 - 1) → levels ≡ c.levels - 1 → Inside input c.at x None
    go at levels a l = inside_found c input x text later s head rest at levels None reads a l (subst (λ (e : Entry). FirstIn levels at e rest None) leaf refl)

-- what a head that was read says of the item
same_head : (c : Cursor) (input : List ℕ) (x : Item) (text : List ℕ) (later : List Item) → Stands c input x text later → (head : Head) (rest : List ℕ)
    → head_at 0 c.tail.now ≡ Ok (head, rest) → (head_major head ≡ major_in (out-Item x)) × (head_number head ≡ number_in (out-Item x))
same_head c input x text later s head rest reads =
    let en = stands_enters c input x text later s in
    let is : en.head ≡ head = ap (λ (p : Head × List ℕ). p.0) (ok_is (en.head, en.mid) (head, rest) (sym (en.reads 0) ∙ reads)) in
    (ap head_major (sym is) ∙ en.major, ap head_number (sym is) ∙ en.number)

pub major_is : (c : Cursor) (input : List ℕ) (x : Item) (text : List ℕ) (later : List Item) → Stands c input x text later → (head : Head) (rest : List ℕ)
    → head_at 0 c.tail.now ≡ Ok (head, rest) → head_major head ≡ major_in (out-Item x)
major_is c input x text later s head rest reads = (same_head c input x text later s head rest reads).0

pub number_is : (c : Cursor) (input : List ℕ) (x : Item) (text : List ℕ) (later : List Item) → Stands c input x text later → (head : Head) (rest : List ℕ)
    → head_at 0 c.tail.now ≡ Ok (head, rest) → head_number head ≡ number_in (out-Item x)
number_is c input x text later s head rest reads = (same_head c input x text later s head rest reads).1

-- ---- contents

-- what holds of a head and what is behind it holds of what was read
pub of_head : (P : Head × List ℕ → Type 0) (tail : List ℕ) (x y : Head × List ℕ) → head_at 0 tail ≡ Ok x → head_at 0 tail ≡ Ok y → P x → P y
of_head P tail x y a b h = subst P (ok_is x y (sym a ∙ b)) h

pub front_content : (b after : List ℕ) → cond (ltb (length (b ++ after)) (length b)) None (Some (take (length b) (b ++ after))) ≡ Some b
front_content b after = rw (le-ltb (length (b ++ after)) (length b) (omega (arith, length-append b after)), take_at b after (length b) refl) refl

pub string_head : (m : Major) (b text after : List ℕ) (h : IsString false m b text) → head_at 0 (text ++ after) ≡ Ok (heads.Sized m (is_shortest h.has_head.form (length b)) (length b), b ++ after)
string_head m b text after h = ap (λ t. head_at 0 (t ++ after)) h.bytes ∙ ap (head_at 0) (append_assoc h.head b after) ∙ head_reads m (length b) h.head (b ++ after) h.has_head 0

pub chunked_head : (m : Major) (b text after : List ℕ) (h : IsChunked false m b text) → head_at 0 (text ++ after) ≡ Ok (heads.Open m, (h.has_chunks.row ++ 255 ∷ []) ++ after)
chunked_head m b text after h = ap (λ t. head_at 0 (t ++ after)) h.has_chunks.bytes ∙ open_again 0 m ((h.has_chunks.row ++ 255 ∷ []) ++ after)

layer_content : (spells : Item → List ℕ → Type 0) (f : Item-F Item) (text after : List ℕ) (y : Head × List ℕ) → SpellsLayer false spells f text → head_at 0 (text ++ after) ≡ Ok y → ContentOf f text (content_in y.0 y.1)
layer_content spells (Item-F.Uint n) text after y h e = of_head (λ y. content_in y.0 y.1 ≡ None) (text ++ after) (heads.Sized major.Unsigned (is_shortest h.form n) n, after) y (head_reads major.Unsigned n text after h 0) e refl
layer_content spells (Item-F.Nint n) text after y h e = of_head (λ y. content_in y.0 y.1 ≡ None) (text ++ after) (heads.Sized major.Negative (is_shortest h.form n) n, after) y (head_reads major.Negative n text after h 0) e refl
layer_content spells (Item-F.Bytes b) text after y (inl h) e =
    of_head (λ y. StringContent major.Bytes b text (content_in y.0 y.1)) (text ++ after) (heads.Sized major.Bytes (is_shortest h.has_head.form (length b)) (length b), b ++ after) y (string_head major.Bytes b text after h) e
    (subst (StringContent major.Bytes b text) (sym (front_content b after)) (h, refl))
layer_content spells (Item-F.Bytes b) text after y (inr h) e =
    of_head (λ y. StringContent major.Bytes b text (content_in y.0 y.1)) (text ++ after) (heads.Open major.Bytes, (h.has_chunks.row ++ 255 ∷ []) ++ after) y (chunked_head major.Bytes b text after h) e h
layer_content spells (Item-F.Text b) text after y (inl h) e =
    of_head (λ y. StringContent major.Text b text (content_in y.0 y.1)) (text ++ after) (heads.Sized major.Text (is_shortest h.has_head.form (length b)) (length b), b ++ after) y (string_head major.Text b text after h) e
    (subst (StringContent major.Text b text) (sym (front_content b after)) (h, refl))
layer_content spells (Item-F.Text b) text after y (inr h) e =
    of_head (λ y. StringContent major.Text b text (content_in y.0 y.1)) (text ++ after) (heads.Open major.Text, (h.has_chunks.row ++ 255 ∷ []) ++ after) y (chunked_head major.Text b text after h) e h
layer_content spells (Item-F.Array xs) text after y (inl h) e =
    of_head (λ y. content_in y.0 y.1 ≡ None) (text ++ after) (heads.Sized major.Array (is_shortest h.has_head.form (length xs)) (length xs), h.row ++ after) y
    (ap (λ t. head_at 0 (t ++ after)) h.bytes ∙ ap (head_at 0) (append_assoc h.head h.row after) ∙ head_reads major.Array (length xs) h.head (h.row ++ after) h.has_head 0) e refl
layer_content spells (Item-F.Array xs) text after y (inr h) e =
    of_head (λ y. content_in y.0 y.1 ≡ None) (text ++ after) (heads.Open major.Array, (h.row ++ 255 ∷ []) ++ after) y
    (ap (λ t. head_at 0 (t ++ after)) h.bytes ∙ open_again 0 major.Array ((h.row ++ 255 ∷ []) ++ after)) e refl
layer_content spells (Item-F.Map ps) text after y (inl h) e =
    of_head (λ y. content_in y.0 y.1 ≡ None) (text ++ after) (heads.Sized major.Map (is_shortest h.has_head.form (length ps)) (length ps), h.row ++ after) y
    (ap (λ t. head_at 0 (t ++ after)) h.bytes ∙ ap (head_at 0) (append_assoc h.head h.row after) ∙ head_reads major.Map (length ps) h.head (h.row ++ after) h.has_head 0) e refl
layer_content spells (Item-F.Map ps) text after y (inr h) e =
    of_head (λ y. content_in y.0 y.1 ≡ None) (text ++ after) (heads.Open major.Map, (h.row ++ 255 ∷ []) ++ after) y
    (ap (λ t. head_at 0 (t ++ after)) h.bytes ∙ open_again 0 major.Map ((h.row ++ 255 ∷ []) ++ after)) e refl
layer_content spells (Item-F.Tag t x) text after y h e =
    of_head (λ y. content_in y.0 y.1 ≡ None) (text ++ after) (heads.Sized major.Tag (is_shortest h.has_head.form t) t, h.content ++ after) y
    (ap (λ u. head_at 0 (u ++ after)) h.bytes ∙ ap (head_at 0) (append_assoc h.head h.content after) ∙ head_reads major.Tag t h.head (h.content ++ after) h.has_head 0) e refl
layer_content spells (Item-F.Simple n) text after y h e = of_head (λ y. content_in y.0 y.1 ≡ None) (text ++ after) (heads.Simple n, after) y (simple_again 0 n text after h) e refl

spelled_content : (levels : ℕ) (x : Item) (text after : List ℕ) (y : Head × List ℕ) → SpellsWithin false levels x text → head_at 0 (text ++ after) ≡ Ok y → ContentOf (out-Item x) text (content_in y.0 y.1)
unfolding SpellsWithin
spelled_content zero x text after y h e = absurd h
spelled_content (suc levels) x text after y h e = layer_content (SpellsWithin false levels) (out-Item x) text after y h e

pub content_is : (c : Cursor) (input : List ℕ) (x : Item) (text : List ℕ) (later : List Item) → Stands c input x text later → (head : Head) (rest : List ℕ)
    → head_at 0 c.tail.now ≡ Ok (head, rest) → ContentOf (out-Item x) text (content_in head rest)
content_is c input x text later s head rest e = spelled_content c.levels x text (s.row ++ s.rest) (head, rest) s.spelled (sym (ap (head_at 0) s.bytes) ∙ e)

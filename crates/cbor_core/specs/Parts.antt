-- The parts of an item that stands in an input.
use Rattle.std.specs.Prelude.{◌≡◌, ℕ, ◌+◌, ◌-◌, ◌*◌, ◌^◌, ◌<◌, min, List, [], ◌∷◌, ◌++◌, length, take, drop, nat_lt, if◌then◌else◌, flat_map, Option, Some, None, Ok, false}
use Rattle.cbor_core.specs.declared.cursor.Cursor.{Cursor}
use Rattle.cbor_core.specs.declared.cursor.Left.{Left}
use Rattle.cbor_core.specs.declared.cursor.Left.TheVariants as left
use Rattle.cbor_core.specs.declared.cursor.Entry.{Entry}
use Rattle.cbor_core.specs.declared.cursor.Entry.TheVariants as entry
use Rattle.cbor_core.specs.declared.head.Major.{Major}
use Rattle.cbor_core.specs.declared.head.Major.TheVariants as major
use Rattle.cbor_core.specs.declared.head.Head.{Head}
use Rattle.cbor_core.specs.declared.head.Head.TheVariants as heads
use Rattle.cbor_core.specs.declared.item.Item.{Item, out-Item}
use Rattle.cbor_core.specs.declared.item.Item.TheOpen.{Item-F}
use Rattle.cbor_core.specs.Reading.{head_at}
use Rattle.cbor_core.specs.Spelling.{code, SpellsRow, SpellsWithin, IsString, IsChunked}

-- the items inside an item, in order: elements, keys and values in turn, or what is tagged
abbrev pub inner_in : Item-F Item → List Item
inner_in (Item-F.Array xs) = xs
inner_in (Item-F.Map ps) = flat_map (λ p. p.0 ∷ p.1 ∷ []) ps
inner_in (Item-F.Tag t x) = x ∷ []
inner_in _ = []

abbrev pub inner : Item → List Item
inner x = inner_in (out-Item x)

-- how the items inside stand behind a head
abbrev pub entry_of : Head → Entry
entry_of (heads.Sized major.Array s n) = entry.Counted n
entry_of (heads.Sized major.Map s n) = entry.Counted (min (n * 2) (2 ^ 64 - 1))
entry_of (heads.Sized major.Tag s n) = entry.Counted 1
entry_of (heads.Open major.Array) = entry.ToBreak
entry_of (heads.Open major.Map) = entry.ToBreak
entry_of _ = entry.Leaf

-- the number of a major type, of a head and of an item
abbrev pub head_major : Head → ℕ
head_major (heads.Sized m s n) = code m
head_major (heads.Open m) = code m
head_major _ = 7

abbrev pub major_in : Item-F Item → ℕ
major_in (Item-F.Uint n) = 0
major_in (Item-F.Nint n) = 1
major_in (Item-F.Bytes b) = 2
major_in (Item-F.Text t) = 3
major_in (Item-F.Array xs) = 4
major_in (Item-F.Map ps) = 5
major_in (Item-F.Tag t x) = 6
major_in (Item-F.Simple n) = 7

-- the argument of a number, a tag or a simple value
abbrev pub head_number : Head → Option ℕ
head_number (heads.Sized major.Unsigned s n) = Some n
head_number (heads.Sized major.Negative s n) = Some n
head_number (heads.Sized major.Tag s n) = Some n
head_number (heads.Simple n) = Some n
head_number _ = None

abbrev pub number_in : Item-F Item → Option ℕ
number_in (Item-F.Uint n) = Some n
number_in (Item-F.Nint n) = Some n
number_in (Item-F.Tag t x) = Some t
number_in (Item-F.Simple n) = Some n
number_in _ = None

-- the content behind the head of a string of definite length
abbrev pub content_in : Head → List ℕ → Option (List ℕ)
content_in (heads.Sized major.Bytes s n) rest = if nat_lt (length rest) n then None else Some (take n rest)
content_in (heads.Sized major.Text s n) rest = if nat_lt (length rest) n then None else Some (take n rest)
content_in _ rest = None

-- the content of a string where its length is definite
abbrev pub StringContent : Major → List ℕ → List ℕ → Option (List ℕ) → Type 0
StringContent m b text None = IsChunked false m b text
StringContent m b text (Some content) = IsString false m b text × (content ≡ b)

abbrev pub ContentOf : Item-F Item → List ℕ → Option (List ℕ) → Type 0
ContentOf (Item-F.Bytes b) text o = StringContent major.Bytes b text o
ContentOf (Item-F.Text t) text o = StringContent major.Text t text o
ContentOf _ text o = o ≡ None

-- what ends a row of items: their number is known, or a break stands after them
abbrev pub Ends : Left → List Item → List ℕ → Type 0
Ends (left.Counted n) later rest = n ≡ length later
Ends left.ToBreak later rest = (more : List ℕ) × (rest ≡ 255 ∷ more)

-- the cursor stands in the input at the item x, whose bytes are the text, and the items later follow it in its array or map
pub record Stands (c : Cursor) (input : List ℕ) (x : Item) (text : List ℕ) (later : List Item) : Type 0 where
  pub row : List ℕ
  pub rest : List ℕ
  pub spelled : SpellsWithin false c.levels x text
  pub has_row : SpellsRow (λ before. SpellsWithin false c.levels) [] later row
  pub ends : Ends c.left later rest
  pub bytes : c.tail.now ≡ text ++ (row ++ rest)
  pub place : c.tail.now ≡ drop c.at input
  pub within : c.at + length c.tail.now ≡ length input
  pub small : length input < 2 ^ 64

-- a cursor at the first of some items, at a place
abbrev pub Next : List ℕ → ℕ → List Item → Option Cursor → Type 0
Next input at [] None = Unit {0}
Next input at [] (Some c) = ⊥
Next input at (y ∷ ys) None = ⊥
Next input at (y ∷ ys) (Some c) = (text : List ℕ) × Stands c input y text ys × (c.at ≡ at)

-- a cursor at the first item inside x, behind the head of x
abbrev pub Inside : List ℕ → ℕ → Item → Option Cursor → Type 0
Inside input at x o = (h : Head) × (k : ℕ) × (head_at 0 (drop at input) ≡ Ok (h, drop (at + k) input)) × Next input (at + k) (inner x) o

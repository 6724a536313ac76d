-- Where the parts of an input stand, as lists of places.
use Rattle.std.specs.Prelude.{◌≡◌, ℕ, zero, suc, ◌+◌, ◌-◌, List, [], ◌∷◌, ◌++◌, length, take, map, false, if◌then◌else◌, Option, Some, None, Ok, Err}
use Rattle.std.specs.List.{AllByRecursion}
use Rattle.cbor_core.specs.declared.cursor.Cursor.{Cursor}
use Rattle.cbor_core.specs.declared.cursor.Left.{Left}
use Rattle.cbor_core.specs.declared.cursor.Left.TheVariants as left
use Rattle.cbor_core.specs.declared.cursor.Entry.{Entry}
use Rattle.cbor_core.specs.declared.cursor.Entry.TheVariants as entry
use Rattle.cbor_core.specs.declared.head.Head.{Head}
use Rattle.cbor_core.specs.declared.item.Item.{Item}
use Rattle.cbor_core.specs.declared.item.Item.TheOpen.{Item-F}
use Rattle.cbor_core.specs.declared.item.Item.TheVariants as items
use Rattle.cbor_core.specs.Reading.{Read, breaks, head_at, item_at}
use Rattle.cbor_core.specs.Spelling.{SpellsWithin}
use Rattle.cbor_core.specs.Parts.{entry_of, inner, Stands}

-- where an item stands: its offset, the levels left for it, and the bytes of the input from there on
pub record Spot : Type 0 where
  pub at : ℕ
  pub levels : ℕ
  pub tail : List ℕ

-- the outermost item of an input
abbrev pub start : List ℕ → Spot
start bytes = record { at = 0; levels = 16; tail = bytes }

-- the item that stands there, and the bytes after it
abbrev pub item_in_read : Read Item → Item
item_in_read (Ok x) = x.0
item_in_read (Err f) = items.Simple 0

abbrev pub end_in_read : Read Item → List ℕ
end_in_read (Ok x) = x.1
end_in_read (Err f) = []

abbrev pub spot_item : Spot → Item
spot_item s = item_in_read (item_at false 0 s.levels s.tail)

abbrev pub spot_end : Spot → List ℕ
spot_end s = end_in_read (item_at false 0 s.levels s.tail)

-- the content of a string
abbrev pub bytes_in : Item-F Item → Option (List ℕ)
bytes_in (Item-F.Bytes b) = Some b
bytes_in _ = None

abbrev pub text_in : Item-F Item → Option (List ℕ)
text_in (Item-F.Text t) = Some t
text_in _ = None

-- how many bytes the item takes, and which
abbrev pub spot_size : Spot → ℕ
spot_size s = length s.tail - length (spot_end s)

abbrev pub spot_raw : Spot → List ℕ
spot_raw s = take (spot_size s) s.tail

-- what stands behind the item, at the same depth
abbrev pub spot_next : Spot → Spot
spot_next s = record { at = s.at + spot_size s; levels = s.levels; tail = spot_end s }

-- so many items one behind the other, and those before a break
unfoldable pub counted_spots : ℕ → Spot → List Spot
counted_spots zero s = []
counted_spots (suc n) s = s ∷ counted_spots n (spot_next s)

unfoldable pub open_spots : ℕ → Spot → List Spot
open_spots zero s = []
open_spots (suc turns) s = if breaks s.tail then [] else s ∷ open_spots turns (spot_next s)

abbrev pub spots_left : Left → Spot → List Spot
spots_left (left.Counted n) s = counted_spots n s
spots_left left.ToBreak s = open_spots (length s.tail) s

abbrev pub spots_behind : Entry → Spot → List Spot
spots_behind entry.Leaf s = []
spots_behind (entry.Counted n) s = counted_spots n s
spots_behind entry.ToBreak s = open_spots (length s.tail) s

abbrev pub parts_behind : Spot → Read Head → List Spot
parts_behind s (Ok h) = spots_behind (entry_of h.0) (record { at = s.at + (length s.tail - length h.1); levels = s.levels - 1; tail = h.1 })
parts_behind s (Err f) = []

-- the items inside: elements, keys and values in turn, or what is tagged
abbrev pub spot_parts : Spot → List Spot
spot_parts s = parts_behind s (head_at 0 s.tail)

-- where a cursor stands, and what follows in the same array or map
abbrev pub cursor_spot : Cursor → Spot
cursor_spot c = record { at = c.at; levels = c.levels; tail = c.tail.now }

abbrev pub cursor_later : Cursor → List Spot
cursor_later c = spots_left c.left (spot_next (cursor_spot c))

-- a cursor that some call of a cursor gave
pub record IsPlaced (c : Cursor) : Type 0 where
  pub input : List ℕ
  pub item : Item
  pub text : List ℕ
  pub later : List Item
  pub stands : Stands c input item text later

-- a cursor at the first of some places
abbrev pub IsFirst : List Spot → Option Cursor → Type 0
IsFirst [] None = Unit {0}
IsFirst [] (Some c) = ⊥
IsFirst (s ∷ ss) None = ⊥
IsFirst (s ∷ ss) (Some c) = IsPlaced c × (cursor_spot c ≡ s) × (cursor_later c ≡ ss)

-- the bytes of the item spell it
pub record IsSpelled (s : Spot) : Type 0 where
  pub rest : List ℕ
  pub bytes : s.tail ≡ spot_raw s ++ rest
  pub spelled : SpellsWithin false s.levels (spot_item s) (spot_raw s)

-- the items inside are the parts of the item, and are spelled so themselves
pub record HasParts (s : Spot) : Type 0 where
  pub items : map spot_item (spot_parts s) ≡ inner (spot_item s)
  pub spelled : AllByRecursion IsSpelled (spot_parts s)

-- a part of an input: where it stands, and what follows in the same array or map
pub record Standing : Type 0 where
  pub spot : Spot
  pub later : List Spot

-- the part at the first of some places
abbrev pub first_of : List Spot → Option Standing
first_of [] = None
first_of (s ∷ ss) = Some (record { spot = s; later = ss })

-- the places from a part on, the part's own among them
abbrev pub spots_of : Option Standing → List Spot
spots_of None = []
spots_of (Some p) = p.spot ∷ p.later

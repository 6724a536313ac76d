-- A file of two areas, of which one counts. An area begins as a slot does, with a gate, a generation, a length and a body,
-- which is called its snapshot, and records follow it.
use Rattle.std.specs.Prelude.{◌≡◌, ℕ, ◌+◌, ◌*◌, ◌≤◌, ◌^◌, ◌-◌, min, List, [], ◌∷◌, ◌++◌, length, take, drop, Bool, false, if◌then◌else◌, Option, Some, None, option_map}
use Rattle.disk_port.specs.Slots.{slot, is_newer, is_shut, other, generation_after, payload}
use Rattle.disk_port.specs.declared.side.Side.{Side}
use Rattle.disk_port.specs.declared.side.Side.TheVariants.{First, Second}
use Rattle.disk_port.specs.declared.next_change.NextChange.{NextChange}
use Rattle.journal.specs.Records.{Walk, walk}
use Rattle.journal.specs.declared.areas.Areas.{Areas}
use Rattle.journal.specs.declared.cursor.Cursor.{Cursor}

-- an open area: its snapshot is the first body
pub record Area : Type 0 where
  pub generation : ℕ
  pub bodies : List (List ℕ)
  -- the offset in the file of the first gate of a record that is not open
  pub place : ℕ
  -- that gate is 1
  pub one : Bool

abbrev pub area_of : ℕ × List ℕ → Walk → Area
area_of s w = record { generation = s.0; bodies = s.1 ∷ w.bodies; place = w.place; one = w.one }

-- the records of a slot, which begin with the byte behind its body
abbrev pub behind_slot : ℕ → ℕ × List ℕ → List ℕ → Option Area
behind_slot base s [] = None
behind_slot base s (gate ∷ rest) = Some (area_of s (walk (length (gate ∷ rest)) (base + (13 + length s.1)) (gate ∷ rest)))

abbrev pub area_with : ℕ → List ℕ → Option (ℕ × List ℕ) → Option Area
area_with base x None = None
area_with base x (Some s) = behind_slot base s (drop (13 + length s.1) x)

-- the area whose bytes these are, and which begins at an offset in the file
unfoldable pub area : ℕ → ℕ → List ℕ → Option Area
area base most x = area_with base x (slot most x)

abbrev pub base_of : Areas → Side → ℕ
base_of areas First = 0
base_of areas Second = areas.room

-- an area and all of its records stand in the file and in their room
abbrev pub area_at : Areas → Side → List ℕ → Option Area
area_at areas side image = area (base_of areas side) areas.most (take areas.room (drop (base_of areas side) image))

-- which one counts
pub record Standing : Type 0 where
  pub side : Side
  pub area : Area

abbrev pub held : Side → Area → Standing
held side a = record { side = side; area = a }

-- the open area of the greater generation, and of two equal ones the first
abbrev pub newest : Option Area → Option Area → Option Standing
newest None second = option_map (held Second) second
newest (Some f) None = Some (held First f)
newest (Some f) (Some s) = if is_newer s.generation f.generation then Some (held Second s) else Some (held First f)

-- what a file stands for, or nothing, where no area is open
abbrev pub stands : Areas → List ℕ → Option Standing
stands areas image = newest (area_at areas First image) (area_at areas Second image)

-- ---- where it goes on

-- the next snapshot goes to the area that doesn't count, and that of a file in which none does to the first
abbrev pub next_side : Option Standing → Side
next_side None = First
next_side (Some s) = other s.side

abbrev pub next_generation : Option Standing → ℕ
next_generation None = 1
next_generation (Some s) = generation_after s.area.generation

abbrev pub change_to : Areas → Side → ℕ → List ℕ → NextChange
change_to areas side generation image = record {
  side = side;
  generation = generation;
  shut = is_shut (drop (base_of areas side) image);
  other_shut = is_shut (drop (base_of areas (other side)) image);
}

-- the next record goes to the first gate that is not open
abbrev pub next_place : Option Standing → Option ℕ
next_place standing = option_map (λ s. s.area.place) standing

abbrev pub cursor_at : Areas → Option Standing → List ℕ → Cursor
cursor_at areas standing image = record {
  next = change_to areas (next_side standing) (next_generation standing) image;
  place = next_place standing;
}

abbrev pub cursor : Areas → List ℕ → Cursor
cursor areas image = cursor_at areas (stands areas image) image

-- a snapshot and the gate behind it have room in their area
abbrev pub AreApart : Areas → Type 0
AreApart areas = 14 + areas.most ≤ areas.room

-- the gate behind the records that count is not 1
abbrev pub IsReady : Option Standing → Type 0
IsReady None = Unit {0}
IsReady (Some s) = s.area.one ≡ false

-- ---- the areas of a store with a limit

-- the length of a snapshot has 4 bytes
abbrev pub most_for : ℕ → ℕ
most_for limit = min (limit + 4096) (2 ^ 32 - 1)

abbrev pub room_for : ℕ → ℕ
room_for limit = 2 * limit + 4096

abbrev pub areas_for : ℕ → Areas
areas_for limit = record { room = room_for limit; most = most_for limit }

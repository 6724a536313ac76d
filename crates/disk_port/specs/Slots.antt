-- A file of two slots, of which one counts. In a slot stand a gate, a byte that is 1 where it is open, the generation in 8
-- bytes and the length of the body in 4, both most significant byte first, and the body.
use Rattle.std.specs.Prelude.{◌≡◌, ◌⊎◌, Result, ◌≤◌, ℕ, ◌+◌, ◌-◌, ◌^◌, ◌==◌, ◌&&◌, nat_lt, nat_le, List, [], ◌∷◌, ◌++◌, length, take, drop, Bool, true, false, if◌then◌else◌, Option, Some, None}
use Rattle.std.specs.Option.{option_map}
use Rattle.byteorder.specs.Endian.{big_number, big_bytes}
use Rattle.disk_port.specs.Story.{Story, seen}
use Rattle.disk_port.specs.Moments.{Steps}
use Rattle.disk_port.specs.Gated.{gated}
use Rattle.disk_port.specs.declared.slots.Slots.{Slots}
use Rattle.disk_port.specs.declared.side.Side.{Side}
use Rattle.disk_port.specs.declared.side.Side.TheVariants.{First, Second}
use Rattle.disk_port.specs.declared.next_change.NextChange.{NextChange}

-- what stands behind the gate of a slot
abbrev pub body_length : List ℕ → ℕ
body_length behind = big_number 4 (drop 8 behind)

abbrev pub is_whole : ℕ → List ℕ → Bool
is_whole most behind = nat_le (body_length behind) most && nat_le (12 + body_length behind) (length behind)

abbrev pub content : List ℕ → ℕ × List ℕ
content behind = (big_number 8 behind, take (body_length behind) (drop 12 behind))

-- the generation and the body of the slot at the front of some bytes, where it is open: its gate is 1, all of it stands
-- there, and its body has at most so many bytes
unfoldable pub slot : ℕ → List ℕ → Option (ℕ × List ℕ)
slot most [] = None
slot most (gate ∷ behind) = if (gate == 1) && is_whole most behind then Some (content behind) else None

-- its bytes behind the gate
unfoldable pub payload : ℕ → List ℕ → List ℕ
payload generation body = big_bytes 8 generation ++ (big_bytes 4 (length body) ++ body)

-- after 2^64 - 1 comes 0, which counts as greater than it
abbrev pub generation_after : ℕ → ℕ
generation_after g = if g == 2 ^ 64 - 1 then 0 else g + 1

unfoldable pub is_newer : ℕ → ℕ → Bool
is_newer g h = if (g == 0) && (h == 2 ^ 64 - 1) then true else if (g == 2 ^ 64 - 1) && (h == 0) then false else nat_lt h g

-- what an open slot stands for
pub record Standing : Type 0 where
  pub side : Side
  pub generation : ℕ
  pub body : List ℕ

abbrev pub standing : Side → ℕ × List ℕ → Standing
standing side s = record { side = side; generation = s.0; body = s.1 }

-- the open slot of the greater generation counts, and of two equal ones the first
abbrev pub newest : Option (ℕ × List ℕ) → Option (ℕ × List ℕ) → Option Standing
newest None second = option_map (standing Second) second
newest (Some f) None = Some (standing First f)
newest (Some f) (Some s) = if is_newer s.0 f.0 then Some (standing Second s) else Some (standing First f)

abbrev pub base : Slots → Side → ℕ
base slots First = 0
base slots Second = slots.second

abbrev pub slot_at : Slots → Side → List ℕ → Option (ℕ × List ℕ)
slot_at slots side image = slot slots.most (drop (base slots side) image)

-- what a file stands for, or nothing, where no slot is open
abbrev pub stands : Slots → List ℕ → Option Standing
stands slots image = newest (slot_at slots First image) (slot_at slots Second image)

-- a gate stands in the file and is not open
abbrev pub is_shut : List ℕ → Bool
is_shut [] = false
is_shut (gate ∷ behind) = if gate == 1 then false else true

abbrev pub other : Side → Side
other First = Second
other Second = First

-- the next change of a file goes to the slot that doesn't count, and that of a file in which none does to the first
abbrev pub next_side : Option Standing → Side
next_side None = First
next_side (Some s) = other s.side

abbrev pub next_generation : Option Standing → ℕ
next_generation None = 1
next_generation (Some s) = generation_after s.generation

abbrev pub change_to : Slots → Side → ℕ → List ℕ → NextChange
change_to slots side generation image = record {
  side = side;
  generation = generation;
  shut = is_shut (drop (base slots side) image);
  other_shut = is_shut (drop (base slots (other side)) image);
}

abbrev pub next_change : Slots → List ℕ → NextChange
next_change slots image = change_to slots (next_side (stands slots image)) (next_generation (stands slots image)) image

-- the slots do not overlap
abbrev pub AreApart : Slots → Type 0
AreApart slots = 13 + slots.most ≤ slots.second

-- the slot that is changed is open then with these bytes behind its gate
abbrev pub changed : NextChange → List ℕ → Standing
changed change body = record { side = change.side; generation = change.generation; body = body }

-- and the next change is to the other one
abbrev pub change_after : NextChange → NextChange
change_after change = record {
  side = other change.side;
  generation = generation_after change.generation;
  shut = change.other_shut;
  other_shut = false;
}

-- bytes that stand behind a gate, and the body in them
abbrev pub body_of : List ℕ → List ℕ
body_of bytes = drop 12 bytes

abbrev pub IsPayload : ℕ → List ℕ → Type 0
IsPayload generation bytes = bytes ≡ payload generation (body_of bytes)

-- a file stands for what it stood for before a change, or for what it stands for after it
abbrev pub IsBeforeOrAfter : Slots → NextChange → List ℕ → List ℕ → List ℕ → Type 0
IsBeforeOrAfter slots change body before c = (stands slots c ≡ stands slots before) ⊎ (stands slots c ≡ Some (changed change body))

-- a change is made: at each moment a crash leaves what stands for what was there before it or after it
abbrev pub Changes : {T E : Type 0} → Slots → NextChange → List ℕ → Result T E → Story → Story → Type 0
Changes slots change body result old new =
    Steps (IsBeforeOrAfter slots change body (seen old)) (gated (base slots change.side) change.shut (payload change.generation body)) result old new

-- the file after it, and what its next change is
pub record IsChanged (slots : Slots) (change : NextChange) (body : List ℕ) (next : NextChange) (now : List ℕ) : Type 0 where
  pub now_stands : stands slots now ≡ Some (changed change body)
  pub now_next : next_change slots now ≡ next

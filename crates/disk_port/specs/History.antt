-- What was done to a disk in memory, as what the disk tells.
use Rattle.std.specs.Prelude.{ℕ, List, map, reverse, Option, None, Some}
use Rattle.disk_port.specs.Story.{Event, Wrote, Synced, Story}
use Rattle.disk_port.specs.declared.kept.Kept.{Kept}
use Rattle.disk_port.specs.declared.kept.Kept.TheVariants as kept

abbrev pub event_of : Kept → Event
event_of (kept.Wrote at piece) = Wrote at piece
event_of kept.Synced = Synced

-- the newest first
abbrev pub events_of : List Kept → List Event
events_of calls = reverse (map event_of calls)

-- what stood there at first; until something is written it is what is read
abbrev pub first_of : Option (List ℕ) → List ℕ → List ℕ
first_of None bytes = bytes
first_of (Some first) bytes = first

abbrev pub story_told : Option (List ℕ) → List ℕ → List Kept → Story
story_told first bytes calls = record { image = first_of first bytes; events = events_of calls }

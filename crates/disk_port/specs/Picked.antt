-- What a disk in memory leaves where it is stopped.
use Rattle.std.specs.Prelude.{ℕ, List, [], ◌∷◌, length, replicate, Bool, true, false}
use Rattle.disk_port.specs.Story.{Event, Wrote, Tore, Synced, Story, put, readable, seen}
use Rattle.disk_port.specs.declared.stops.Pick.{Pick}
use Rattle.disk_port.specs.declared.stops.Pick.TheVariants as pick
use Rattle.disk_port.specs.declared.stop.Stop.{Stop}
use Rattle.disk_port.specs.declared.stop.Stop.TheVariants as stop

-- what is left of a write that was not synced
abbrev pub left_of : Pick → ℕ → List ℕ → List ℕ → List ℕ
left_of pick.None at piece list = list
left_of pick.All at piece list = put at piece list
left_of (pick.Byte b) at piece list = put at (replicate (length piece) b) list

-- what is left after these events: of all since the last sync nothing, all, or one byte in the place of each
abbrev pub picked : Pick → List ℕ → List Event → List ℕ
picked which image [] = image
picked which image (Wrote at piece ∷ events) = left_of which at piece (picked which image events)
picked which image (Tore at n left ∷ events) = picked which image events
picked which image (Synced ∷ events) = readable image events

-- what stands on the disk: what is read, or where its stop has come, what is picked
abbrev pub left_at : Stop → Story → List ℕ
left_at stop.Absent s = seen s
left_at (stop.In calls which) s = seen s
left_at (stop.Come which left) s = picked which s.image s.events

-- the same, as a stop that has come keeps it
abbrev pub left_kept : Stop → Story → List ℕ
left_kept stop.Absent s = seen s
left_kept (stop.In calls which) s = seen s
left_kept (stop.Come which left) s = left

abbrev pub has_come : Stop → Bool
has_come stop.Absent = false
has_come (stop.In calls which) = false
has_come (stop.Come which left) = true

-- What an open area that was found in an image stands for.
use Rattle.std.specs.Prelude.{◌≡◌, ◌≤◌, ℕ, ◌+◌, length, Option, Some, None, option_map}
use Rattle.journal.specs.Records.{walk}
use Rattle.journal.specs.Areas.{Area, area_of, Standing, held, base_of}
use Rattle.journal.specs.declared.areas.Areas.{Areas}
use Rattle.journal.specs.declared.open_area.OpenArea.{OpenArea}

abbrev pub area_read : Areas → OpenArea → Area
area_read areas r = area_of (r.generation, r.snapshot.now) (walk (length r.records.now) (base_of areas r.side + (13 + length r.snapshot.now)) r.records.now)

abbrev pub standing_read : Areas → OpenArea → Standing
standing_read areas r = held r.side (area_read areas r)

abbrev pub standing_found : Areas → Option OpenArea → Option Standing
standing_found areas found = option_map (standing_read areas) found

-- all of it stands in its room
abbrev pub IsWithin : Areas → OpenArea → Type 0
IsWithin areas r = 13 + (length r.snapshot.now + length r.records.now) ≤ areas.room

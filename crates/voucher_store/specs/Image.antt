-- What the image of a voucher file stands for: the map of its snapshot, with the changes that its records say made of it.
use Rattle.std.specs.Prelude.{ℕ, ◌+◌, ◌*◌, List, [], ◌∷◌, length, Bool, ◌&&◌, not, nat_lt, nat_le, if◌then◌else◌, Option, Some, None, Result, Ok, Err}
use Rattle.journal.specs.Areas.{Standing, base_of, stands, areas_for}
use Rattle.journal.specs.declared.areas.Areas.{Areas}
use Rattle.voucher_chain.specs.declared.voucher.Voucher.{Voucher}
use Rattle.voucher_map.specs.Map.{candidate_in, snapshot_length}
use Rattle.voucher_map.specs.declared.kept.Kept.{Kept}
use Rattle.voucher_store.specs.Read.{◌>>=◌, placed, det_at}
use Rattle.voucher_store.specs.Snapshot.{snapshot_at}
use Rattle.voucher_store.specs.Records.{records_in}

-- how many candidates there are
abbrev pub one_if : Option Voucher → ℕ
one_if None = 0
one_if (Some voucher) = 1

abbrev pub candidates : List Kept → ℕ
candidates [] = 0
candidates (entry ∷ entries) = one_if (candidate_in entry) + candidates entries

-- behind its records a file goes on at a place: the gate there is not 1, each candidate has room before the area's end for the
-- record that makes it the base, which takes 24 bytes, and the map has room in a snapshot of version 1
abbrev pub goes_on : ℕ → ℕ → ℕ → Bool → List Kept → Bool
goes_on limit end place one entries = not one && (nat_lt (place + 24 * candidates entries) end && nat_le (snapshot_length entries) limit)

abbrev pub checked : ℕ → ℕ → ℕ → Bool → List Kept → Result (List Kept) ℕ
checked limit end place one entries = if goes_on limit end place one entries then Ok entries else Err place

-- the first body is the snapshot, which begins at a place, and the others are records
abbrev pub bodies_in : ℕ → List (List ℕ) → Result (List Kept) ℕ
bodies_in place [] = Ok []
bodies_in place (snapshot ∷ records) = placed place (det_at snapshot_at snapshot) >>= λ entries. records_in (place + length snapshot) entries records

abbrev pub map_in : Areas → ℕ → Option Standing → Result (List Kept) ℕ
map_in areas limit None = Ok []
map_in areas limit (Some s) = bodies_in (base_of areas s.side + 13) s.area.bodies >>= checked limit (base_of areas s.side + areas.room) s.area.place s.area.one

-- the map that a file of a store with a limit stands for, which is empty where no area is open, or the place of its first fault
unfoldable pub map_of : ℕ → List ℕ → Result (List Kept) ℕ
map_of limit image = map_in (areas_for limit) limit (stands (areas_for limit) image)

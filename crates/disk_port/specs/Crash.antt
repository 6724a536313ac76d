-- What a crash may leave on a disk. Between two syncs each range that is written, and all past the old end, may hold any
-- bytes after it, and the length lies between the old and the new one; bytes outside stay. A sync makes what is read the
-- only bytes that a crash leaves.
use Rattle.std.specs.Prelude.{◌≡◌, ◌≤◌, ◌⊎◌, ℕ, ◌+◌, List, [], ◌∷◌, length, take, drop, min, max}
use Rattle.disk_port.specs.Story.{Event, Wrote, Tore, Synced, readable}

-- what a write of n bytes that is cut short may leave
pub record Torn (at n : ℕ) (old new : List ℕ) : Type 0 where
  pub before : take (min at (length old)) new ≡ take (min at (length old)) old
  pub after : drop (at + n) new ≡ drop (at + n) old
  pub no_shorter : length old ≤ length new
  pub no_longer : length new ≤ max (length old) (at + n)

-- what a crash after these events may leave
abbrev pub Leaves : List ℕ → List Event → List ℕ → Type 0
Leaves image [] c = c ≡ image
Leaves image (Wrote at piece ∷ events) c = (d : List ℕ) × Leaves image events d × Torn at (length piece) d c
Leaves image (Tore at n left ∷ events) c = (c ≡ left) ⊎ ((d : List ℕ) × Leaves image events d × Torn at n d c)
Leaves image (Synced ∷ events) c = c ≡ readable image events

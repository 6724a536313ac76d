-- The bodies of an open area as a reader has it.
use Rattle.std.specs.Prelude.{ℕ, ◌+◌, List, ◌∷◌, length}
use Rattle.journal.specs.Records.{walk}
use Rattle.journal.specs.declared.open_area.OpenArea.{OpenArea}

-- of a snapshot that begins at a place
abbrev pub bodies_of : ℕ → OpenArea → List (List ℕ)
bodies_of place r = r.snapshot.now ∷ (walk (length r.records.now) (place + length r.snapshot.now) r.records.now).bodies

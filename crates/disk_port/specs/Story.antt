-- What a disk tells of itself: the bytes that stood on it at first, and the writes and syncs since.
use Rattle.std.specs.Prelude.{ℕ, ◌+◌, ◌-◌, List, [], ◌∷◌, ◌++◌, length, take, drop, replicate, Bool, true, false}

pub data Event : Type 0 where
  Wrote : (at : ℕ) → (piece : List ℕ) → Event
  -- a write of n bytes that was cut short, and what is read after it
  Tore : (at n : ℕ) → (left : List ℕ) → Event
  Synced : Event

pub record Story : Type 0 where
  pub image : List ℕ
  -- the newest first
  pub events : List Event

-- lengthened by zeros to n bytes at least
abbrev pub widened : ℕ → List ℕ → List ℕ
widened n old = old ++ replicate (n - length old) 0

-- these bytes in the place of as many
abbrev pub over : ℕ → List ℕ → List ℕ → List ℕ
over at piece old = take at old ++ piece ++ drop (at + length piece) old

-- a piece is written: bytes between the old end and its place are 0
unfoldable pub put : ℕ → List ℕ → List ℕ → List ℕ
put at piece old = over at piece (widened (at + length piece) old)

-- what is read after these events
abbrev pub readable : List ℕ → List Event → List ℕ
readable image [] = image
readable image (Wrote at piece ∷ events) = put at piece (readable image events)
readable image (Tore at n left ∷ events) = left
readable image (Synced ∷ events) = readable image events

abbrev pub seen : Story → List ℕ
seen s = readable s.image s.events

-- the story goes on by these events, the newest first
abbrev pub with_events : List Event → Story → Story
with_events events s = record s { events = events ++ s.events }

-- nothing was written since the last sync
abbrev pub is_synced : List Event → Bool
is_synced [] = true
is_synced (Wrote at piece ∷ events) = false
is_synced (Tore at n left ∷ events) = false
is_synced (Synced ∷ events) = true

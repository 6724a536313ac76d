-- Bytes that count only behind a gate, a byte that is 1 where it is open. The gate is closed and on the disk before the
-- bytes are written, and they are on the disk before it is opened.
use Rattle.std.specs.Prelude.{◌≡◌, ◌⊎◌, ℕ, ◌+◌, List, [], ◌∷◌, ◌++◌, length, Bool, false, if◌then◌else◌, Result}
use Rattle.disk_port.specs.Story.{Event, Story, Wrote, Synced, put, seen}
use Rattle.disk_port.specs.Crash.{Torn}
use Rattle.disk_port.specs.Moments.{Steps}

-- a piece is written and on the disk
abbrev pub put_down : ℕ → List ℕ → List Event
put_down at piece = Synced ∷ Wrote at piece ∷ []

abbrev pub PutsDown : {T E : Type 0} → ℕ → List ℕ → Result T E → Story → Story → Type 0
PutsDown at piece result old new = Steps (Torn at (length piece) (seen old)) (put_down at piece) result old new

-- the gate at a place is closed, or stands closed already
abbrev pub gate_closed : ℕ → Bool → List ℕ → List ℕ
gate_closed at shut image = if shut then image else put at (0 ∷ []) image

-- and the bytes stand behind it
abbrev pub gate_filled : ℕ → Bool → List ℕ → List ℕ → List ℕ
gate_filled at shut bytes image = put (at + 1) bytes (gate_closed at shut image)

-- its closing alone, and then the rest
abbrev pub closing : ℕ → Bool → List Event
closing at shut = if shut then [] else put_down at (0 ∷ [])

abbrev pub opening : ℕ → List ℕ → List Event
opening at bytes = put_down at (1 ∷ []) ++ put_down (at + 1) bytes

abbrev pub Closes : {T E : Type 0} → ℕ → Bool → Result T E → Story → Story → Type 0
Closes at shut result old new = Steps (λ c. (c ≡ seen old) ⊎ ((shut ≡ false) × Torn at 1 (seen old) c)) (closing at shut) result old new

abbrev pub Opens : {T E : Type 0} → ℕ → List ℕ → Result T E → Story → Story → Type 0
Opens at bytes result old new =
    Steps (λ c. Torn (at + 1) (length bytes) (seen old) c ⊎ Torn at 1 (put (at + 1) bytes (seen old)) c) (opening at bytes) result old new

-- the four calls where the gate stands closed already, else the six, the newest first
abbrev pub gated : ℕ → Bool → List ℕ → List Event
gated at shut bytes = opening at bytes ++ closing at shut

-- what a crash in them may leave: the gate's closing is torn, the bytes are, or the gate's opening is
abbrev pub MayLeave : ℕ → Bool → List ℕ → List ℕ → List ℕ → Type 0
MayLeave at shut bytes image c =
    ((shut ≡ false) × Torn at 1 image c)
    ⊎ (Torn (at + 1) (length bytes) (gate_closed at shut image) c
    ⊎ Torn at 1 (gate_filled at shut bytes image) c)

abbrev pub Gates : {T E : Type 0} → ℕ → Bool → List ℕ → Result T E → Story → Story → Type 0
Gates at shut bytes result old new = Steps (MayLeave at shut bytes (seen old)) (gated at shut bytes) result old new

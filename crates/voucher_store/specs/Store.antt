-- A file is opened: a body of version 1 is written anew.
use Rattle.std.specs.Prelude.{◌≡◌, ◌≤◌, ◌⊎◌, ℕ, ◌+◌, ◌==◌, List, [], ◌∷◌, ◌++◌, Bool, true, false, if◌then◌else◌, Option, Some, None, Result, Ok, Err}
use Rattle.port_base.specs.Count.{Rises}
use Rattle.disk_port.specs.Story.{Event, Synced, Story, seen, with_events}
use Rattle.disk_port.specs.Crash.{Leaves}
use Rattle.disk_port.specs.Gated.{gated}
use Rattle.disk_port.specs.Moments.{Steps}
use Rattle.disk_port.specs.Told.{IfTold, rests}
use Rattle.disk_port.specs.declared.next_change.NextChange.{NextChange}
use Rattle.journal.specs.Areas.{Standing, base_of, stands, areas_for, cursor}
use Rattle.journal.specs.Changing.{IsCurrent, snapshot}
use Rattle.journal.specs.declared.cursor.Cursor.{Cursor}
use Rattle.voucher_map.specs.declared.kept.Kept.{Kept}
use Rattle.voucher_store.specs.Image.{goes_on, map_of}
use Rattle.voucher_store.specs.Writing.{body_of_snapshot}
use Rattle.voucher_store.specs.declared.fault.OpenFault.{OpenFault}
use Rattle.voucher_store.specs.declared.fault.OpenFault.TheVariants as opening

-- a body of version 1 is an array of three and the number 1
abbrev pub is_first_version : List ℕ → Bool
is_first_version (head ∷ version ∷ rest) = version == 1
is_first_version (head ∷ []) = false
is_first_version [] = false

abbrev pub first_is_old : List (List ℕ) → Bool
first_is_old [] = false
first_is_old (body ∷ records) = is_first_version body

abbrev pub is_old : Option Standing → Bool
is_old None = false
is_old (Some s) = first_is_old s.area.bodies

-- the writes and syncs of a new snapshot
abbrev pub snapshot_events : ℕ → NextChange → List Kept → List Event
snapshot_events limit change entries = gated (base_of (areas_for limit) change.side) change.shut (snapshot change.generation (body_of_snapshot entries))

abbrev pub renewal : ℕ → Result (List Kept) ℕ → List ℕ → List Event
renewal limit (Ok entries) image = snapshot_events limit (cursor (areas_for limit) image).next entries
renewal limit (Err place) image = []

abbrev pub open_events : ℕ → List ℕ → List Event
open_events limit image = (if is_old (stands (areas_for limit) image) then renewal limit (map_of limit image) image else []) ++ Synced ∷ []

-- a crash at any moment of it leaves what the disk might have left before, or what stands for the same
abbrev pub Opens : {T E : Type 0} → ℕ → Result T E → Story → Story → Type 0
Opens limit result old new = Steps (λ c. Leaves old.image old.events c ⊎ (map_of limit c ≡ map_of limit (seen old))) (open_events limit (seen old)) result old new

-- the disk tells these vouchers
abbrev pub Holds : ℕ → Option Story → List Kept → Type 0
Holds limit told entries = IfTold (λ s. map_of limit (seen s) ≡ Ok entries) told

-- ---- parts of it

-- a file was synced and read
pub record IsLoaded (limit : ℕ) (entries : List Kept) (now : Cursor) (old : Bool) (image : List ℕ) : Type 0 where
  pub content : map_of limit image ≡ Ok entries
  pub now_right : now ≡ cursor (areas_for limit) image
  pub old_right : old ≡ is_old (stands (areas_for limit) image)

abbrev pub Loads : {T : Type 0} → Result T OpenFault → Story → Story → Type 0
Loads (Err opening.Disk) s s' = (s' ≡ s) ⊎ (s' ≡ with_events (Synced ∷ []) s)
Loads (Err (opening.Foreign place)) s s' = s' ≡ with_events (Synced ∷ []) s
Loads (Err opening.NoMemory) s s' = s' ≡ with_events (Synced ∷ []) s
Loads (Ok _) s s' = s' ≡ with_events (Synced ∷ []) s

-- why an opening is refused
abbrev pub Refuses : ℕ → OpenFault → Option Story → Type 0
Refuses limit opening.Disk told = Unit {0}
Refuses limit (opening.Foreign place) told = IfTold (λ s. map_of limit (seen s) ≡ Err place) told
Refuses limit opening.NoMemory told = Unit {0}

abbrev pub IsForeign : ℕ → List ℕ → OpenFault → Type 0
IsForeign limit image opening.Disk = ⊥
IsForeign limit image (opening.Foreign place) = map_of limit image ≡ Err place
IsForeign limit image opening.NoMemory = Unit {0}

-- reading fails, but not since something foreign stands there
abbrev pub IsOwn : OpenFault → Type 0
IsOwn opening.Disk = Unit {0}
IsOwn (opening.Foreign place) = ⊥
IsOwn opening.NoMemory = Unit {0}

-- the count of faults rises only where the disk failed, and then it does
abbrev pub BlamesDisk : OpenFault → ℕ → ℕ → Type 0
BlamesDisk opening.Disk before now = Rises before now
BlamesDisk (opening.Foreign place) before now = now ≡ before
BlamesDisk opening.NoMemory before now = now ≡ before

abbrev pub CountsOpening : {T : Type 0} → Result T OpenFault → ℕ → ℕ → Type 0
CountsOpening (Ok _) before now = now ≡ before
CountsOpening (Err fault) before now = BlamesDisk fault before now

-- the content is written anew
abbrev pub Renews : {T E : Type 0} → ℕ → List Kept → NextChange → Result T E → Story → Story → Type 0
Renews limit entries change result old new = Steps (λ c. map_of limit c ≡ map_of limit (seen old)) (snapshot_events limit change entries) result old new

-- what a store is made of
pub record IsOpen (limit : ℕ) (told : Option Story) (entries : List Kept) (now : Cursor) : Type 0 where
  pub rested : rests told ≡ true
  pub current : IfTold (IsCurrent (areas_for limit) now) told
  pub content : Holds limit told entries

-- a snapshot has room in the area that it goes to
pub record Fits (limit : ℕ) (change : NextChange) (size : ℕ) (entries : List Kept) : Type 0 where
  pub short : size ≤ (areas_for limit).most
  pub room : goes_on limit (base_of (areas_for limit) change.side + (areas_for limit).room) (base_of (areas_for limit) change.side + (13 + size)) false entries ≡ true

-- what was read is made ready: a body of version 1 is written anew
abbrev pub ready_events : ℕ → List Kept → Cursor → Bool → List Event
ready_events limit entries now old = if old then snapshot_events limit now.next entries else []

abbrev pub MakesReady : {T E : Type 0} → ℕ → List Kept → Cursor → Bool → Result T E → Story → Story → Type 0
MakesReady limit entries now old result s s' = Steps (λ c. map_of limit c ≡ map_of limit (seen s)) (ready_events limit entries now old) result s s'

-- ---- a store as its callers see it

pub record StoreView (D : Type 0) : Type 0 where
  pub disk : D
  pub limit : ℕ
  pub entries : List Kept

-- the disk that an opening hands back
abbrev pub disk_opened : {D : Type 0} → Result (StoreView D) (D × OpenFault) → D
disk_opened (Ok s) = s.disk
disk_opened (Err e) = e.0

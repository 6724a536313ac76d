-- A store as its callers see it, and its answers.
use Rattle.std.specs.Prelude.{◌≡◌, ◌⊎◌, ◌<◌, ℕ, List, [], ◌∷◌, length, Bool, true, Option, Result, Ok, Err}
use Rattle.disk_port.specs.Story.{Story, Synced, seen, with_events}
use Rattle.disk_port.specs.Told.{IfTold, rests}
use Rattle.disk_port.specs.Slots.{stands, next_change}
use Rattle.disk_port.specs.declared.next_change.NextChange.{NextChange}
use Rattle.port_base.specs.Count.{Rises}
use Rattle.cbor_core.specs.declared.fault.CborFault.{CborFault}
use Rattle.cbor_core.specs.declared.fault.CborFault.TheVariants as cbor
use Rattle.cbor_core.specs.Whole.{place_of}
use Rattle.voucher_chain.specs.declared.credential.Credential.{Credential}
use Rattle.credential_store.specs.Body.{body_of_credential}
use Rattle.credential_store.specs.Image.{credential_slots, credential_at, is_old, Holds}
use Rattle.credential_store.specs.declared.fault.ImageFault.{ImageFault}
use Rattle.credential_store.specs.declared.fault.ImageFault.TheVariants as image
use Rattle.credential_store.specs.declared.fault.OpenFault.{OpenFault}
use Rattle.credential_store.specs.declared.fault.OpenFault.TheVariants as opening
use Rattle.credential_store.specs.declared.fault.ReserveFault.{ReserveFault}
use Rattle.credential_store.specs.declared.fault.ReserveFault.TheVariants as reserving

-- the disk, the credential on it, or none, and the one that is reserved
pub record StoreView (D : Type 0) : Type 0 where
  pub disk : D
  pub credential : Option Credential
  pub reserved : Option Credential

-- the disk that a commit or an opening hands back
abbrev pub disk_after : {D : Type 0} → Result (StoreView D) D → D
disk_after (Ok s) = s.disk
disk_after (Err disk) = disk

abbrev pub disk_opened : {D : Type 0} → Result (StoreView D) (D × OpenFault) → D
disk_opened (Ok s) = s.disk
disk_opened (Err e) = e.0

-- a reader answers what bytes stand for, or the place of their first fault, out of memory aside
abbrev pub Reads : {A : Type 0} → Result A ℕ → Result A ImageFault → Type 0
Reads told (Ok value) = told ≡ Ok value
Reads told (Err (image.Foreign place)) = told ≡ Err place
Reads told (Err image.NoMemory) = Unit {0}

-- a fault of CBOR has its place
abbrev pub IsAt : CborFault → ImageFault → Type 0
IsAt cbor.NoMemory found = found ≡ image.NoMemory
IsAt fault found = found ≡ image.Foreign (place_of fault)

-- why an opening is refused: the disk failed, or what is read stands for nothing
abbrev pub Refuses : OpenFault → Option Story → Type 0
Refuses opening.Disk told = Unit {0}
Refuses (opening.Foreign place) told = IfTold (λ s. credential_at (seen s) ≡ Err place) told
Refuses opening.NoMemory told = Unit {0}

-- the count of faults rises only where the disk failed, and then it does
abbrev pub Blames : OpenFault → ℕ → ℕ → Type 0
Blames opening.Disk before now = Rises before now
Blames (opening.Foreign place) before now = now ≡ before
Blames opening.NoMemory before now = now ≡ before

abbrev pub CountsOpening : {T : Type 0} → Result T OpenFault → ℕ → ℕ → Type 0
CountsOpening (Ok _) before now = now ≡ before
CountsOpening (Err fault) before now = Blames fault before now

-- a body has too many bytes
abbrev pub IsTooBig : Credential → ReserveFault → Type 0
IsTooBig c (reserving.TooBig n) = (n ≡ length (body_of_credential c)) × (8100 < n)
IsTooBig c reserving.NoMemory = Unit {0}

-- a file was synced and read: its content, its next change, and whether its body is of version 1
pub record IsLoaded (credential : Option Credential) (next : NextChange) (old : Bool) (image : List ℕ) : Type 0 where
  pub content : credential_at image ≡ Ok credential
  pub next_right : next_change credential_slots image ≡ next
  pub old_right : old ≡ is_old (stands credential_slots image)

-- loading syncs, and where the disk failed maybe not
abbrev pub Loads : {T : Type 0} → Result T OpenFault → Story → Story → Type 0
Loads (Err opening.Disk) s s' = (s' ≡ s) ⊎ (s' ≡ with_events (Synced ∷ []) s)
Loads (Err (opening.Foreign place)) s s' = s' ≡ with_events (Synced ∷ []) s
Loads (Err opening.NoMemory) s s' = s' ≡ with_events (Synced ∷ []) s
Loads (Ok _) s s' = s' ≡ with_events (Synced ∷ []) s

-- reading fails, but not since something foreign stands there
abbrev pub IsOwn : OpenFault → Type 0
IsOwn opening.Disk = Unit {0}
IsOwn (opening.Foreign place) = ⊥
IsOwn opening.NoMemory = Unit {0}

-- what a store is made of
pub record IsReady (told : Option Story) (credential : Option Credential) (next : NextChange) : Type 0 where
  pub rested : rests told ≡ true
  pub next_right : IfTold (λ s. next_change credential_slots (seen s) ≡ next) told
  pub content : Holds told credential

-- an image that stands for nothing
abbrev pub IsForeign : List ℕ → OpenFault → Type 0
IsForeign image opening.Disk = ⊥
IsForeign image (opening.Foreign place) = credential_at image ≡ Err place
IsForeign image opening.NoMemory = Unit {0}

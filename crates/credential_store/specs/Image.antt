-- What the image of a credential file stands for.
use Rattle.std.specs.Prelude.{◌≡◌, ◌⊎◌, ℕ, ◌+◌, ◌==◌, List, [], ◌∷◌, ◌++◌, Bool, true, false, if◌then◌else◌, Option, Some, None, Result, Ok, Err}
use Rattle.disk_port.specs.Slots.{Standing, base, stands, next_change, payload}
use Rattle.disk_port.specs.Story.{Event, Synced, Story, seen}
use Rattle.disk_port.specs.Crash.{Leaves}
use Rattle.disk_port.specs.Gated.{gated}
use Rattle.disk_port.specs.Moments.{Steps}
use Rattle.disk_port.specs.Told.{IfTold, rests}
use Rattle.disk_port.specs.declared.slots.Slots.{Slots}
use Rattle.disk_port.specs.declared.next_change.NextChange.{NextChange}
use Rattle.voucher_chain.specs.declared.credential.Credential.{Credential}
use Rattle.credential_store.specs.Body.{body_at, body_of_credential}

-- two slots, at 0 and 8,192, for bodies of at most 8,100 bytes
abbrev pub credential_slots : Slots
credential_slots = record { second = 8192; most = 8100 }

-- a credential, or the offset in the file of the first fault of a body that begins at one
abbrev pub placed : ℕ → Result Credential ℕ → Result (Option Credential) ℕ
placed at (Ok credential) = Ok (Some credential)
placed at (Err place) = Err (at + place)

abbrev pub content_of : Slots → Option Standing → Result (Option Credential) ℕ
content_of slots None = Ok None
content_of slots (Some s) = placed (base slots s.side + 13) (body_at s.body)

-- the credential that a file stands for, or none where no slot is open, or the place of its first fault
unfoldable pub credential_at : List ℕ → Result (Option Credential) ℕ
credential_at image = content_of credential_slots (stands credential_slots image)

-- what is known of a disk that tells
abbrev pub told_content : Option Story → Option Credential → Result (Option Credential) ℕ
told_content None current = Ok current
told_content (Some s) current = credential_at (seen s)

abbrev pub told_next : Option Story → NextChange → NextChange
told_next None next = next
told_next (Some s) next = next_change credential_slots (seen s)

-- ---- what the calls of a store do

-- the writes and syncs of a change to a credential, the newest first
abbrev pub change_events : Slots → NextChange → List ℕ → List Event
change_events slots change body = gated (base slots change.side) change.shut (payload change.generation body)

unfoldable pub commit_events : Option Credential → List ℕ → List Event
commit_events None image = []
commit_events (Some c) image = change_events credential_slots (next_change credential_slots image) (body_of_credential c)

-- a commit: a crash at any moment of it leaves what stands for the credential from before it, or for the one that is reserved
abbrev pub Commits : {T E : Type 0} → Option Credential → Result T E → Story → Story → Type 0
Commits reserved result old new =
    Steps (λ c. (credential_at c ≡ credential_at (seen old)) ⊎ (credential_at c ≡ Ok reserved)) (commit_events reserved (seen old)) result old new

-- a body of version 1 is an array of six, whose head is 86
abbrev pub is_first_version : List ℕ → Bool
is_first_version [] = false
is_first_version (head ∷ rest) = head == 134

abbrev pub is_old : Option Standing → Bool
is_old None = false
is_old (Some s) = is_first_version s.body

-- the writes and syncs by which a body of version 1 is written anew
abbrev pub renewal : Result (Option Credential) ℕ → List ℕ → List Event
renewal (Ok content) image = commit_events content image
renewal (Err place) image = []

abbrev pub open_events : List ℕ → List Event
open_events image = (if is_old (stands credential_slots image) then renewal (credential_at image) image else []) ++ Synced ∷ []

-- a file is opened: a crash at any moment of it leaves what it might have left before, or what stands for the same
abbrev pub Opens : {T E : Type 0} → Result T E → Story → Story → Type 0
Opens result old new =
    Steps (λ c. Leaves old.image old.events c ⊎ (credential_at c ≡ credential_at (seen old))) (open_events (seen old)) result old new

-- a file's content is written anew
abbrev pub Renews : {T E : Type 0} → Credential → Result T E → Story → Story → Type 0
Renews credential result old new =
    Steps (λ c. credential_at c ≡ credential_at (seen old)) (commit_events (Some credential) (seen old)) result old new

-- the disk tells this content
abbrev pub Holds : Option Story → Option Credential → Type 0
Holds told content = IfTold (λ s. credential_at (seen s) ≡ Ok content) told

-- what holds of a store between two calls
pub record IsSound (told : Option Story) (credential : Option Credential) (generation : ℕ) (next : NextChange) : Type 0 where
  pub rested : rests told ≡ true
  pub next_right : told_next told next ≡ next
  pub content_right : told_content told credential ≡ Ok credential
  pub generation_right : generation ≡ next.generation

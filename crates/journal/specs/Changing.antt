-- The two changes of a journal: one more record, or a snapshot in the other area.
use Rattle.std.specs.Prelude.{◌≡◌, ◌⊎◌, ℕ, ◌+◌, ◌≤◌, List, [], ◌∷◌, ◌++◌, length, drop, Bool, true, false, Option, Some, None, option_map, Result}
use Rattle.disk_port.specs.Story.{Story, Event, seen}
use Rattle.disk_port.specs.Moments.{Steps}
use Rattle.disk_port.specs.Gated.{gated}
use Rattle.disk_port.specs.Slots.{payload, change_after, other}
use Rattle.disk_port.specs.declared.next_change.NextChange.{NextChange}
use Rattle.journal.specs.Records.{framed}
use Rattle.journal.specs.Areas.{Area, Standing, base_of, stands, cursor, IsReady}
use Rattle.journal.specs.declared.areas.Areas.{Areas}
use Rattle.journal.specs.declared.cursor.Cursor.{Cursor}

-- what counts, with one more body
abbrev pub with_body : List ℕ → Area → Area
with_body body a = record { generation = a.generation; bodies = a.bodies ++ body ∷ []; place = a.place + (5 + length body); one = false }

abbrev pub recorded : List ℕ → Standing → Standing
recorded body s = record { side = s.side; area = with_body body s.area }

-- a snapshot alone
abbrev pub fresh : Areas → NextChange → List ℕ → Standing
fresh areas change body = record {
  side = change.side;
  area = record { generation = change.generation; bodies = body ∷ []; place = base_of areas change.side + (13 + length body); one = false };
}

-- the bytes of a snapshot behind its gate, up to the next gate, which is closed
unfoldable pub snapshot : ℕ → List ℕ → List ℕ
snapshot generation body = payload generation body ++ 0 ∷ []

-- ---- between changes

-- this is where the journal of a disk goes on, and the gate there is not 1
pub record IsCurrent (areas : Areas) (now : Cursor) (s : Story) : Type 0 where
  pub is : now ≡ cursor areas (seen s)
  pub ready : IsReady (stands areas (seen s))

-- a record that begins at a place has room with the gate behind it, in the area that counts
abbrev pub HasRoom : Areas → Cursor → ℕ → List ℕ → Type 0
HasRoom areas now place body = place + (6 + length body) ≤ base_of areas (other now.next.side) + areas.room

-- ---- a record

abbrev pub one_more : List ℕ → Option Standing → Option Standing
one_more body standing = option_map (recorded body) standing

abbrev pub IsSameOrMore : Areas → List ℕ → List ℕ → List ℕ → Type 0
IsSameOrMore areas body before c = (stands areas c ≡ stands areas before) ⊎ (stands areas c ≡ one_more body (stands areas before))

-- at each moment a crash leaves what stands for the bodies before the change, or for these and one more
abbrev pub Appends : {T E : Type 0} → Areas → ℕ → List ℕ → Result T E → Story → Story → Type 0
Appends areas place body result old new = Steps (IsSameOrMore areas body (seen old)) (gated place true (framed body)) result old new

abbrev pub HasMore : Areas → List ℕ → Story → Story → Type 0
HasMore areas body old new = stands areas (seen new) ≡ one_more body (stands areas (seen old))

-- ---- a snapshot

abbrev pub IsSameOrFresh : Areas → NextChange → List ℕ → List ℕ → List ℕ → Type 0
IsSameOrFresh areas change body before c = (stands areas c ≡ stands areas before) ⊎ (stands areas c ≡ Some (fresh areas change body))

-- at each moment a crash leaves what stands for the bodies before the change, or for the snapshot
abbrev pub Rewrites : {T E : Type 0} → Areas → NextChange → List ℕ → Result T E → Story → Story → Type 0
Rewrites areas change body result old new =
    Steps (IsSameOrFresh areas change body (seen old)) (gated (base_of areas change.side) change.shut (snapshot change.generation body)) result old new

-- it stands for the snapshot alone
pub record IsFresh (areas : Areas) (change : NextChange) (body : List ℕ) (s : Story) : Type 0 where
  pub is_fresh : stands areas (seen s) ≡ Some (fresh areas change body)

-- where the journal goes on after a change
abbrev pub cursor_after_record : List ℕ → ℕ → Cursor → Cursor
cursor_after_record body place now = record { next = now.next; place = Some (place + (5 + length body)) }

abbrev pub cursor_after_snapshot : Areas → List ℕ → Cursor → Cursor
cursor_after_snapshot areas body now = record { next = change_after now.next; place = Some (base_of areas now.next.side + (13 + length body)) }

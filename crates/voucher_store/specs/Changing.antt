-- What a change of a voucher file leaves at each moment.
use Rattle.std.specs.Prelude.{◌≡◌, ◌⊎◌, List, ℕ, Result, Ok}
use Rattle.disk_port.specs.Story.{Event, Story}
use Rattle.disk_port.specs.Moments.{Steps}
use Rattle.voucher_map.specs.declared.kept.Kept.{Kept}
use Rattle.voucher_store.specs.Image.{map_of}

-- an image stands for the map from before a change, or for the one after it
abbrev pub IsBeforeOrAfter : ℕ → List Kept → List Kept → List ℕ → Type 0
IsBeforeOrAfter limit before after image = (map_of limit image ≡ Ok before) ⊎ (map_of limit image ≡ Ok after)

-- a crash at any moment of a call leaves one of the two, and where it is done, just these events came
abbrev pub Changes : {T E : Type 0} → ℕ → List Event → List Kept → List Kept → Result T E → Story → Story → Type 0
Changes limit events before after result old new = Steps (IsBeforeOrAfter limit before after) events result old new

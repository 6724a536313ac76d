-- The turns of ServiceInfo in TO2 (FIDO Device Onboard 1.1, section 5.5): while a side has more to send, the other sends nothing.
use Rattle.std.specs.Prelude.{ℕ, List, [], ◌∷◌, ◌++◌, Bool, true, false, ◌||◌, ◌&&◌, nat_le, if◌then◌else◌, Option, Some, None, Result, Ok, Err}
use Rattle.service_info.specs.Devmod.{devmod_of}
use Rattle.service_info.specs.Fault.{fault_of}
use Rattle.service_info.specs.Packed.{too_wide}
use Rattle.service_info.specs.Pairs.{length_of}
use Rattle.service_info.specs.Turn.{refusal}
use Rattle.service_info.specs.declared.info_fault.InfoFault.{InfoFault}
use Rattle.service_info.specs.declared.info_fault.InfoFault.TheVariants as fault
use Rattle.service_info.specs.declared.pair.Pair.{Pair}
use Rattle.voucher_chain.specs.Fault.{or_else}
use Rattle.fdo_msgs.specs.declared.cause.Cause.{Cause}
use Rattle.fdo_msgs.specs.declared.cause.Cause.TheVariants as cause

-- ---- lists

-- the longest front whose list has room in a message, and the rest
abbrev pub cut_from : ℕ → List Pair → List Pair → List Pair × List Pair
cut_from size list [] = (list, [])
cut_from size list (pair ∷ pairs) = if nat_le (length_of (list ++ pair ∷ [])) size then cut_from size (list ++ pair ∷ []) pairs else (list, pair ∷ pairs)

unfoldable pub cut : ℕ → List Pair → List Pair × List Pair
cut size pairs = cut_from size [] pairs

abbrev pub is_empty : List Pair → Bool
is_empty [] = true
is_empty (pair ∷ pairs) = false

-- ---- faults

-- a side that says more or done while this side's last message said more
abbrev pub out_of_turn : Bool → Bool → Option InfoFault
out_of_turn mine_open says = if mine_open && says then Some fault.NotYourTurn else None

-- more and done at once
abbrev pub at_once : Bool → Bool → Option InfoFault
at_once more done = if more && done then Some fault.NotYourTurn else None

-- of the owner's message, at a device
abbrev pub owner_fault : Bool → Bool → Bool → List Pair → Option InfoFault
owner_fault mine_open more done pairs = or_else (at_once more done) (or_else (out_of_turn mine_open (more || done)) (refusal mine_open pairs))

-- of the device's message, at an owner
abbrev pub device_fault : Bool → Bool → List Pair → Option InfoFault
device_fault mine_open more pairs = or_else (out_of_turn mine_open more) (refusal mine_open pairs)

-- all that the device has said, once it says no more: its devmod, and then pairs of the owner's own that have no room
abbrev pub first_fault : ℕ → List Pair → List Pair → Option InfoFault
first_fault size said mine = or_else (fault_of (devmod_of said)) (too_wide size mine)

abbrev pub info_check : Option InfoFault → Result (Unit {0}) Cause
info_check None = Ok tt
info_check (Some f) = Err (cause.Info f)

-- at most so many messages of an end in a session
abbrev pub most_rounds : ℕ
most_rounds = 65536

-- Which message a body says, or where its first fault stands: a fault of its CBOR, else the first part that is not of
-- the message's form, else the first byte after the item.
use Rattle.std.specs.Prelude.{◌≡◌, ℕ, List, Result, Ok, Err, if◌then◌else◌}
use Rattle.cbor_core.specs.declared.fault.CborFault.{CborFault}
use Rattle.cbor_core.specs.declared.fault.CborFault.TheVariants as cbor
use Rattle.cbor_core.specs.Whole.{place_of, seen_at}
use Rattle.fdo_msgs.specs.declared.body_fault.BodyFault.{BodyFault}
use Rattle.fdo_msgs.specs.declared.body_fault.BodyFault.TheVariants as faults
use Rattle.fdo_msgs.specs.declared.msg.Msg.{Msg}
use Rattle.fdo_msgs.specs.Body.{msg_seen, msg_place, is_kind}

-- the message of a type, or the place; a body of no known type is at fault at its begin
unfoldable pub body_at : ℕ → List ℕ → Result Msg ℕ
body_at kind bytes = if is_kind kind then seen_at (msg_seen kind) (msg_place kind) bytes else Err 0

-- what a reader answers is what the bytes say, out of memory aside
abbrev pub ReadsBody : Result Msg ℕ → Result Msg BodyFault → Type 0
ReadsBody said (Ok msg) = said ≡ Ok msg
ReadsBody said (Err (faults.Body place)) = said ≡ Err place
ReadsBody said (Err faults.NoMemory) = Unit {0}

-- a fault of CBOR as one of the body
abbrev pub IsFault : CborFault → BodyFault → Type 0
IsFault cbor.NoMemory found = found ≡ faults.NoMemory
IsFault fault found = found ≡ faults.Body (place_of fault)

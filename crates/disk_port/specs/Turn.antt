-- What comes of the next call on a disk in memory.
use Rattle.std.specs.Prelude.{◌≡◌, ℕ, ◌-◌, ◌==◌, nat_le, Bool, true, false, if◌then◌else◌}
use Rattle.disk_port.specs.Picked.{has_come}
use Rattle.disk_port.specs.declared.stops.Pick.{Pick}
use Rattle.disk_port.specs.declared.stop.Stop.{Stop}
use Rattle.disk_port.specs.declared.stop.Stop.TheVariants as stop
use Rattle.disk_port.specs.declared.stop.Turn.{Turn}
use Rattle.disk_port.specs.declared.stop.Turn.TheVariants as turn

-- the stop at a call from now on, or none
abbrev pub stop_in : ℕ → Pick → Stop
stop_in call which = if call == 0 then stop.Absent else stop.In call which

abbrev pub goes_unless : Bool → Turn
goes_unless fails = if fails then turn.Fails else turn.Goes

-- the call at the stop is the last; every other goes by its number
abbrev pub turn_of : Stop → Bool → Turn
turn_of stop.Absent fails = goes_unless fails
turn_of (stop.In calls which) fails = if nat_le calls 1 then turn.Stops which else goes_unless fails
turn_of (stop.Come which left) fails = turn.Fails

-- one call less to the stop
abbrev pub nearer : Stop → Stop
nearer stop.Absent = stop.Absent
nearer (stop.In calls which) = if nat_le calls 1 then stop.In calls which else stop.In (calls - 1) which
nearer (stop.Come which left) = stop.Come which left

-- only where it fails, a stop may have come
abbrev pub IsOn : Turn → Stop → Type 0
IsOn turn.Goes s = has_come s ≡ false
IsOn (turn.Stops which) s = has_come s ≡ false
IsOn turn.Fails s = Unit {0}

abbrev pub goes : Turn → Bool
goes turn.Goes = true
goes (turn.Stops which) = false
goes turn.Fails = false

-- The numbered calls on an object in memory, some of which fail by their number.
use Rattle.std.specs.Prelude.{ℕ, ◌+◌, ◌-◌, ◌^◌, ◌==◌, ◌||◌, min, Bool, if◌then◌else◌}
use Rattle.std.specs.List.{list_any}
use Rattle.std.specs.declared.vec.Vec.{Vec}
use Rattle.std.specs.declared.alloc.Global.{Global}
use Rattle.port_base.specs.declared.calls.Calls.{Calls}

-- no call came yet, and those with these numbers are to fail
abbrev pub no_calls : Vec ℕ Global → Calls
no_calls fail = record { fail = fail; calls = 0; faults = 0 }

-- the next call fails: its number is listed, or no further number can be given
abbrev pub fails_next : Calls → Bool
fails_next c = (c.calls == 2 ^ 64 - 1) || list_any (λ n. n == c.calls + 1) c.fail.items

-- how many calls failed, at most 2^64 - 1
abbrev pub faults_of : Calls → ℕ
faults_of c = c.faults

-- the last call failed
abbrev pub faulted : Calls → Calls
faulted c = record c { faults = min (c.faults + 1) (2 ^ 64 - 1) }

-- a further call came, and did not fail
abbrev pub counted : Calls → Calls
counted c = record c { calls = min (c.calls + 1) (2 ^ 64 - 1) }

-- a further call came, and failed or not
abbrev pub after_call : Calls → Bool → Calls
after_call c failed = if failed then faulted (counted c) else counted c

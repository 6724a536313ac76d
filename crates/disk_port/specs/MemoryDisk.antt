-- What a disk in memory tells, and the calls that came to it.
use Rattle.std.specs.Prelude.{ℕ, List}
use Rattle.disk_port.specs.Story.{Story}
use Rattle.disk_port.specs.Picked.{left_at}
use Rattle.disk_port.specs.Turn.{turn_of}
use Rattle.disk_port.specs.declared.stop.Turn.{Turn}
use Rattle.port_base.specs.Scheduled.{fails_next}
use Rattle.disk_port.specs.declared.memory_disk.MemoryDisk.{MemoryDisk}
use Rattle.disk_port.specs.declared.stop.Stop.{Stop}
use Rattle.port_base.specs.declared.calls.Calls.{Calls}

abbrev pub story_of : MemoryDisk → Story
story_of m = m.history

abbrev pub disk_calls : MemoryDisk → Calls
disk_calls m = m.numbered

abbrev pub calls_of : MemoryDisk → ℕ
calls_of m = m.calls

abbrev pub stop_of : MemoryDisk → Stop
stop_of m = m.stop

-- what stands on it
abbrev pub image_of : MemoryDisk → List ℕ
image_of m = left_at m.stop m.history

-- what comes of the next call
abbrev pub turn_next : MemoryDisk → Turn
turn_next m = turn_of m.stop (fails_next m.numbered)

-- What the objects in memory hold, and the calls that came to them.
use Rattle.std.specs.Prelude.{◌≡◌, ℕ, ◌+◌, ◌<◌, List, [], ◌∷◌, ◌++◌, length, min, take, drop, vec_len}
use Rattle.std.specs.List.{flat_map}
use Rattle.std.specs.Vec.{vec_capacity}
use Rattle.std.specs.declared.vec.Vec.{Vec}
use Rattle.std.specs.declared.alloc.Global.{Global}
use Rattle.port_base.specs.declared.calls.Calls.{Calls}
use Rattle.fdo_ports.specs.declared.list_clock.ListClock.{ListClock}
use Rattle.fdo_ports.specs.declared.list_random.ListRandom.{ListRandom}
use Rattle.fdo_ports.specs.declared.memory_sink.MemorySink.{MemorySink}
use Rattle.fdo_ports.specs.declared.memory_source.MemorySource.{MemorySource}
use Rattle.fdo_ports.specs.declared.plain.PlainSource.{PlainSource}

-- the pieces, one after another
abbrev pub joined : List (Vec ℕ Global) → List ℕ
joined pieces = flat_map (λ piece. piece.items) pieces

-- what is left of the pieces behind the first bytes of the first one
abbrev pub behind : List (Vec ℕ Global) → ℕ → List ℕ
behind [] at = []
behind (piece ∷ pieces) at = drop at piece.items ++ joined pieces

-- what a source in memory has left
abbrev pub bytes_left : MemorySource → List ℕ
bytes_left s = behind (drop s.piece s.pieces.items) s.at

-- a piece in front of others; an empty one is passed over
abbrev pub in_front : List ℕ → List (List ℕ) → List (List ℕ)
in_front [] pieces = pieces
in_front (byte ∷ piece) pieces = (byte ∷ piece) ∷ pieces

-- the pieces that are not empty
abbrev pub filled : List (Vec ℕ Global) → List (List ℕ)
filled [] = []
filled (piece ∷ pieces) = in_front piece.items (filled pieces)

-- those of them that are left behind the first bytes of the first one
abbrev pub filled_behind : List (Vec ℕ Global) → ℕ → List (List ℕ)
filled_behind [] at = []
filled_behind (piece ∷ pieces) at = in_front (drop at piece.items) (filled pieces)

-- the pieces that a source in memory has left, the first one maybe in part
abbrev pub pieces_left : MemorySource → List (List ℕ)
pieces_left s = filled_behind (drop s.piece s.pieces.items) s.at

-- a read takes as many bytes of the first piece as there is room for, and none where no piece is left
abbrev pub TakesFront : List (List ℕ) → ℕ → ℕ → List (List ℕ) → Type 0
TakesFront [] room n pieces' = (n ≡ 0) × (pieces' ≡ [])
TakesFront (piece ∷ pieces) room n pieces' = (n ≡ min room (length piece)) × (pieces' ≡ in_front (drop n piece) pieces)

abbrev pub source_calls : MemorySource → Calls
source_calls s = s.calls

-- what counts as written to a sink in memory
abbrev pub bytes_written : MemorySink → List ℕ
bytes_written s = s.content.items

-- it would need more memory for this many more bytes
abbrev pub IsFull : MemorySink → ℕ → Type 0
IsFull s more = vec_capacity s.content < vec_len s.content + more

abbrev pub sink_calls : MemorySink → Calls
sink_calls s = s.calls

-- the draws that a list has given, and those that are left
abbrev pub draws_given : ListRandom → List (List ℕ)
draws_given r = take r.given r.content.items

abbrev pub draws_left : ListRandom → List (List ℕ)
draws_left r = drop r.given r.content.items

abbrev pub random_calls : ListRandom → Calls
random_calls r = r.calls

-- the seconds that a list has given, and those that are left
abbrev pub seconds_given : ListClock → List ℕ
seconds_given c = take c.given c.content.items

abbrev pub seconds_left : ListClock → List ℕ
seconds_left c = drop c.given c.content.items

abbrev pub clock_calls : ListClock → Calls
clock_calls c = c.calls

-- what a source that never fails has left
abbrev pub plain_left : PlainSource → List ℕ
plain_left s = drop s.given s.content.items

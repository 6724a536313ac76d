use Rattle.std.proofs.Common.{◌≡◌, ◌-◌, vec_len}
use Rattle.fdo_ports.specs.MemoryObjects.{bytes_left, pieces_left}
use Rattle.port_base.specs.Scheduled.{counted}
use Rattle.fdo_ports.proofs.memory_source.MemorySourceSource.read.Given as goal

-- what is left is what was left, and nothing is read yet
abbrev pub invariant-loop-self : goal.invariant-loop-self
invariant-loop-self l = record {
  left : bytes_left l.self ≡ bytes_left l.fn.self;
  pieces : pieces_left l.self ≡ pieces_left l.fn.self;
  buffer : l.into ≡ l.fn.into;
  calls : l.self.calls ≡ counted l.fn.self.calls;
}

abbrev pub decreases-loop-self : goal.decreases-loop-self
decreases-loop-self l = vec_len l.self.pieces - l.self.piece

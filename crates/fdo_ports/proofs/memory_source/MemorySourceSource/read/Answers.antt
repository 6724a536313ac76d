use Rattle.std.proofs.Common.{rules}
use Rattle.fdo_ports.proofs.Behind.{gives_piece}
use Rattle.fdo_ports.proofs.Pieces.{takes_piece}
use Rattle.fdo_ports.proofs.memory_source.MemorySourceSource.read.Goals as goal

pub returns-then-self-len-clause-bytes : goal.returns-then-self-len-clause-bytes
returns-then-self-len-clause-bytes c = gives_piece c.loop-self.self.pieces.items c.index-piece.result.now c.split_at.result.1.now c.loop-self.into c.copy_front-count.new.into _ c.loop-self.self.piece c.loop-self.self.at c.copy_front-count.result (search rules) (search rules) (search rules) (search rules) (search rules) (search rules) (search rules) c.loop-self.invariant.left

pub returns-then-self-len-clause-pieces : goal.returns-then-self-len-clause-pieces
returns-then-self-len-clause-pieces c = takes_piece c.loop-self.self.pieces.items c.index-piece.result.now c.split_at.result.1.now _ c.loop-self.self.piece c.loop-self.self.at _ c.copy_front-count.result (search rules) (search rules) (search rules) (search rules) (search rules) c.loop-self.invariant.pieces

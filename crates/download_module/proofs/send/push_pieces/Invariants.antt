use Rattle.std.proofs.Common.{◌≡◌, ◌++◌, ◌-◌, map}
use Rattle.download_module.specs.Sent.{data_pair, pieces}
use Rattle.download_module.proofs.send.push_pieces.Given as goal

abbrev pub invariant-loop-piece : goal.invariant-loop-piece
invariant-loop-piece l = l.pairs.items ++ map data_pair (pieces (l.count - l._piece) l.rest) ≡ l.initial.pairs.items ++ map data_pair (pieces l.count l.file)

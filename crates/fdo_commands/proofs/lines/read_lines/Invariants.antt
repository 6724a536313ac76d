use Rattle.std.proofs.Common.{length}
use Rattle.fdo_commands.proofs.LineFeeds.{ReadSoFar}
use Rattle.fdo_commands.proofs.lines.read_lines.Given as goal

abbrev pub invariant-loop-rest : goal.invariant-loop-rest
invariant-loop-rest l = ReadSoFar l.bytes l.packets.items l.rest

abbrev pub decreases-loop-rest : goal.decreases-loop-rest
decreases-loop-rest l = length l.rest

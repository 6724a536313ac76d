use Rattle.std.proofs.Common.{◌++◌}
use Rattle.fdo_commands.proofs.BytesTaken.{took_more}
use Rattle.fdo_commands.proofs.input.read_input.Goals as goal

pub returns-then-is_err-clause-bytes : goal.returns-then-is_err-clause-bytes
returns-then-is_err-clause-bytes g c =
    let left = g.I.Channel.left in (
      c.loop-buffer.all.items ++ c.split_at.result.0.now,
      took_more (left c.args.input.now) (left c.loop-buffer.input) (left c.read.new.self) c.loop-buffer.all.items c.split_at.result.0.now c.loop-buffer.invariant.took (rw c.split_at.ensures.front c.in-Ok.ensures.bytes.1),
    )

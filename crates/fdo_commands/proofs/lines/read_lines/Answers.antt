use Rattle.std.proofs.Common.{subst}
use Rattle.fdo_commands.specs.Input.{ReadsLine}
use Rattle.fdo_commands.proofs.LineFeeds.{more_lines}
use Rattle.fdo_commands.proofs.lines.read_lines.Goals as goal

pub loop-rest-preserved : goal.loop-rest-preserved
loop-rest-preserved c =
    let line = subst (ReadsLine c.loop-rest.rest.now) c.in-Ok-Says.field-0-is c.in-Ok-Says.ensures in
    more_lines c.args.bytes.now c.loop-rest.rest.now c.in-Ok-Says.after.now c.loop-rest.packets.items c.push.new.self.items c.in-Ok-Says.packet c.loop-rest.invariant line.0 line.1 c.in_ok-push-in-Ok-Says.ensures.items

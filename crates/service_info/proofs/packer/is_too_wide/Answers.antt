use Rattle.std.proofs.Common.{sym}
use Rattle.service_info.proofs.PackLaws.{alone_has_room, alone_has_none}
use Rattle.service_info.proofs.packer.is_too_wide.Goals as goal

pub returns-in-Some : goal.returns-in-Some
returns-in-Some c = let room = c.in-Some.ensures.some in sym (alone_has_room c.args.size c.in-Some.field-0 c.args.pair.now room.0 room.1)

pub returns-in-None : goal.returns-in-None
returns-in-None c = sym (alone_has_none c.args.size c.args.pair.now c.in-None.ensures.none)

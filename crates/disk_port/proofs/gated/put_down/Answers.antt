use Rattle.disk_port.proofs.Gates.{put_down_done}
use Rattle.disk_port.proofs.gated.put_down.Goals as goal

pub returns-in-Ok-clause-told : goal.returns-in-Ok-clause-told
returns-in-Ok-clause-told g c = put_down_done _ _ _ c.args.at c.args.piece.now _ _ c.requires.rests c.in-Ok.ensures.told c.sync.ensures.told

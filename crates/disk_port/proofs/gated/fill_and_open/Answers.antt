use Rattle.disk_port.proofs.Gates.{fill_opened}
use Rattle.disk_port.proofs.gated.fill_and_open.Goals as goal

pub returns-in-Ok-clause-told : goal.returns-in-Ok-clause-told
returns-in-Ok-clause-told g c = fill_opened _ _ _ c.args.at c.args.bytes.now _ c.in-Ok.ensures.told c.put_down-in-Ok.ensures.told

use Rattle.disk_port.proofs.Gates.{closed_opened}
use Rattle.disk_port.proofs.gated.put_gated.Goals as goal

pub returns-in-Ok-clause-told : goal.returns-in-Ok-clause-told
returns-in-Ok-clause-told g c =
    closed_opened _ _ _ c.args.at c.args.shut c.args.bytes.now _ c.in-Ok.ensures.told c.fill_and_open.ensures.told

use Rattle.std.proofs.Common.{refl, length}
use Rattle.cbor_core.proofs.PartLaws.{end_found, end_stays}
use Rattle.cbor_core.proofs.cursor.Cursor.end.Goals as goal

pub returns-in-Ok : goal.returns-in-Ok
returns-in-Ok c = end_found (length c.args.self.now.tail.now) c.args.self.now.levels c.args.self.now.tail.now c.in-Ok.rest.now c.in-Ok.ensures.gives

pub returns-in-Err : goal.returns-in-Err
returns-in-Err c = end_stays (length c.args.self.now.tail.now) c.args.self.now.levels c.args.self.now.tail.now c.args.self.now.tail.now c.in-Err.field-0 (c.in-Err.ensures.exact refl)

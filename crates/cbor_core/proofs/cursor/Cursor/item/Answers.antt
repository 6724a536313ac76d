use Rattle.std.proofs.Common.{◌++◌, length}
use Rattle.cbor_core.proofs.PartLaws.{item_is}
use Rattle.cbor_core.proofs.cursor.Cursor.item.Goals as goal

pub returns-in-Ok : goal.returns-in-Ok
returns-in-Ok c = λ input x text later s. item_is (length c.args.self.now.tail.now) c.args.self.now.levels c.args.self.now.tail.now c.in-Ok._rest.now c.in-Ok.item c.in-Ok.ensures x text (s.row ++ s.rest) s.spelled s.bytes

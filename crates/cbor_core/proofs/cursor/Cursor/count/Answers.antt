use Rattle.std.proofs.Common.{length}
use Rattle.cbor_core.proofs.PartLaws.{inside_read}
use Rattle.cbor_core.proofs.CountLaws.{count_is}
use Rattle.cbor_core.proofs.cursor.Cursor.count.Goals as goal

pub returns-in-Ok : goal.returns-in-Ok
returns-in-Ok c = λ input x text later s. count_is c.args.self.now input x text later s (length c.args.self.now.tail.now) c.saturating_sub.result c.saturating_sub.ensures c.in-Ok.head c.in-Ok.rest.now c.in-Ok.ensures.gives c.find_count.result c.find_count.ensures

pub returns-in-Err : goal.returns-in-Err
returns-in-Err c = λ input x text later s. absurd (inside_read c.args.self.now input x text later s c.in-Err.field-0 c.in-Err.ensures.exact)

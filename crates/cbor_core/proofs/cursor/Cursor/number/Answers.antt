use Rattle.std.proofs.Common.{◌∙◌}
use Rattle.cbor_core.proofs.PartLaws.{number_is, inside_read}
use Rattle.cbor_core.proofs.cursor.Cursor.number.Goals as goal

pub returns-in-Ok : goal.returns-in-Ok
returns-in-Ok c = λ input x text later s. c.find_number.ensures ∙ number_is c.args.self.now input x text later s c.in-Ok.head c.in-Ok._rest.now c.in-Ok.ensures.gives

pub returns-in-Err : goal.returns-in-Err
returns-in-Err c = λ input x text later s. absurd (inside_read c.args.self.now input x text later s c.in-Err.field-0 c.in-Err.ensures.exact)

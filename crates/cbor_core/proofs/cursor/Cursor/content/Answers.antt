use Rattle.std.proofs.Common.{subst, sym}
use Rattle.cbor_core.specs.declared.item.Item.{out-Item}
use Rattle.cbor_core.specs.Parts.{ContentOf}
use Rattle.cbor_core.proofs.PartLaws.{content_is, inside_read}
use Rattle.cbor_core.proofs.cursor.Cursor.content.Goals as goal

pub returns-in-Ok : goal.returns-in-Ok
returns-in-Ok c = λ input x text later s. subst (ContentOf (out-Item x) text) (sym c.find_content.ensures) (content_is c.args.self.now input x text later s c.in-Ok.head c.in-Ok.rest.now c.in-Ok.ensures.gives)

pub returns-in-Err : goal.returns-in-Err
returns-in-Err c = λ input x text later s. absurd (inside_read c.args.self.now input x text later s c.in-Err.field-0 c.in-Err.ensures.exact)

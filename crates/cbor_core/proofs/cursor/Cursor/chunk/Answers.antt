use Rattle.std.proofs.Common.{length, subst, sym}
use Rattle.cbor_core.specs.declared.item.Item.{out-Item}
use Rattle.cbor_core.specs.Chunks.{ChunkOf}
use Rattle.cbor_core.proofs.ChunkLaws.{chunk_of}
use Rattle.cbor_core.proofs.PartLaws.{inside_read}
use Rattle.cbor_core.proofs.cursor.Cursor.chunk.Goals as goal

pub returns-in-Ok : goal.returns-in-Ok
returns-in-Ok c = λ input x text later s. subst (ChunkOf (out-Item x) text c.args.index) (sym c.find_chunk.ensures)
    (chunk_of c.args.self.now input x text later s (length c.args.self.now.tail.now) c.args.index c.in-Ok.head c.in-Ok.rest.now c.in-Ok.ensures.gives)

pub returns-in-Err : goal.returns-in-Err
returns-in-Err c = λ input x text later s. absurd (inside_read c.args.self.now input x text later s c.in-Err.field-0 c.in-Err.ensures.exact)

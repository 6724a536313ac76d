use Rattle.std.proofs.Common.{length}
use Rattle.cbor_core.specs.declared.head.Major.TheVariants as major
use Rattle.cbor_core.specs.Reading.{chunk_step}
use Rattle.cbor_core.proofs.Loops.{open_over}
use Rattle.cbor_core.proofs.strings.read_byte_chunks.Goals as goal

pub returns : goal.returns
returns c = open_over (chunk_step c.args.total major.Bytes) c.args.total (length c.args.bytes.now) c.loop-turn._turn c.loop-turn.content.items c.loop-turn.rest.now _
    c.loop-turn-test.false c.loop-turn.invariant

use Rattle.cbor_core.proofs.ShapeLaws.{tag_agree}
use Rattle.cbor_core.proofs.part.Part.tagged.Goals as goal

pub returns-clause-items : goal.returns-clause-items
returns-clause-items c = tag_agree c.args.number c.args.self.now.spot c.tagged_part.result c.tagged_part.ensures c.parts_say.ensures

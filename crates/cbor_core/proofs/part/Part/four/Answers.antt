use Rattle.cbor_core.proofs.ShapeLaws.{four_agree}
use Rattle.cbor_core.proofs.part.Part.four.Goals as goal

pub returns-clause-items : goal.returns-clause-items
returns-clause-items c = four_agree c.args.self.now.spot c.four_parts.result c.four_parts.ensures c.parts_say.ensures

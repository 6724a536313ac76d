use Rattle.cbor_core.proofs.ShapeLaws.{five_agree}
use Rattle.cbor_core.proofs.part.Part.five.Goals as goal

pub returns-clause-items : goal.returns-clause-items
returns-clause-items c = five_agree c.args.self.now.spot c.five_parts.result c.five_parts.ensures c.parts_say.ensures

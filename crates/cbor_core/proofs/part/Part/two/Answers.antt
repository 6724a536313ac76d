use Rattle.cbor_core.proofs.ShapeLaws.{two_agree}
use Rattle.cbor_core.proofs.part.Part.two.Goals as goal

pub returns-clause-items : goal.returns-clause-items
returns-clause-items c = two_agree c.args.self.now.spot c.two_parts.result c.two_parts.ensures c.parts_say.ensures

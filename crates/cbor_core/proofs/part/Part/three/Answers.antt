use Rattle.cbor_core.proofs.ShapeLaws.{three_agree}
use Rattle.cbor_core.proofs.part.Part.three.Goals as goal

pub returns-clause-items : goal.returns-clause-items
returns-clause-items c = three_agree c.args.self.now.spot c.three_parts.result c.three_parts.ensures c.parts_say.ensures

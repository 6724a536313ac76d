use Rattle.cbor_core.proofs.ShapeLaws.{six_agree}
use Rattle.cbor_core.proofs.part.Part.six.Goals as goal

pub returns-clause-items : goal.returns-clause-items
returns-clause-items c = six_agree c.args.self.now.spot c.six_parts.result c.six_parts.ensures c.parts_say.ensures

use Rattle.std.proofs.Common.{to_z-of_z}
use Rattle.cbor_core.proofs.ShapeLaws.{label_agree}
use Rattle.cbor_core.proofs.part.Part.labelled.Goals as goal

pub returns-clause-items : goal.returns-clause-items
returns-clause-items c = label_agree c.args.label c.args.self.now.spot c.labelled_part.result (rw (to_z-of_z c.ranges.label) at c.labelled_part.ensures) c.parts_say.ensures

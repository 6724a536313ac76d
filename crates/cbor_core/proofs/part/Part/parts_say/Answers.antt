use Rattle.cbor_core.proofs.SpotLaws.{placed_parts}
use Rattle.cbor_core.proofs.part.Part.parts_say.Goals as goal

pub returns : goal.returns
returns c = placed_parts c.self.inside.cursor c.self.invariant c.args.self.now c.self.view_is

use Rattle.cbor_core.proofs.SpotLaws.{placed_parts}
use Rattle.cbor_core.proofs.part.Part.inside.Goals as goal

pub returns-in-Some-clause-items : goal.returns-in-Some-clause-items
returns-in-Some-clause-items c = placed_parts c.self.inside.cursor c.self.invariant c.args.self.now c.self.view_is

pub returns-in-None-clause-items : goal.returns-in-None-clause-items
returns-in-None-clause-items c = placed_parts c.self.inside.cursor c.self.invariant c.args.self.now c.self.view_is

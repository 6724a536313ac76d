use Rattle.std.proofs.Common.{sym, ◌∙◌}
use Rattle.registry.proofs.Places.{placed}
use Rattle.registry.proofs.registry.Registry.make_place.Goals as goal

pub returns-clause-placed : goal.returns-clause-placed
returns-clause-placed g c = λ _. rw c.drop_ended.ensures (placed c.args.now c.args.guid.now _ c.all_live.ensures.most (sym c.all_live.ensures.living ∙ c.if-all_live.false))

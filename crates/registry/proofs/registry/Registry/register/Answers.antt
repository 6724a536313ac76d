use Rattle.std.proofs.Common.{rules}
use Rattle.registry.proofs.Places.{put_within}
use Rattle.registry.proofs.registry.Registry.register.Goals as goal

pub invariant_of-self : goal.invariant_of-self
invariant_of-self g c =
    let place = c.make_place.ensures.placed (search rules) in
    put_within c.insert.result _ c.self.inside.entries.entries _ (rw c.self.view_is place) c.self.invariant c.insert.ensures.old c.insert.ensures.len c.insert.ensures.err

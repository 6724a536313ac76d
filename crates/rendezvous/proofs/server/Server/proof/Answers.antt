use Rattle.std.proofs.Common.{Ok, refl, sym, subst}
use Rattle.fdo_rules.specs.Rendezvous.{proof_clock, proof_row}
use Rattle.rendezvous.specs.Carrying.{Judges, rv_view}
use Rattle.rendezvous.specs.RvState.{clocked, outside}
use Rattle.rendezvous.proofs.Leaving.{after_read}
use Rattle.rendezvous.proofs.server.Server.proof.Goals as goal

pub returns-in-Ok-clause-judged : goal.returns-in-Ok-clause-judged
returns-in-Ok-clause-judged g c random =
    let view = rv_view c.args.self.now in
    let packet = c.args.packet.now in
    let before = outside random (clocked g.C.Clock c.args.clock.now) in
    let after = outside random (clocked g.C.Clock c.now-now.new.self) in
    subst (λ r. Judges (proof_row view packet r) view packet before c.redirect.result after) (sym c.in-Ok.ensures.checked)
    (after_read view packet before after after c.redirect.result (proof_clock view packet c.in-Ok.guid) c.now-now.result (c.now-now.ensures.answered, c.now-now.ensures.faults, refl) (c.redirect.ensures.judged packet after))

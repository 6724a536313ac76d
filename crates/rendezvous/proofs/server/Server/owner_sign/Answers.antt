use Rattle.std.proofs.Common.{Ok, refl, sym, subst}
use Rattle.fdo_rules.specs.Rendezvous.{sign_clock, sign_row}
use Rattle.rendezvous.specs.Carrying.{Judges, rv_view}
use Rattle.rendezvous.specs.RvState.{clocked, outside}
use Rattle.rendezvous.proofs.Leaving.{ended}
use Rattle.rendezvous.proofs.server.Server.owner_sign.Goals as goal

pub returns-in-Ok-clause-judged : goal.returns-in-Ok-clause-judged
returns-in-Ok-clause-judged g c random =
    let view = rv_view c.args.self.now in
    let packet = c.args.packet.now in
    let before = outside random (clocked g.C.Clock c.args.clock.now) in
    let after = outside random (clocked g.C.Clock c.now-now.new.self) in
    subst (λ r. Judges (sign_row view packet r) view packet before (Ok c.with_second.result) after) (sym c.in-Ok.ensures.checked)
    (c.now-now.result, after, (c.now-now.ensures.answered, c.now-now.ensures.faults, refl), ended (sign_clock view packet c.in-Ok.registering c.now-now.result) view packet c.with_second.result after (c.with_second.ensures.judged packet))

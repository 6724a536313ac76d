use Rattle.std.proofs.Common.{Ok, refl, sym, subst, ap, ◌∙◌}
use Rattle.fdo_ports.specs.Draw.{drawn}
use Rattle.fdo_msgs.specs.Kind as kind
use Rattle.fdo_rules.specs.Checks.{said}
use Rattle.fdo_rules.specs.Parts.{hello}
use Rattle.fdo_rules.specs.Rendezvous.{hello_row}
use Rattle.rendezvous.specs.Carrying.{Judges, rv_view}
use Rattle.rendezvous.specs.RvState.{outside}
use Rattle.rendezvous.proofs.server.Server.hello.Goals as goal

pub returns-in-Ok-clause-judged : goal.returns-in-Ok-clause-judged
returns-in-Ok-clause-judged g c clock =
    let view = rv_view c.args.self.now in
    let packet = c.args.packet.now in
    let before = outside (drawn g.N.Random c.args.random.now) clock in
    let mid = outside (drawn g.N.Random c.draw16-nonce.new.self) clock in
    let after = outside (drawn g.N.Random c.with_nonce.new.random) clock in
    subst (λ r. Judges (hello_row view packet r) view packet before (Ok c.with_nonce.result) after) (sym (ap (said hello kind.hello) (sym c.as_list.ensures) ∙ c.in-Ok.ensures))
    (c.draw16-nonce.result, mid, ((c.draw16-nonce.ensures.drawn, c.draw16-nonce.ensures.faults), refl), c.with_nonce.ensures.judged view packet clock)

pub returns-in-Ok-clause-fits : goal.returns-in-Ok-clause-fits
returns-in-Ok-clause-fits g c = c.with_nonce.ensures.fits (rv_view c.args.self.now)

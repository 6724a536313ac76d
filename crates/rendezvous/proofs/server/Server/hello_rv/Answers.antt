use Rattle.std.proofs.Common.{refl, sym, subst, ap, ◌∙◌}
use Rattle.fdo_ports.specs.Draw.{drawn}
use Rattle.fdo_msgs.specs.Kind as kind
use Rattle.fdo_rules.specs.Checks.{said}
use Rattle.fdo_rules.specs.Parts.{hello_rv}
use Rattle.fdo_rules.specs.Rendezvous.{hello_rv_row, rv_clock}
use Rattle.end_checks.specs.Checking.{checking}
use Rattle.rendezvous.specs.Carrying.{Judges, rv_view}
use Rattle.rendezvous.specs.RvState.{clocked, outside}
use Rattle.rendezvous.proofs.Leaving.{after_read}
use Rattle.rendezvous.proofs.server.Server.hello_rv.Goals as goal

pub returns-in-Ok-clause-judged : goal.returns-in-Ok-clause-judged
returns-in-Ok-clause-judged g c =
    let suite = checking g.S.Verifier.verifies g.S.Signer.algorithm g.S.CertReader.key_in in
    let view = rv_view c.args.self.now in
    let packet = c.args.packet.now in
    let clock = clocked g.C.Clock c.now-now.new.self in
    let before = outside (drawn g.N.Random c.args.random.now) (clocked g.C.Clock c.args.clock.now) in
    let mid = outside (drawn g.N.Random c.args.random.now) clock in
    let after = outside (drawn g.N.Random c.find_owner.new.random) clock in
    subst (λ r. Judges (hello_rv_row suite view packet r) view packet before c.find_owner.result after) (sym (ap (said hello_rv kind.hello_rv) (sym c.as_list.ensures) ∙ c.in-Ok.ensures))
    (after_read view packet before mid after c.find_owner.result (rv_clock suite view packet c.in-Ok.asked) c.now-now.result (c.now-now.ensures.answered, c.now-now.ensures.faults, refl) (c.find_owner.ensures.judged packet clock))

use Rattle.std.proofs.Common.{sym, subst}
use Rattle.fdo_ports.specs.Draw.{drawn}
use Rattle.fdo_rules.specs.Rendezvous.{rv_clock, rv_found}
use Rattle.end_checks.specs.Checking.{checking}
use Rattle.rendezvous.specs.Carrying.{Judges, rv_view}
use Rattle.rendezvous.specs.RvState.{outside}
use Rattle.rendezvous.proofs.server.Server.find_owner.Goals as goal

pub returns-in-Some-clause-judged : goal.returns-in-Some-clause-judged
returns-in-Some-clause-judged g c packet clock =
    let suite = checking g.S.Verifier.verifies g.S.Signer.algorithm g.S.CertReader.key_in in
    let view = rv_view c.args.self.now in
    let before = outside (drawn g.N.Random c.args.random.now) clock in
    let after = outside (drawn g.N.Random c.begin.new.random) clock in
    subst (λ now. Judges (rv_clock suite view packet c.args.asked now) view packet before c.begin.result after) (sym c.in-Ok.is)
    (subst (λ owned. Judges (rv_found owned suite view packet c.args.asked) view packet before c.begin.result after) c.in-Some.ensures (c.begin.ensures.judged view packet clock))

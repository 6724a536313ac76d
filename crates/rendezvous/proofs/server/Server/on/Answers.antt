use Rattle.std.proofs.Common.{ap, ◌∙◌}
use Rattle.fdo_ports.specs.Draw.{drawn}
use Rattle.fdo_rules.specs.Rendezvous.{protocol_named}
use Rattle.end_checks.specs.Checking.{checking}
use Rattle.rendezvous.specs.Carrying.{rv_view}
use Rattle.rendezvous.specs.RvState.{clocked, outside, suited}
use Rattle.rendezvous.proofs.GivingUp.{gave_up, suited_same}
use Rattle.rendezvous.proofs.server.Server.on.Goals as goal

pub returns-then-is_err-clause-no_memory : goal.returns-then-is_err-clause-no_memory
returns-then-is_err-clause-no_memory g c =
    let suite = checking g.S.Verifier.verifies g.S.Signer.algorithm g.S.CertReader.key_in in
    let view = rv_view c.args.self.now in
    let token = c.args.packet.now.token in
    let before = outside (drawn g.N.Random c.args.random.now) (clocked g.C.Clock c.args.clock.now) in
    let after = outside (drawn g.N.Random c.judge-judged.new.random) (clocked g.C.Clock c.judge-judged.new.clock) in
    let place = c.place_of-place.ensures ∙ ap (λ own. protocol_named own view token) c.own_of.ensures in
    gave_up suite view c.args.packet.now before after (suited g.S.Holder c.args.suite.now) (suited g.S.Holder c.judge-judged.new.suite) c.judge-judged.result c.carry_judged-answered.result
    (rv_view c.carry_judged-answered.new.self) c.place_of-place.result (rv_view c.end_in.new.self) c.judge-judged.ensures.judged c.judge-judged.ensures.fits c.carry_judged-answered.ensures place c.end_in.ensures
    (suited_same (g.S.Holder.held c.args.suite.now) (g.S.Holder.held c.judge-judged.new.suite) (g.S.Holder.faults c.args.suite.now) (g.S.Holder.faults c.judge-judged.new.suite) c.judge-judged.ensures.held c.judge-judged.ensures.faults)

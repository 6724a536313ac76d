use Rattle.std.proofs.Common.{[], inl, refl, subst}
use Rattle.fdo_ports.specs.Draw.{drawn}
use Rattle.fdo_ports.specs.Stream.{stream}
use Rattle.end_checks.specs.Checking.{checking}
use Rattle.rendezvous.specs.Carrying.{rv_view}
use Rattle.rendezvous.specs.RvState.{clocked, outside, rv_state, suited}
use Rattle.fdo_commands.specs.Ending.{Ends, lent}
use Rattle.fdo_commands.specs.Ran.{no_view, rendezvous}
use Rattle.fdo_commands.proofs.BytesTaken.{took_nothing}
use Rattle.fdo_commands.proofs.top.step_rendezvous.Goals as goal

pub returns-in_default-clause-ends : goal.returns-in_default-clause-ends
returns-in_default-clause-ends g c = (no_view, ([], took_nothing (g.I.Channel.left c.args.input.now), refl, inl (refl, refl, refl)))

pub returns-clause-ends : goal.returns-clause-ends
returns-clause-ends g c =
    let role = rendezvous (checking g.S.Verifier.verifies g.S.Signer.algorithm g.S.CertReader.key_in) in
    let before = outside (drawn g.N.Random c.args.random.now) (clocked g.C.Clock c.args.clock.now) in
    let after = outside (drawn g.N.Random c.serve-ending.new.random) (clocked g.C.Clock c.serve-ending.new.clock) in
    let last = rv_view c.serve-ending.new.server in
    let end = lent (rv_state last after (suited g.S.Holder c.serve-ending.new.suite)) (stream g.I.Channel c.serve-ending.new.input) (stream g.O.Channel c.serve-ending.new.output) in (
      last,
      subst (λ view. Ends role (lent (rv_state view before (suited g.S.Holder c.args.suite.now)) (stream g.I.Channel c.args.input.now) (stream g.O.Channel c.args.output.now)) end c.serve-ending.result) c.in-Ok.ensures c.serve-ending.ensures.ends,
    )

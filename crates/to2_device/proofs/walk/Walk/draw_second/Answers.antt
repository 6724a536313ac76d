use Rattle.std.proofs.Common.{ℕ, List, Result, refl, sym, subst}
use Rattle.fdo_ports.specs.Draw.{drawn}
use Rattle.fdo_ports.specs.declared.failed.Failed.{Failed}
use Rattle.fdo_rules.specs.DeviceTo2.{with_xb1, with_xb2}
use Rattle.to2_device.specs.Steps.{Steps}
use Rattle.fdo_rules.specs.Suite.{suite_of}
use Rattle.to2_device.specs.Lent.{lent}
use Rattle.to2_device.specs.Views.{on_the_walk, walk_of}
use Rattle.to2_device.proofs.Stepping.{after_draw}
use Rattle.to2_device.proofs.walk.Walk.draw_second.Goals as goal

pub returns-in-Ok-clause-step : goal.returns-in-Ok-clause-step
returns-in-Ok-clause-step g c =
    let suite = suite_of g.S.Verifier.verifies g.S.Signer.algorithm g.S.Kex.agrees g.S.Kex.first_of g.S.Kex.second_of g.S.Kex.finish_of g.S.Aead.bits g.S.Aead.seals g.S.Aead.opens g.S.CertReader.key_in g.S.CertReader.issues in
    let before = lent g.N.Random c.args.random.now g.S.Holder c.args.suite.now in
    let between = lent g.N.Random c.draw16-second.new.self g.S.Holder c.args.suite.now in
    let after = lent g.N.Random c.draw16-second.new.self g.S.Holder c.with_draws.new.suite in
    subst (λ (x : Result (List ℕ) Failed). Steps g.S.Signer.signs on_the_walk (with_xb1 suite (walk_of c.args.self) c.args.packet.now c.args.setup_dv x) before c.with_draws.result after) (sym c.in-Ok.is)
    (after_draw g.S.Signer.signs on_the_walk (with_xb2 suite (walk_of c.args.self) c.args.packet.now c.args.setup_dv c.in-Ok.first) c.draw16-second.result before between after c.with_draws.result
    ((c.draw16-second.ensures.drawn, c.draw16-second.ensures.faults), refl) (c.with_draws.ensures.step (drawn g.N.Random c.draw16-second.new.self)))

use Rattle.std.proofs.Common.{ℕ, List, Result, ap, sym, subst}
use Rattle.fdo_ports.specs.declared.failed.Failed.{Failed}
use Rattle.fdo_rules.specs.DeviceTo2.{with_xb2}
use Rattle.fdo_rules.specs.Suite.{suite_of}
use Rattle.to2_device.specs.Steps.{Steps}
use Rattle.to2_device.specs.Lent.{Lent, lending}
use Rattle.to2_device.specs.Views.{agreed_of, on_the_walk, walk_of}
use Rattle.to2_device.proofs.Signing.{agreed_signs}
use Rattle.to2_device.proofs.walk.Walk.with_draws.Goals as goal

pub returns-in-Ok-agree-clause-step : goal.returns-in-Ok-agree-clause-step
returns-in-Ok-agree-clause-step g c random =
    let suite = suite_of g.S.Verifier.verifies g.S.Signer.algorithm g.S.Kex.agrees g.S.Kex.first_of g.S.Kex.second_of g.S.Kex.finish_of g.S.Aead.bits g.S.Aead.seals g.S.Aead.opens g.S.CertReader.key_in g.S.CertReader.issues in
    let counted : ℕ → Lent = λ faults. record { random = random; faults = faults } in
    let before = lending random g.S.Holder c.args.suite.now in
    let between = lending random g.S.Holder c.agree.new.suite in
    let after = lending random g.S.Holder c.sign.new.suite in
    subst (λ (x : Result (List ℕ) Failed). Steps g.S.Signer.signs on_the_walk (with_xb2 suite (walk_of c.args.self) c.args.packet.now c.args.setup_dv c.args.first x) before c.sign.result after) (sym c.in-Ok.is)
    (agreed_signs g.S.Signer.signs c.args.packet.now on_the_walk suite (walk_of c.args.self) c.args.setup_dv c.args.first c.in-Ok.second c.secret_of-draw.result (agreed_of c.in-Ok-agree.agreed) before between after c.sign.result
    c.secret_of-draw.ensures c.in-Ok-agree.ensures.told (ap counted c.agree.ensures.faults) (c.sign.ensures.step random))

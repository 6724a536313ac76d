use Rattle.std.proofs.Common.{ℕ, ap}
use Rattle.fdo_ports.specs.Draw.{drawn}
use Rattle.fdo_rules.specs.DeviceTo2.{prove_ov_hdr_row}
use Rattle.fdo_rules.specs.Suite.{suite_of}
use Rattle.to2_device.specs.Lent.{Lent, lent}
use Rattle.to2_device.specs.Views.{greeting, on_the_walk, walk_of}
use Rattle.to2_device.proofs.Walking.{header_fails, header_walks, nothing_asked}
use Rattle.to2_device.proofs.hello_sent.HelloSent.on.Goals as goal

pub returns-in-Ok-walk-clause-step : goal.returns-in-Ok-walk-clause-step
returns-in-Ok-walk-clause-step g c =
    let suite = suite_of g.S.Verifier.verifies g.S.Signer.algorithm g.S.Kex.agrees g.S.Kex.first_of g.S.Kex.second_of g.S.Kex.finish_of g.S.Aead.bits g.S.Aead.seals g.S.Aead.opens g.S.CertReader.key_in g.S.CertReader.issues in
    let counted : ℕ → Lent = λ faults. record { random = drawn g.N.Random c.args.random.now; faults = faults } in
    let before = lent g.N.Random c.args.random.now g.S.Holder c.args.suite.now in
    let between = lent g.N.Random c.args.random.now g.S.Holder c.check.new.suite in
    let after = lent g.N.Random c.go_on.new.random g.S.Holder c.go_on.new.suite in
    header_walks g.S.Signer.signs suite c.args.packet.now on_the_walk (greeting c.args.self) c.in-Ok.shown (walk_of c.in-Ok-walk.walk) before between after c.go_on.result c.in-Ok.ensures.told c.in-Ok-walk.ensures.walk
    (ap counted c.check.ensures.faults) c.go_on.ensures.step

pub returns-in-Err-walk-clause-step : goal.returns-in-Err-walk-clause-step
returns-in-Err-walk-clause-step g c =
    let suite = suite_of g.S.Verifier.verifies g.S.Signer.algorithm g.S.Kex.agrees g.S.Kex.first_of g.S.Kex.second_of g.S.Kex.finish_of g.S.Aead.bits g.S.Aead.seals g.S.Aead.opens g.S.CertReader.key_in g.S.CertReader.issues in
    let counted : ℕ → Lent = λ faults. record { random = drawn g.N.Random c.args.random.now; faults = faults } in
    let before = lent g.N.Random c.args.random.now g.S.Holder c.args.suite.now in
    let after = lent g.N.Random c.args.random.now g.S.Holder c.check.new.suite in
    nothing_asked g.S.Signer.signs suite c.args.packet.now (prove_ov_hdr_row suite (greeting c.args.self) c.args.packet.now) before after (ap counted c.check.ensures.faults)

pub returns-in-Err-clause-step : goal.returns-in-Err-clause-step
returns-in-Err-clause-step g c =
    let suite = suite_of g.S.Verifier.verifies g.S.Signer.algorithm g.S.Kex.agrees g.S.Kex.first_of g.S.Kex.second_of g.S.Kex.finish_of g.S.Aead.bits g.S.Aead.seals g.S.Aead.opens g.S.CertReader.key_in g.S.CertReader.issues in
    let counted : ℕ → Lent = λ faults. record { random = drawn g.N.Random c.args.random.now; faults = faults } in
    let before = lent g.N.Random c.args.random.now g.S.Holder c.args.suite.now in
    let after = lent g.N.Random c.args.random.now g.S.Holder c.check.new.suite in
    header_fails g.S.Signer.signs suite c.args.packet.now on_the_walk (greeting c.args.self) c.in-Err.why c.stop.result before after c.refuse.result (ap counted c.check.ensures.faults) c.in-Err.ensures.told c.refuse.ensures

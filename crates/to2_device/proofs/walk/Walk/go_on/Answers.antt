use Rattle.std.proofs.Common.{arith}
use Rattle.std.proofs.lemmas.Bool.{le-ltb}
use Rattle.fdo_rules.specs.Suite.{suite_of}
use Rattle.to2_device.specs.Lent.{lent}
use Rattle.to2_device.specs.Views.{on_the_walk, walk_of}
use Rattle.to2_device.proofs.Walking.{proves_at_end}
use Rattle.to2_device.proofs.walk.Walk.go_on.Goals as goal

pub returns-else-self-clause-step : goal.returns-else-self-clause-step
returns-else-self-clause-step g c =
    let suite = suite_of g.S.Verifier.verifies g.S.Signer.algorithm g.S.Kex.agrees g.S.Kex.first_of g.S.Kex.second_of g.S.Kex.finish_of g.S.Aead.bits g.S.Aead.seals g.S.Aead.opens g.S.CertReader.key_in g.S.CertReader.issues in
    proves_at_end g.S.Signer.signs suite c.args.packet.now on_the_walk (walk_of c.args.self) (lent g.N.Random c.args.random.now g.S.Holder c.args.suite.now) (lent g.N.Random c.prove.new.random g.S.Holder c.prove.new.suite) c.prove.result
    (le-ltb c.args.self.index c.args.self.shown.payload.entries (omega arith)) c.prove.ensures.step

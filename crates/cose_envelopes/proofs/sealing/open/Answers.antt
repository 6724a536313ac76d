use Rattle.std.proofs.Math.Facts.{to_z-of_z}
use Rattle.cose_envelopes.proofs.OpenLaws.{asks_read, asks_fails, opening_read}
use Rattle.cose_envelopes.proofs.sealing.open.Goals as goal

pub returns-in-Ok-clause-answer : goal.returns-in-Ok-clause-answer
returns-in-Ok-clause-answer g c =
    opening_read g.S.Aead.bits g.S.Aead.opens c.args.alg c.args.key.now c.args.bytes.now c.in-Ok.value c.open_value.result c.in-Ok.ensures.exact (rw (to_z-of_z c.ranges.alg) at c.open_value.ensures.answer)

pub returns-in-Ok-clause-asked : goal.returns-in-Ok-clause-asked
returns-in-Ok-clause-asked g c =
    asks_read g.S.Aead.bits c.args.alg c.args.key.now c.args.bytes.now (g.S.Holder.asked c.args.suite.now) (g.S.Holder.asked c.open_value.new.suite) c.in-Ok.value c.open_value.result c.in-Ok.ensures.exact (rw (to_z-of_z c.ranges.alg) at c.open_value.ensures.asked)

pub returns-in-Err-clause-asked : goal.returns-in-Err-clause-asked
returns-in-Err-clause-asked g c = asks_fails g.S.Aead.bits c.args.alg c.args.key.now c.args.bytes.now (g.S.Holder.asked c.args.suite.now) c.in-Err.fault c.in-Err.ensures.exact

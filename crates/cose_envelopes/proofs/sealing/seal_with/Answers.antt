use Rattle.std.proofs.Common.{◌≡◌, arith}
use Rattle.std.proofs.Math.Facts.{to_z-of_z}
use Rattle.cose_envelopes.specs.Opening.{key_front, sealed_value}
use Rattle.cose_envelopes.proofs.SealLaws.{written_sealed, written_opened}
use Rattle.cose_envelopes.proofs.sealing.seal_with.Goals as goal

pub returns-clause-sealed : goal.returns-clause-sealed
returns-clause-sealed g c =
    let is : c.in_ok-value.value ≡ sealed_value g.S.Aead.seals c.args.alg (key_front c.args.bits c.args.key.now) c.args.iv.now c.args.plain.now = rw (to_z-of_z c.ranges.alg) at c.in_ok-value.ensures.value in
    written_sealed g.S.Aead.seals c.args.alg (key_front c.args.bits c.args.key.now) c.args.iv.now c.args.plain.now c.in_ok-value.value c.write_encrypt0.result is c.write_encrypt0.ensures.value

pub returns-clause-opened : goal.returns-clause-opened
returns-clause-opened g c =
    let is : c.in_ok-value.value ≡ sealed_value g.S.Aead.seals c.args.alg (key_front c.args.bits c.args.key.now) c.args.iv.now c.args.plain.now = rw (to_z-of_z c.ranges.alg) at c.in_ok-value.ensures.value in
    written_opened g.S.Aead.bits g.S.Aead.opens g.S.Aead.seals c.args.alg c.args.bits c.args.key.now c.args.iv.now c.args.plain.now c.in_ok-value.value c.write_encrypt0.result g.met.S.Aead.opens_sealed c.requires.bits
    c.requires.size (omega arith) (omega arith) c.requires.plain is (c.write_encrypt0.ensures.said c.in_ok-value.ensures.whole)

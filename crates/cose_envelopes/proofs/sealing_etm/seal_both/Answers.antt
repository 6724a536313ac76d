use Rattle.std.proofs.Common.{negsuc}
use Rattle.cose_envelopes.proofs.SealLaws.{written_etm, written_opened_etm}
use Rattle.cose_envelopes.proofs.sealing_etm.seal_both.Goals as goal

pub returns-clause-sealed : goal.returns-clause-sealed
returns-clause-sealed g c = written_etm g.S.Aead.seals c.args.key.now c.args.iv.now c.args.plain.now c.in_ok-payload.payload c.write_maced.result c.in_ok-payload.ensures.sealed c.write_maced.ensures.value

pub returns-clause-opened : goal.returns-clause-opened
returns-clause-opened g c =
    written_opened_etm g.S.Aead.bits g.S.Aead.opens (negsuc 65538) c.args.bits c.args.key.now c.args.iv.now c.args.plain.now c.in_ok-payload.payload c.write_maced.result c.requires.bits c.in_ok-payload.ensures.opened c.write_maced.ensures.read

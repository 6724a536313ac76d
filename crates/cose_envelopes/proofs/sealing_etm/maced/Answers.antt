use Rattle.std.proofs.Common.{pos, ap, length, arith}
use Rattle.cose_envelopes.proofs.HeaderLaws.{header_short}
use Rattle.cose_envelopes.proofs.SealLaws.{whole_mac0}
use Rattle.cose_envelopes.proofs.sealing_etm.maced.Goals as goal

pub returns-clause-whole : goal.returns-clause-whole
returns-clause-whole c =
    whole_mac0 (record { protected = c.in_ok-protected.protected; alg = pos 5; payload = c.args.payload; tag = c.in_ok-tag.tag })
    (omega (arith, ap length c.in_ok-protected.ensures.value, header_short (pos 5))) (omega (arith, ap length c.as_list-2.ensures)) (omega (arith, c.in_ok-tag.ensures.short)) c.in_ok-protected.ensures.names

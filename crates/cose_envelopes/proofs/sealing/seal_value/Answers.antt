use Rattle.std.proofs.Common.{to_z, of_z, w64, length, ap, ◌∙◌, arith}
use Rattle.cose_envelopes.proofs.HeaderLaws.{aad_short, header_short}
use Rattle.cose_envelopes.proofs.SealLaws.{whole_encrypt0}
use Rattle.cose_envelopes.proofs.sealing.seal_value.Goals as goal

pub seal-requires-clause-aad : goal.seal-requires-clause-aad
seal-requires-clause-aad g c =
    aad_short (to_z w64 (of_z w64 c.args.alg)) c.as_list-2.result.now c.as_list.result.now (c.as_list.ensures ∙ c.in_ok-protected.ensures.value) (c.as_list-2.ensures ∙ c.in_ok-aad.ensures)

pub returns-in-Ok-clause-whole : goal.returns-in-Ok-clause-whole
returns-in-Ok-clause-whole g c =
    whole_encrypt0 (record { protected = c.in_ok-protected.protected; alg = to_z w64 (of_z w64 c.args.alg); iv = c.args.iv.now; sealed = c.new.result })
    (omega (arith, ap length c.in_ok-protected.ensures.value, header_short (to_z w64 (of_z w64 c.args.alg)))) (omega arith) (omega (arith, ap length c.new.ensures)) c.in_ok-protected.ensures.names

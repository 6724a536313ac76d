use Rattle.std.proofs.Common.{arith}
use Rattle.cose_envelopes.specs.Envelope.{mac0_in}
use Rattle.cose_envelopes.specs.Places.{mac0_place}
use Rattle.cose_envelopes.specs.declared.mac0.Mac0.{Mac0}
use Rattle.cose_envelopes.proofs.Names.{mac0_names, names_read}
use Rattle.cose_envelopes.proofs.ReadLaws.{reads_found, reads_only}
use Rattle.cose_envelopes.proofs.mac0.read_mac0.Goals as goal

pub returns-clause-found : goal.returns-clause-found
returns-clause-found c = reads_found mac0_in mac0_place c.args.bytes.now c.read_whole.result (λ i. omega (arith, c.type_inv.bytes i)) c.read_whole.ensures

pub returns-clause-only : goal.returns-clause-only
returns-clause-only c = reads_only mac0_in mac0_place c.args.bytes.now c.read_whole.result c.read_whole.ensures

pub returns-clause-names : goal.returns-clause-names
returns-clause-names c =
    names_read (λ (v : Mac0). v.protected) (λ (v : Mac0). v.alg) mac0_in mac0_names c.args.bytes.now c.read_whole.result
    (reads_found mac0_in mac0_place c.args.bytes.now c.read_whole.result (λ i. omega (arith, c.type_inv.bytes i)) c.read_whole.ensures)

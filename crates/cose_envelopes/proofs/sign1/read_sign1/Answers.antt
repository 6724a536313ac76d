use Rattle.std.proofs.Common.{arith}
use Rattle.cose_envelopes.specs.Envelope.{sign1_in}
use Rattle.cose_envelopes.specs.Places.{sign1_place}
use Rattle.cose_envelopes.specs.declared.sign1.Sign1.{Sign1}
use Rattle.cose_envelopes.proofs.Names.{sign1_names, names_read}
use Rattle.cose_envelopes.proofs.ReadLaws.{reads_found, reads_only}
use Rattle.cose_envelopes.proofs.sign1.read_sign1.Goals as goal

pub returns-clause-found : goal.returns-clause-found
returns-clause-found c = reads_found sign1_in sign1_place c.args.bytes.now c.read_whole.result (λ i. omega (arith, c.type_inv.bytes i)) c.read_whole.ensures

pub returns-clause-only : goal.returns-clause-only
returns-clause-only c = reads_only sign1_in sign1_place c.args.bytes.now c.read_whole.result c.read_whole.ensures

pub returns-clause-names : goal.returns-clause-names
returns-clause-names c =
    names_read (λ (v : Sign1). v.protected) (λ (v : Sign1). v.alg) sign1_in sign1_names c.args.bytes.now c.read_whole.result
    (reads_found sign1_in sign1_place c.args.bytes.now c.read_whole.result (λ i. omega (arith, c.type_inv.bytes i)) c.read_whole.ensures)

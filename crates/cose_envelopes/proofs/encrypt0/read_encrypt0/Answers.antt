use Rattle.std.proofs.Common.{arith}
use Rattle.cose_envelopes.specs.Envelope.{encrypt0_in}
use Rattle.cose_envelopes.specs.Places.{encrypt0_place}
use Rattle.cose_envelopes.specs.declared.encrypt0.Encrypt0.{Encrypt0}
use Rattle.cose_envelopes.proofs.Names.{encrypt0_names, names_read}
use Rattle.cose_envelopes.proofs.ReadLaws.{reads_found, reads_only}
use Rattle.cose_envelopes.proofs.encrypt0.read_encrypt0.Goals as goal

pub returns-clause-found : goal.returns-clause-found
returns-clause-found c = reads_found encrypt0_in encrypt0_place c.args.bytes.now c.read_whole.result (λ i. omega (arith, c.type_inv.bytes i)) c.read_whole.ensures

pub returns-clause-only : goal.returns-clause-only
returns-clause-only c = reads_only encrypt0_in encrypt0_place c.args.bytes.now c.read_whole.result c.read_whole.ensures

pub returns-clause-names : goal.returns-clause-names
returns-clause-names c =
    names_read (λ (v : Encrypt0). v.protected) (λ (v : Encrypt0). v.alg) encrypt0_in encrypt0_names c.args.bytes.now c.read_whole.result
    (reads_found encrypt0_in encrypt0_place c.args.bytes.now c.read_whole.result (λ i. omega (arith, c.type_inv.bytes i)) c.read_whole.ensures)

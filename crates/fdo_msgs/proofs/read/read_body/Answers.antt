use Rattle.std.proofs.Common.{arith}
use Rattle.fdo_msgs.proofs.ReadLaws.{reads_found, reads_only, reads_kind}
use Rattle.fdo_msgs.proofs.read.read_body.Goals as goal

pub returns-clause-found : goal.returns-clause-found
returns-clause-found c = reads_found c.args.kind c.args.bytes.now c.read_kind.result (λ i. omega (arith, c.type_inv.bytes i)) c.read_kind.ensures

pub returns-clause-only : goal.returns-clause-only
returns-clause-only c = reads_only c.args.kind c.args.bytes.now c.read_kind.result c.read_kind.ensures

pub returns-clause-kind : goal.returns-clause-kind
returns-clause-kind c = reads_kind c.args.kind c.args.bytes.now c.read_kind.result (λ i. omega (arith, c.type_inv.bytes i)) c.read_kind.ensures

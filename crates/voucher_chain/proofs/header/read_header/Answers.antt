use Rattle.std.proofs.Common.{arith}
use Rattle.voucher_chain.specs.Header.{header_seen, header_place}
use Rattle.voucher_chain.proofs.ReadLaws.{reads_found, reads_only}
use Rattle.voucher_chain.proofs.Seen.{header_raw}
use Rattle.voucher_chain.proofs.header.read_header.Goals as goal

pub returns-clause-found : goal.returns-clause-found
returns-clause-found c = reads_found header_seen header_place c.args.bytes.now c.read_whole.result (λ i. omega (arith, c.type_inv.bytes i)) c.read_whole.ensures

pub returns-clause-only : goal.returns-clause-only
returns-clause-only c = reads_only header_seen header_place c.args.bytes.now c.read_whole.result c.read_whole.ensures

pub returns-clause-raw : goal.returns-clause-raw
returns-clause-raw c =
    header_raw c.args.bytes.now c.read_whole.result (reads_found header_seen header_place c.args.bytes.now c.read_whole.result (λ i. omega (arith, c.type_inv.bytes i)) c.read_whole.ensures)

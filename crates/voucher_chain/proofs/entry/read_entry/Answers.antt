use Rattle.std.proofs.Common.{arith, None}
use Rattle.voucher_chain.specs.Entry.{entry_seen, entry_place}
use Rattle.voucher_chain.proofs.ReadLaws.{reads_found, reads_only}
use Rattle.voucher_chain.proofs.Seen.{entry_raw}
use Rattle.voucher_chain.proofs.entry.read_entry.Goals as goal

pub returns-clause-found : goal.returns-clause-found
returns-clause-found c = reads_found entry_seen (entry_place None) c.args.bytes.now c.read_whole.result (λ i. omega (arith, c.type_inv.bytes i)) c.read_whole.ensures

pub returns-clause-only : goal.returns-clause-only
returns-clause-only c = reads_only entry_seen (entry_place None) c.args.bytes.now c.read_whole.result c.read_whole.ensures

pub returns-clause-raw : goal.returns-clause-raw
returns-clause-raw c =
    entry_raw c.args.bytes.now c.read_whole.result (reads_found entry_seen (entry_place None) c.args.bytes.now c.read_whole.result (λ i. omega (arith, c.type_inv.bytes i)) c.read_whole.ensures)

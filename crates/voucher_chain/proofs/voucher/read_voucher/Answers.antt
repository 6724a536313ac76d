use Rattle.std.proofs.Common.{arith}
use Rattle.voucher_chain.proofs.ReadLaws.{voucher_found, voucher_only}
use Rattle.voucher_chain.proofs.Seen.{voucher_raw}
use Rattle.voucher_chain.proofs.voucher.read_voucher.Goals as goal

pub returns-clause-found : goal.returns-clause-found
returns-clause-found c = voucher_found c.args.bytes.now c.read_bounded.result (λ i. omega (arith, c.type_inv.bytes i)) c.read_bounded.ensures

pub returns-clause-only : goal.returns-clause-only
returns-clause-only c = voucher_only c.args.bytes.now c.read_bounded.result c.read_bounded.ensures

pub returns-clause-raw : goal.returns-clause-raw
returns-clause-raw c =
    voucher_raw c.args.bytes.now c.read_bounded.result (voucher_found c.args.bytes.now c.read_bounded.result (λ i. omega (arith, c.type_inv.bytes i)) c.read_bounded.ensures)

use Rattle.std.proofs.Common.{refl, subst, arith}
use Rattle.voucher_chain.specs.Reading.{IsInMemory}
use Rattle.voucher_chain.proofs.NewBack.{new_back}
use Rattle.voucher_chain.proofs.voucher.write_voucher.Goals as goal

pub returns-clause-back : goal.returns-clause-back
returns-clause-back c spelled consistent =
    new_back c.args.header c.args.hmac c.args.chain (record { raw = c.in_ok-raw.raw; header = c.args.header; hmac = c.args.hmac; hmac_raw = c.in_ok-hmac_raw.hmac_raw; chain = c.args.chain; entries = c.new-entries.result.items })
    (rw (c.in_ok-raw.ensures, c.as_list.ensures, c.in_ok-hmac_raw.ensures, c.deref.ensures.value, c.new-entries.ensures.items) refl)
    (subst IsInMemory c.as_list-2.ensures c.are_bytes.ensures) (omega arith) c.requires spelled consistent c.are_some.ensures

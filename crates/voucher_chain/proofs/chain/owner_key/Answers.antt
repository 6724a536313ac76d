use Rattle.std.proofs.Common.{◌≡◌, ◌-◌, Some, length, sym, subst}
use Rattle.std.specs.List.{slice_get}
use Rattle.voucher_chain.proofs.ChainLaws.{last_some}
use Rattle.voucher_chain.proofs.chain.owner_key.Goals as goal

pub returns-in-Some : goal.returns-in-Some
returns-in-Some c =
    let v = c.args.voucher.now in
    sym (last_some v.entries c.in-Some.entry.now v.header.key v.header.raw (subst (λ (es : _). slice_get es (length es - 1) ≡ Some c.in-Some.entry.now) c.as_list.ensures (sym c.in-Some.ensures.value))).0

use Rattle.std.proofs.Common.{◌≡◌, ◌-◌, Some, length, sym, subst, ◌∙◌, append-nil}
use Rattle.std.specs.List.{slice_get}
use Rattle.voucher_chain.specs.Chain.{front}
use Rattle.voucher_chain.proofs.ChainLaws.{last_some}
use Rattle.voucher_chain.proofs.extending.texts_before.Goals as goal

pub returns-in-Some : goal.returns-in-Some
returns-in-Some c =
    let v = c.args.voucher.now in
    append-nil c.as_list-in-Some.result.now
    ∙ c.as_list-in-Some.ensures
    ∙ sym (last_some v.entries c.in-Some.entry.now v.header.key (front v) (subst (λ (es : _). slice_get es (length es - 1) ≡ Some c.in-Some.entry.now) c.as_list.ensures (sym c.in-Some.ensures.value))).1

use Rattle.std.proofs.Common.{sym, ap, subst, ◌∙◌}
use Rattle.cbor_core.specs.Deterministic.{det}
use Rattle.cbor_core.specs.Norm.{IsFit, IsReadBack}
use Rattle.voucher_chain.specs.Reading.{IsInMemory}
use Rattle.voucher_store.proofs.ChangeBack.{change_fits, change_back}
use Rattle.voucher_store.proofs.writing.record_body.Goals as goal

pub returns-clause-back : goal.returns-clause-back
returns-clause-back c spelt =
    let item = c.in_ok-item.ensures.item in
    let sizes = c.in_ok-item.ensures.sizes in
    change_back c.args.change.now c.in_ok-body.body (c.in_ok-body.ensures.value ∙ ap det item) sizes (subst IsInMemory c.as_list.ensures c.are_bytes.ensures)
    (subst (λ i. IsReadBack i c.in_ok-body.body) item (c.in_ok-body.ensures.back (subst IsFit (sym item) (change_fits c.args.change.now sizes)))) spelt

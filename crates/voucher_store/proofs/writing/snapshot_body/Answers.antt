use Rattle.std.proofs.Common.{sym, ap, subst, ◌∙◌, length}
use Rattle.cbor_core.specs.Deterministic.{det}
use Rattle.cbor_core.specs.Norm.{IsFit, IsReadBack}
use Rattle.voucher_chain.specs.Reading.{IsInMemory}
use Rattle.voucher_store.proofs.SnapshotBack.{snapshot_fits, snapshot_back}
use Rattle.voucher_store.proofs.SnapshotLength.{snapshot_size}
use Rattle.voucher_store.proofs.writing.snapshot_body.Goals as goal

pub returns-clause-back : goal.returns-clause-back
returns-clause-back c is =
    let item = c.in_ok-item.ensures.item in
    let sizes = c.in_ok-item.ensures.sizes in
    snapshot_back c.args.entries.now c.in_ok-body.body (c.in_ok-body.ensures.value ∙ ap det item) sizes (subst IsInMemory c.as_list.ensures c.are_bytes.ensures)
    (subst (λ i. IsReadBack i c.in_ok-body.body) item (c.in_ok-body.ensures.back (subst IsFit (sym item) (snapshot_fits c.args.entries.now sizes is)))) is

pub returns-clause-length : goal.returns-clause-length
returns-clause-length c is = ap length (c.in_ok-body.ensures.value ∙ ap det c.in_ok-item.ensures.item) ∙ snapshot_size c.args.entries.now is

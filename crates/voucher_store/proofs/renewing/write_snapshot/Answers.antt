use Rattle.std.proofs.Common.{refl}
use Rattle.voucher_store.proofs.SnapLaws.{written_ok, written_err, written_open}
use Rattle.voucher_store.proofs.renewing.write_snapshot.Goals as goal

pub returns-in-Ok-rewrite-clause-told : goal.returns-in-Ok-rewrite-clause-told
returns-in-Ok-rewrite-clause-told g c before holds =
    written_ok c.args.limit c.for_limit-areas.result c.for_limit-areas.ensures c.args.entries.now c.in-Ok.body c.as_list.result.now c.as_list-3.result.now c.as_list.ensures c.as_list-3.ensures c.in-Ok.ensures.body (c.in-Ok.ensures.back c.requires.kept) c.args.now
    (c.if-not-fits.ensures refl) before _ _ c.in-Ok-rewrite.next c.in-Ok-rewrite.next holds c.in-Ok-rewrite.ensures.told

pub returns-in-Ok-rewrite-clause-ready : goal.returns-in-Ok-rewrite-clause-ready
returns-in-Ok-rewrite-clause-ready g c =
    written_open c.args.limit c.for_limit-areas.result c.for_limit-areas.ensures c.args.entries.now c.in-Ok.body c.as_list.result.now c.as_list-3.result.now c.as_list.ensures c.as_list-3.ensures c.in-Ok.ensures.body (c.in-Ok.ensures.back c.requires.kept) c.args.now
    (c.if-not-fits.ensures refl) c.in-Ok-rewrite.next _ c.in-Ok-rewrite.ensures.rests c.in-Ok-rewrite.ensures.next c.in-Ok-rewrite.ensures.current c.in-Ok-rewrite.ensures.fresh

pub returns-clause-told : goal.returns-clause-told
returns-clause-told g c before holds =
    written_err c.args.limit c.for_limit-areas.result c.for_limit-areas.ensures c.args.entries.now c.in-Ok.body c.as_list.result.now c.as_list-3.result.now c.as_list.ensures c.as_list-3.ensures c.in-Ok.ensures.body (c.in-Ok.ensures.back c.requires.kept) c.args.now
    (c.if-not-fits.ensures refl) before _ _ c.in-Err.field-0 _ holds c.in-Err.ensures.told

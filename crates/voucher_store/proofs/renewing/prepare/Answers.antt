use Rattle.voucher_store.proofs.OpenLaws.{opened}
use Rattle.voucher_store.proofs.renewing.prepare.Goals as goal

pub returns-in-Ok-clause-told : goal.returns-in-Ok-clause-told
returns-in-Ok-clause-told g c =
    opened c.args.limit c.in-Ok.loaded _ _ _ c.make_ready.result c.in-Ok.ensures.told c.in-Ok.ensures.loaded c.make_ready.ensures.told

use Rattle.credential_store.proofs.OpenLaws.{opened}
use Rattle.credential_store.proofs.loading.prepare.Goals as goal

pub returns-in-Ok-clause-told : goal.returns-in-Ok-clause-told
returns-in-Ok-clause-told g c =
    opened _ _ _ c.in-Ok.loaded c.make_ready.result c.in-Ok.ensures.told c.in-Ok.ensures.loaded c.make_ready.ensures.told

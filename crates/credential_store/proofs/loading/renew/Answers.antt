use Rattle.std.proofs.Common.{ap, ◌∙◌}
use Rattle.disk_port.specs.Slots.{body_of}
use Rattle.credential_store.proofs.OpenLaws.{renewed_ok, renewed_err, ready_after}
use Rattle.credential_store.proofs.loading.renew.Goals as goal

pub returns-in-Ok-change-clause-told : goal.returns-in-Ok-change-clause-told
returns-in-Ok-change-clause-told g c =
    renewed_ok c.args.credential c.args.next c.as_slice.result.now (ap body_of c.as_slice.ensures.value ∙ c.in-Ok.ensures.body) c.in-Ok.ensures.back _ _ c.requires.next c.requires.content _ _ c.in-Ok-change.ensures.told

pub returns-in-Ok-change-clause-ready : goal.returns-in-Ok-change-clause-ready
returns-in-Ok-change-clause-ready g c =
    ready_after c.args.credential c.args.next _ c.as_slice.result.now _ (ap body_of c.as_slice.ensures.value ∙ c.in-Ok.ensures.body) c.in-Ok.ensures.back c.in-Ok-change.ensures.rests c.in-Ok-change.ensures.next c.in-Ok-change.ensures.done

pub returns-in-Err-change-clause-told : goal.returns-in-Err-change-clause-told
returns-in-Err-change-clause-told g c =
    renewed_err c.args.credential c.args.next c.as_slice.result.now (ap body_of c.as_slice.ensures.value ∙ c.in-Ok.ensures.body) c.in-Ok.ensures.back _ _ c.requires.next c.requires.content _ _ c.in-Err-change.ensures.told

use Rattle.std.proofs.Common.{refl, ap, ◌∙◌}
use Rattle.disk_port.specs.Slots.{body_of}
use Rattle.credential_store.proofs.OpenLaws.{ready_after}
use Rattle.credential_store.proofs.StoreLaws.{ready_sound, commit_ok, commit_err}
use Rattle.credential_store.proofs.store.commit_reserved.Goals as goal

pub invariant_of-result : goal.invariant_of-result
invariant_of-result g c =
    let r = c.args.reserved in
    ready_sound _ _ _ c.in-Ok.next
    (ready_after r.credential c.args.next c.in-Ok.next c.as_slice.result.now _ (ap body_of c.as_slice.ensures.value ∙ r.body) r.back c.in-Ok.ensures.rests c.in-Ok.ensures.next c.in-Ok.ensures.done)
    refl

pub returns-in-Ok-clause-told : goal.returns-in-Ok-clause-told
returns-in-Ok-clause-told g c =
    let r = c.args.reserved in
    commit_ok r.credential c.args.next c.as_slice.result.now (ap body_of c.as_slice.ensures.value ∙ r.body) r.back _ _ c.requires.next _ _ _ _ c.in-Ok.ensures.told

pub returns-in-Ok-clause-now : goal.returns-in-Ok-clause-now
returns-in-Ok-clause-now g c =
    let r = c.args.reserved in
    (ready_after r.credential c.args.next c.in-Ok.next c.as_slice.result.now _ (ap body_of c.as_slice.ensures.value ∙ r.body) r.back c.in-Ok.ensures.rests c.in-Ok.ensures.next c.in-Ok.ensures.done).content

pub returns-in-Err-clause-told : goal.returns-in-Err-clause-told
returns-in-Err-clause-told g c =
    let r = c.args.reserved in
    commit_err r.credential c.args.next c.as_slice.result.now (ap body_of c.as_slice.ensures.value ∙ r.body) r.back _ _ c.requires.next _ _ _ _ c.in-Err.ensures.told

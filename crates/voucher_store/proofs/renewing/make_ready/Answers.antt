use Rattle.std.proofs.Common.{subst, Ok, Err}
use Rattle.disk_port.specs.Told.{Told}
use Rattle.journal.specs.declared.cursor.Cursor.{Cursor}
use Rattle.voucher_store.specs.Changing.{Changes}
use Rattle.voucher_store.specs.Store.{snapshot_events}
use Rattle.voucher_store.specs.declared.fault.OpenFault.{OpenFault}
use Rattle.voucher_store.proofs.OpenLaws.{content_loaded, made_ok, made_err}
use Rattle.voucher_store.proofs.renewing.make_ready.Goals as goal

pub returns-in-Ok-clause-told : goal.returns-in-Ok-clause-told
returns-in-Ok-clause-told g c =
    let l = c.args.loaded in
    let holds = content_loaded c.args.limit l (g.D.Disk.told c.args.disk.now) c.requires.loaded in
    made_ok c.args.limit l (g.D.Disk.told c.args.disk.now) (g.D.Disk.told c.write_snapshot.new.disk) c.in-Ok.now _ c.if-not-old.false holds
    (subst (λ es. Told (Changes {T = Cursor} {E = OpenFault} c.args.limit (snapshot_events c.args.limit l.now.next es) l.map es (Ok c.in-Ok.now)) (g.D.Disk.told c.args.disk.now) (g.D.Disk.told c.write_snapshot.new.disk)) c.as_list.ensures (c.in-Ok.ensures.told l.map holds))

pub returns-in-Err-clause-told : goal.returns-in-Err-clause-told
returns-in-Err-clause-told g c =
    let l = c.args.loaded in
    let holds = content_loaded c.args.limit l (g.D.Disk.told c.args.disk.now) c.requires.loaded in
    made_err c.args.limit l (g.D.Disk.told c.args.disk.now) (g.D.Disk.told c.write_snapshot.new.disk) c.in-Err.fault _ c.if-not-old.false holds
    (subst (λ es. Told (Changes {T = Cursor} {E = OpenFault} c.args.limit (snapshot_events c.args.limit l.now.next es) l.map es (Err c.in-Err.fault)) (g.D.Disk.told c.args.disk.now) (g.D.Disk.told c.write_snapshot.new.disk)) c.as_list.ensures (c.in-Err.ensures.told l.map holds))

use Rattle.std.proofs.Common.{sym, ap, subst, ◌∙◌}
use Rattle.voucher_store.specs.Snapshot.{is_new}
use Rattle.voucher_store.specs.Writing.{IsMap}
use Rattle.voucher_store.proofs.Sounds.{more_map}
use Rattle.voucher_store.proofs.snapshot.add_new.Goals as goal

pub returns-clause-kept : goal.returns-clause-kept
returns-clause-kept c = subst IsMap (sym c.in_ok-push.ensures) (more_map c.args.entries.now.items c.args.entry c.requires.kept c.requires.few c.requires.sound (ap (λ es. is_new es c.args.entry) (sym c.as_slice.ensures.value) ∙ sym c.if-not-is_new.ensures))

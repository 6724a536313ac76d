use Rattle.std.proofs.Common.{subst}
use Rattle.voucher_store.specs.Records.{changed, Applied}
use Rattle.voucher_store.proofs.Sounds.{applied_map}
use Rattle.voucher_store.proofs.replaying.replay_one.Goals as goal

pub returns-in-Ok-true-clause-kept : goal.returns-in-Ok-true-clause-kept
returns-in-Ok-true-clause-kept c =
    applied_map c.in-Ok.change c.args.entries.now.items c.apply.new.entries.items c.requires c.in-Ok.ensures.spelt
    (subst (λ b. Applied (changed c.in-Ok.change c.args.entries.now.items) b c.apply.new.entries.items) c.in-Ok-true.field-0-test c.in-Ok-true.ensures)

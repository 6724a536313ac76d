use Rattle.di_device.proofs.Steps.{kept, reopens}
use Rattle.di_device.proofs.hmac_sent.HmacSent.keep.Goals as goal

pub returns-in-Ok-commit : goal.returns-in-Ok-commit
returns-in-Ok-commit g c =
    let done = c.in-Ok-commit.ensures in
    record { step = λ credential is. kept g.D.Disk c.args.packet.now credential c.args.self.store c.in-Ok-commit.store is done.done done.told done.faults done.object }

pub returns-in-Err-commit : goal.returns-in-Err-commit
returns-in-Err-commit g c =
    let failed = c.in-Err-commit.ensures in
    record { step = λ credential is. reopens g.D.Disk c.args.packet.now credential c.args.self.store c.in-Err-commit.disk c.in-Ok.reply is c.in-Ok.ensures failed.told failed.faults failed.object }

use Rattle.fdo_commands.proofs.CheckAsks.{checked_refused, checked_text}
use Rattle.fdo_commands.proofs.vouchers.checked.Goals as goal

pub returns-in-Ok-clause-asked : goal.returns-in-Ok-clause-asked
returns-in-Ok-clause-asked g c =
    checked_text g.S.Verifier.verifies _ _ c.args.voucher.now c.in-Ok.text c.in-Ok.ensures.answer c.in-Ok.ensures.asked

pub returns-in-Err-clause-asked : goal.returns-in-Err-clause-asked
returns-in-Err-clause-asked g c =
    checked_refused g.S.Verifier.verifies _ _ c.args.voucher.now c.in-Err.fault c.refused.result c.in-Err.ensures.answer c.in-Err.ensures.asked c.refused.ensures

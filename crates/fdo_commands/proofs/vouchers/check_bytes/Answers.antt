use Rattle.std.proofs.Common.{refl}
use Rattle.fdo_commands.proofs.CheckAsks.{read_checks, unread_checks}
use Rattle.fdo_commands.proofs.vouchers.check_bytes.Goals as goal

pub returns-in-Ok : goal.returns-in-Ok
returns-in-Ok g c =
    read_checks g.S.Verifier.verifies _ _ _ _ _ _ _ c.in-Ok.voucher c.in-Ok.ensures.exact c.checked.result c.checked.ensures.told c.checked.ensures.asked c.checked.ensures.held c.checked.ensures.suite_faults

pub returns-in-Err : goal.returns-in-Err
returns-in-Err g c =
    unread_checks g.S.Verifier.verifies _ _ _ _ _ _ _ c.in-Err.fault c.in-Err.ensures.exact c.refused.result c.refused.ensures refl refl refl

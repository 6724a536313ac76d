use Rattle.std.proofs.Common.{◌≡◌, take}
use Rattle.voucher_chain.proofs.rv_info.RvInfo.copy.Given as goal

abbrev pub invariant-loop-directive : goal.invariant-loop-directive
invariant-loop-directive l = l.directives.items ≡ take l.directive-index l.all

use Rattle.std.proofs.Common.{◌≡◌, take}
use Rattle.voucher_chain.proofs.rv_info.RvDirective.copy.Given as goal

abbrev pub invariant-loop-instruction : goal.invariant-loop-instruction
invariant-loop-instruction l = l.instructions.items ≡ take l.instruction-index l.all

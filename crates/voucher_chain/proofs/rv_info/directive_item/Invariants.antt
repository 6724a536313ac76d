use Rattle.std.proofs.Common.{◌≡◌, map, take}
use Rattle.voucher_chain.specs.RvInfo.{item_of_instr, AreNumbers}
use Rattle.voucher_chain.proofs.rv_info.directive_item.Given as goal

abbrev pub invariant-loop-instruction : goal.invariant-loop-instruction
invariant-loop-instruction l = record {
  items : l.items ≡ map item_of_instr (take l.instruction-index l.instructions);
  numbers : AreNumbers (take l.instruction-index l.instructions);
}

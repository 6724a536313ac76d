use Rattle.std.proofs.Common.{◌≡◌, drop}
use Rattle.voucher_chain.specs.Fault.{all_in}
use Rattle.voucher_chain.specs.RvInfo.{instr_in}
use Rattle.voucher_chain.proofs.Alls.{with_front}
use Rattle.voucher_chain.proofs.rv_info.read_instructions.Given as goal

abbrev pub invariant-loop-item : goal.invariant-loop-item
invariant-loop-item l = with_front l.all.items (all_in instr_in (drop l.item-index l.items)) ≡ all_in instr_in l.items

use Rattle.std.proofs.Common.{◌≡◌, drop}
use Rattle.voucher_chain.specs.Fault.{all_in}
use Rattle.voucher_chain.proofs.Alls.{with_front}
use Rattle.fdo_msgs.specs.Addr.{addr_in}
use Rattle.fdo_msgs.proofs.addr.read_all.Given as goal

abbrev pub invariant-loop-item : goal.invariant-loop-item
invariant-loop-item l = with_front l.all.items (all_in addr_in (drop l.item-index l.items)) ≡ all_in addr_in l.items

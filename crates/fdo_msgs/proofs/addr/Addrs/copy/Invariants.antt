use Rattle.std.proofs.Common.{◌≡◌, take}
use Rattle.fdo_msgs.proofs.addr.Addrs.copy.Given as goal

abbrev pub invariant-loop-addr : goal.invariant-loop-addr
invariant-loop-addr l = l.addrs.items ≡ take l.addr-index l.all

use Rattle.std.proofs.Common.{◌≡◌, map, take}
use Rattle.fdo_msgs.specs.Addr.{item_of_addr}
use Rattle.fdo_msgs.proofs.addr.addrs_item.Given as goal

abbrev pub invariant-loop-addr : goal.invariant-loop-addr
invariant-loop-addr l = l.parts ≡ map item_of_addr (take l.addr-index l.all)

use Rattle.std.proofs.Common.{◌≡◌, map, take}
use Rattle.std.specs.List.{AllByRecursion}
use Rattle.voucher_chain.specs.RvInfo.{item_of_directive, AreNumbers}
use Rattle.voucher_chain.proofs.rv_info.rv_item.Given as goal

abbrev pub invariant-loop-directive : goal.invariant-loop-directive
invariant-loop-directive l = record {
  items : l.items ≡ map item_of_directive (take l.directive-index l.directives);
  numbers : AllByRecursion AreNumbers (take l.directive-index l.directives);
}

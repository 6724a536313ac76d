use Rattle.std.proofs.Common.{◌≡◌, ◌++◌, drop}
use Rattle.voucher_tool.specs.Show.{rv_lines, text_of}
use Rattle.voucher_tool.proofs.showing.put_rv.Given as goal

abbrev pub invariant-loop-directive : goal.invariant-loop-directive
invariant-loop-directive l = record {
  count : l.index ≡ l.directive-index;
  lines : l.out.items ++ text_of (rv_lines l.index (drop l.directive-index l.rv)) ≡ l.fn.out.items ++ text_of (rv_lines 0 l.rv);
}

use Rattle.std.proofs.Common.{◌≡◌, ◌++◌, drop}
use Rattle.voucher_tool.specs.Show.{directive_lines, text_of}
use Rattle.voucher_tool.proofs.showing.put_directive.Given as goal

abbrev pub invariant-loop-instruction : goal.invariant-loop-instruction
invariant-loop-instruction l = record {
  count : l.index ≡ l.instruction-index;
  lines : l.out.items ++ text_of (directive_lines l.directive l.index (drop l.instruction-index l.instructions)) ≡ l.fn.out.items ++ text_of (directive_lines l.directive 0 l.instructions);
}

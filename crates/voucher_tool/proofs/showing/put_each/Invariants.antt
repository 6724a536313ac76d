use Rattle.std.proofs.Common.{◌≡◌, ◌++◌, drop}
use Rattle.voucher_tool.specs.Show.{entry_lines, text_of}
use Rattle.voucher_tool.proofs.showing.put_each.Given as goal

abbrev pub invariant-loop-entry : goal.invariant-loop-entry
invariant-loop-entry l = record {
  count : l.index ≡ l.entry-index;
  lines : l.out.items ++ text_of (entry_lines l.index (drop l.entry-index l.entries)) ≡ l.fn.out.items ++ text_of (entry_lines 0 l.entries);
}

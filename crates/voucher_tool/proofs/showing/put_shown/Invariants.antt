use Rattle.std.proofs.Common.{◌≡◌, ◌++◌, map, take}
use Rattle.voucher_tool.specs.Show.{shown_byte}
use Rattle.voucher_tool.proofs.showing.put_shown.Given as goal

abbrev pub invariant-loop-byte : goal.invariant-loop-byte
invariant-loop-byte l = l.out.items ≡ l.fn.out.items ++ map shown_byte (take l.byte-index l.info)

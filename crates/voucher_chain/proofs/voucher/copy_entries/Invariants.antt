use Rattle.std.proofs.Common.{◌≡◌, take}
use Rattle.voucher_chain.proofs.voucher.copy_entries.Given as goal

abbrev pub invariant-loop-entry : goal.invariant-loop-entry
invariant-loop-entry l = l.all.items ≡ take l.entry-index l.entries

use Rattle.std.proofs.Common.{◌≡◌, drop}
use Rattle.voucher_map.specs.Map.{entry_of}
use Rattle.voucher_map.proofs.entries.entry_of.Given as goal

abbrev pub invariant-loop-entry : goal.invariant-loop-entry
invariant-loop-entry l = entry_of l.guid l.entries ≡ entry_of l.guid (drop l.entry-index l.entries)

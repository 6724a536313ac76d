use Rattle.std.proofs.Common.{◌≡◌, drop}
use Rattle.voucher_map.specs.Finding.{find_in}
use Rattle.voucher_map.proofs.found.find.Given as goal

abbrev pub invariant-loop-entry : goal.invariant-loop-entry
invariant-loop-entry l = find_in l.guid l.entries ≡ find_in l.guid (drop l.entry-index l.entries)

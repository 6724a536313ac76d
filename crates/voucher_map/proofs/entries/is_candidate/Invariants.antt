use Rattle.std.proofs.Common.{◌≡◌, drop}
use Rattle.voucher_map.specs.Map.{is_candidate}
use Rattle.voucher_map.proofs.entries.is_candidate.Given as goal

abbrev pub invariant-loop-entry : goal.invariant-loop-entry
invariant-loop-entry l = is_candidate l.guid l.entries ≡ is_candidate l.guid (drop l.entry-index l.entries)

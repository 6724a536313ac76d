use Rattle.std.proofs.Common.{◌≡◌, ◌+◌, drop}
use Rattle.std.specs.Prelude.{map, sum}
use Rattle.voucher_map.specs.Map.{entry_length, snapshot_length}
use Rattle.voucher_store.proofs.size.snapshot_length.Given as goal

abbrev pub invariant-loop-entry : goal.invariant-loop-entry
invariant-loop-entry l = l.length + sum (map entry_length (drop l.entry-index l.entries)) ≡ snapshot_length l.entries

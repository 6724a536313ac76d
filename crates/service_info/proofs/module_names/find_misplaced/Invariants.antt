use Rattle.std.proofs.Common.{◌≡◌, ◌≤◌, drop}
use Rattle.service_info.specs.Devmod.{misplaced, places_of}
use Rattle.service_info.proofs.module_names.find_misplaced.Given as goal

abbrev pub invariant-loop-named : goal.invariant-loop-named
invariant-loop-named l = record {
  within : l.next ≤ l.count;
  same : misplaced l.count l.next (places_of (drop l.named-index l.lists)) ≡ misplaced l.count 0 (places_of l.lists);
}

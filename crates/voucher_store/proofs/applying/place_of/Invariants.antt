use Rattle.std.proofs.Common.{◌≡◌, ◌+◌, drop, option_map}
use Rattle.voucher_store.specs.Places.{place_of}
use Rattle.voucher_store.proofs.applying.place_of.Given as goal

abbrev pub invariant-loop-entry : goal.invariant-loop-entry
invariant-loop-entry l = record {
  at_index : l.at ≡ l.entry-index;
  from_here : place_of l.guid l.entries ≡ option_map (λ n. l.at + n) (place_of l.guid (drop l.entry-index l.entries));
}

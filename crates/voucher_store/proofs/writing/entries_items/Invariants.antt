use Rattle.std.proofs.Common.{◌≡◌, map, take}
use Rattle.std.specs.List.{AllByRecursion}
use Rattle.voucher_store.specs.Writing.{item_of_entry, EntryHasSizes}
use Rattle.voucher_store.proofs.writing.entries_items.Given as goal

abbrev pub invariant-loop-entry : goal.invariant-loop-entry
invariant-loop-entry l = record {
  said : l.all ≡ map item_of_entry (take l.entry-index l.entries);
  sizes : AllByRecursion EntryHasSizes (take l.entry-index l.entries);
}

use Rattle.std.proofs.Common.{◌≡◌, [], length}
use Rattle.cbor_core.specs.Spots.{spot_parts, spots_of}
use Rattle.voucher_store.specs.Snapshot.{entries_from}
use Rattle.voucher_store.specs.Writing.{IsMap}
use Rattle.voucher_store.proofs.snapshot.read_all.Given as goal

abbrev pub invariant-loop-next : goal.invariant-loop-next
invariant-loop-next l = record {
  said : entries_from l.old l.entries.items (spots_of l.next) ≡ entries_from l.old [] (spot_parts l.part.spot);
  kept : IsMap l.entries.items;
}

abbrev pub decreases-loop-next : goal.decreases-loop-next
decreases-loop-next l = length (spots_of l.next)

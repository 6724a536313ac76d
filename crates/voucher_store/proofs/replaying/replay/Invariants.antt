use Rattle.std.proofs.Common.{◌≡◌, ◌+◌, ◌-◌, length}
use Rattle.journal.specs.Records.{walk}
use Rattle.voucher_store.specs.Records.{records_in}
use Rattle.voucher_store.specs.Writing.{IsMap}
use Rattle.voucher_store.proofs.replaying.replay.Given as goal

abbrev pub invariant-loop-turn : goal.invariant-loop-turn
invariant-loop-turn l = record {
  says : records_in l.at l.entries.items (walk (length l.records - l.turn) l.at l.rest).bodies ≡ records_in l.place l.fn.entries.items (walk (length l.records) l.place l.records).bodies;
  kept : IsMap l.entries.items;
  left : l.at + length l.rest ≡ l.place + length l.records;
}

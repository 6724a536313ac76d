use Rattle.std.proofs.Common.{◌≡◌, ◌+◌, ◌-◌, length}
use Rattle.journal.specs.Records.{walk}
use Rattle.journal.proofs.Surveying.{Ends}
use Rattle.journal.proofs.records_end.survey.Given as goal

abbrev pub invariant-loop-turn : goal.invariant-loop-turn
invariant-loop-turn l = record {
  ends : Ends (length l.records - l.turn) l.at l.rest (walk (length l.records) l.place l.records);
  left : l.at + length l.rest ≡ l.place + length l.records;
}

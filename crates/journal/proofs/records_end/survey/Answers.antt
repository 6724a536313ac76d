use Rattle.std.proofs.Common.{◌-◌, ◌+◌, length, arith}
use Rattle.journal.specs.Records.{walk}
use Rattle.journal.proofs.Surveying.{walk_more, record_shorter}
use Rattle.journal.proofs.records_end.survey.Goals as goal

pub loop-turn-preserved : goal.loop-turn-preserved
loop-turn-preserved c = record {
  ends = walk_more (length c.args.records.now - c.loop-turn.turn) (length c.args.records.now - (c.loop-turn.turn + 1)) c.loop-turn.at c.loop-turn.rest.now c.in-Some.body.now c.in-Some.later.now
      (walk (length c.args.records.now) c.args.place c.args.records.now) (omega (arith, c.loop-turn-test)) c.in-Some.ensures c.loop-turn.invariant.ends;
  left = omega (arith, record_shorter c.loop-turn.rest.now c.in-Some.body.now c.in-Some.later.now c.in-Some.ensures, c.loop-turn.invariant.left);
}

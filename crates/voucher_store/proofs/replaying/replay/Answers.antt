use Rattle.std.proofs.Common.{◌+◌, ◌-◌, length, arith}
use Rattle.journal.specs.Records.{walk}
use Rattle.journal.proofs.Surveying.{record_shorter}
use Rattle.voucher_store.specs.Records.{records_in}
use Rattle.voucher_store.proofs.ReplayLaws.{records_more, records_fail}
use Rattle.voucher_store.proofs.replaying.replay.Goals as goal

pub returns-in-Err-clause-err : goal.returns-in-Err-clause-err
returns-in-Err-clause-err c =
    records_fail (length c.args.records.now - c.loop-turn.turn) (length c.args.records.now - (c.loop-turn.turn + 1)) c.loop-turn.at c.loop-turn.entries.items c.loop-turn.rest.now c.in-Some.body.now c.in-Some.later.now
    (records_in c.args.place c.args.entries.now.items (walk (length c.args.records.now) c.args.place c.args.records.now).bodies) c.in-Err.fault
    (omega (arith, c.loop-turn-test)) c.in-Some.ensures c.in-Err.ensures.err c.loop-turn.invariant.says

pub overflow_add-at-in-Some : goal.overflow_add-at-in-Some
overflow_add-at-in-Some c =
    omega (arith, c.requires.place, record_shorter c.loop-turn.rest.now c.in-Some.body.now c.in-Some.later.now c.in-Some.ensures, c.loop-turn.invariant.left)

pub loop-turn-preserved : goal.loop-turn-preserved
loop-turn-preserved c = record {
  says = records_more (length c.args.records.now - c.loop-turn.turn) (length c.args.records.now - (c.loop-turn.turn + 1)) c.loop-turn.at c.loop-turn.entries.items c.replay_one.new.entries.items c.loop-turn.rest.now c.in-Some.body.now c.in-Some.later.now
      (records_in c.args.place c.args.entries.now.items (walk (length c.args.records.now) c.args.place c.args.records.now).bodies)
      (omega (arith, c.loop-turn-test)) c.in-Some.ensures c.in-Ok.ensures.ok c.loop-turn.invariant.says;
  kept = c.in-Ok.ensures.kept;
  left = omega (arith, record_shorter c.loop-turn.rest.now c.in-Some.body.now c.in-Some.later.now c.in-Some.ensures, c.loop-turn.invariant.left);
}

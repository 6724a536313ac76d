use Rattle.fdo_msgs.proofs.MsgBack.{written_said}
use Rattle.fdo_msgs.proofs.write.write_body.Goals as goal

pub returns-clause-said : goal.returns-clause-said
returns-clause-said c h = written_said c.args.message.now c.in_ok-body.body c.as_list.result.now c.in_ok-body.ensures c.as_list.ensures c.are_bytes.ensures h

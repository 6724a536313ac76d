use Rattle.std.proofs.Common.{◌∙◌, rules}
use Rattle.fdo_ports.specs.Stream.{stream}
use Rattle.fdo_commands.specs.Answering.{role, stage}
use Rattle.fdo_commands.proofs.AnswersSoFar.{one_answered, stopped}
use Rattle.fdo_commands.proofs.answers.answer_all.Goals as goal

pub returns-in-Err-clause-answers : goal.returns-in-Err-clause-answers
returns-in-Err-clause-answers g c =
    let state = g.H.Handler.state in
    let output = stream g.O.Channel in
    stopped (role g.H.Handler.Steps g.H.Handler.GivesUp) c.args.packets.now (stage (state c.args.handler.now) (output c.args.output.now))
    c.packet-item.result c.loop-packet.packet-index (search rules) c.packet-item.is (stage (state c.loop-packet.handler) (output c.loop-packet.output))
    (stage (state c.answer_one.new.handler) (output c.answer_one.new.output)) c.loop-packet.fault c.loop-packet.invariant.first c.in-Err.stop c.in-Err.ensures.answer

pub loop-packet-preserved : goal.loop-packet-preserved
loop-packet-preserved g c =
    let state = g.H.Handler.state in
    let output = stream g.O.Channel in
    let first = one_answered (role g.H.Handler.Steps g.H.Handler.GivesUp) c.args.packets.now (stage (state c.args.handler.now) (output c.args.output.now))
    c.packet-item.result c.loop-packet.packet-index (search rules) c.packet-item.is (stage (state c.loop-packet.handler) (output c.loop-packet.output))
    (stage (state c.answer_one.new.handler) (output c.answer_one.new.output)) c.loop-packet.fault c.loop-packet.invariant.first c.in-Ok.one c.in-Ok.ensures.answer in
    record {
      first = (first.0, first.1, first.2, rw c.sooner-fault.ensures first.3);
      ready = c.in-Ok.ensures.ready;
      objects = c.in-Ok.ensures.objects ∙ c.loop-packet.invariant.objects;
      faults = c.in-Ok.ensures.faults ∙ c.loop-packet.invariant.faults;
      left = c.in-Ok.ensures.output.0 ∙ c.loop-packet.invariant.left;
      reads = c.in-Ok.ensures.output.1 ∙ c.loop-packet.invariant.reads;
    }

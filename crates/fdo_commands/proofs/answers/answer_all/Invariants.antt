use Rattle.std.proofs.Common.{◌≡◌}
use Rattle.fdo_ports.specs.Stream.{stream}
use Rattle.fdo_commands.specs.Answering.{role, stage}
use Rattle.fdo_commands.proofs.AnswersSoFar.{AnswersFirst}
use Rattle.fdo_commands.proofs.answers.answer_all.Given as goal

-- the messages so far are answered
abbrev pub invariant-loop-packet : goal.invariant-loop-packet
invariant-loop-packet g l =
    let state = g.H.Handler.state in
    let output = stream g.O.Channel in
    record {
      first : AnswersFirst (role g.H.Handler.Steps g.H.Handler.GivesUp) l.packets l.packet-index
          (stage (state l.fn.handler) (output l.fn.output)) (stage (state l.handler) (output l.output)) l.fault;
      ready : g.H.Handler.ready l.handler;
      objects : g.H.Handler.objects l.handler ≡ g.H.Handler.objects l.fn.handler;
      faults : g.O.Channel.write_faults l.output ≡ g.O.Channel.write_faults l.fn.output;
      left : g.O.Channel.left l.output ≡ g.O.Channel.left l.fn.output;
      reads : g.O.Channel.read_faults l.output ≡ g.O.Channel.read_faults l.fn.output;
    }

use Rattle.std.proofs.Common.{Ok, Err, inl, refl, subst, sym}
use Rattle.fdo_ports.specs.Stream.{stream}
use Rattle.fdo_commands.specs.Answering.{AnswersAll, StopCounts, role, stage}
use Rattle.fdo_commands.specs.Input.{IsInput, WrongAt}
use Rattle.fdo_commands.proofs.StepEndings.{memory_ran_out, object_failed}
use Rattle.fdo_commands.proofs.step.answer_bytes.Goals as goal

pub returns-in-Err-Wrong-clause-answers : goal.returns-in-Err-Wrong-clause-answers
returns-in-Err-Wrong-clause-answers g c =
    (c.in-Err-Wrong.place, subst (WrongAt c.args.bytes.now) c.in-Err-Wrong.field-0-is c.in-Err-Wrong.ensures.err, refl, rw c.in-Err-Wrong.field-0-is at c.end_with_place.ensures.line)

pub returns-in-Err-NoMemory-clause-answers : goal.returns-in-Err-NoMemory-clause-answers
returns-in-Err-NoMemory-clause-answers g c = inl (refl, refl, refl)

pub returns-in-Ok-Some-clause-answers : goal.returns-in-Ok-Some-clause-answers
returns-in-Ok-Some-clause-answers g c =
    let state = g.H.Handler.state in
    let output = stream g.O.Channel in
    let role = role g.H.Handler.Steps g.H.Handler.GivesUp in
    let before = stage (state c.args.handler.now) (output c.args.output.now) in
    let after = stage (state c.answer_all.new.handler) (output c.answer_all.new.output) in
    let all = subst (λ b. AnswersAll role c.as_slice.result.now before after (Ok b)) c.in-Ok-Some.field-0-is c.in-Ok-Some.ensures.answers in
    object_failed role c.args.bytes.now before after c.as_slice.result.now (subst (IsInput c.args.bytes.now) (sym c.as_slice.ensures.value) c.in-Ok.ensures.ok)
    c.in-Ok-Some.object (output c.end_with.new.output) all c.in-Ok-Some.ensures.faults (rw c.object_line.ensures at c.end_with.ensures.line)

pub returns-clause-answers : goal.returns-clause-answers
returns-clause-answers g c =
    let state = g.H.Handler.state in
    let output = stream g.O.Channel in
    let role = role g.H.Handler.Steps g.H.Handler.GivesUp in
    let before = stage (state c.args.handler.now) (output c.args.output.now) in
    let after = stage (state c.answer_all.new.handler) (output c.answer_all.new.output) in
    let all = subst (λ why. AnswersAll role c.as_slice.result.now before after (Err why)) c.in-Err-NoMemory-answer_all.field-0-is c.in-Err-NoMemory-answer_all.ensures.answers in
    let same = subst (λ why. StopCounts before.output after.output (Err why)) c.in-Err-NoMemory-answer_all.field-0-is c.in-Err-NoMemory-answer_all.ensures.faults in
    memory_ran_out role c.args.bytes.now before after c.as_slice.result.now (subst (IsInput c.args.bytes.now) (sym c.as_slice.ensures.value) c.in-Ok.ensures.ok) all same

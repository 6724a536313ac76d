use Rattle.std.proofs.Common.{◌≡◌, subst}
use Rattle.fdo_ports.specs.Draw.{drawn}
use Rattle.fdo_ports.specs.Stream.{stream}
use Rattle.suite_port.specs.Keys.{keys}
use Rattle.rendezvous.specs.RvState.{clocked}
use Rattle.fdo_commands.specs.Commands.{command_said}
use Rattle.fdo_commands.specs.Outside.{outside, signing}
use Rattle.fdo_commands.proofs.Outcomes.{named_words, nothing_said, ran_named, ran_outcome, still_outcome}
use Rattle.fdo_commands.proofs.top.fdo.Goals as goal

pub returns-in-Err-clause-ran : goal.returns-in-Err-clause-ran
returns-in-Err-clause-ran g c = nothing_said _ _ _ _ c.in-Err.ensures.no_memory

pub returns-in-Err-clause-outcome : goal.returns-in-Err-clause-outcome
returns-in-Err-clause-outcome g c = still_outcome _

pub returns-in-Ok-Some-clause-ran : goal.returns-in-Ok-Some-clause-ran
returns-in-Ok-Some-clause-ran g c =
    let before = outside (stream g.I.Channel c.args.input.now) (stream g.O.Channel c.args.output.now) (keys g.S.Holder c.args.suite.now) (drawn g.N.Random c.args.random.now) (clocked g.C.Clock c.args.clock.now) in
    let after = outside (stream g.I.Channel c.run.new.input) (stream g.O.Channel c.run.new.output) (keys g.S.Holder c.run.new.suite) (drawn g.N.Random c.run.new.random) (clocked g.C.Clock c.run.new.clock) in
    let named = subst (λ said. said ≡ command_said c.args.words.now) c.in-Ok-Some.field-0-is c.in-Ok-Some.ensures.found in
    ran_named (signing g.S.Verifier.verifies g.S.Signer.algorithm g.S.Signer.loads g.S.CertReader.key_in) c.args.words.now c.in-Ok-Some.command named before after c.run.result c.run.ensures.ran

pub returns-in-Ok-Some-clause-words : goal.returns-in-Ok-Some-clause-words
returns-in-Ok-Some-clause-words g c =
    let before = outside (stream g.I.Channel c.args.input.now) (stream g.O.Channel c.args.output.now) (keys g.S.Holder c.args.suite.now) (drawn g.N.Random c.args.random.now) (clocked g.C.Clock c.args.clock.now) in
    let after = outside (stream g.I.Channel c.run.new.input) (stream g.O.Channel c.run.new.output) (keys g.S.Holder c.run.new.suite) (drawn g.N.Random c.run.new.random) (clocked g.C.Clock c.run.new.clock) in
    let named = subst (λ said. said ≡ command_said c.args.words.now) c.in-Ok-Some.field-0-is c.in-Ok-Some.ensures.found in
    named_words (signing g.S.Verifier.verifies g.S.Signer.algorithm g.S.Signer.loads g.S.CertReader.key_in) c.args.words.now c.in-Ok-Some.command named before after c.run.result c.run.ensures.ran

pub returns-in-Ok-Some-clause-outcome : goal.returns-in-Ok-Some-clause-outcome
returns-in-Ok-Some-clause-outcome g c =
    let before = outside (stream g.I.Channel c.args.input.now) (stream g.O.Channel c.args.output.now) (keys g.S.Holder c.args.suite.now) (drawn g.N.Random c.args.random.now) (clocked g.C.Clock c.args.clock.now) in
    let after = outside (stream g.I.Channel c.run.new.input) (stream g.O.Channel c.run.new.output) (keys g.S.Holder c.run.new.suite) (drawn g.N.Random c.run.new.random) (clocked g.C.Clock c.run.new.clock) in
    ran_outcome (signing g.S.Verifier.verifies g.S.Signer.algorithm g.S.Signer.loads g.S.CertReader.key_in) before after c.run.result c.in-Ok-Some.command c.run.ensures.ran c.run.ensures.input c.run.ensures.output

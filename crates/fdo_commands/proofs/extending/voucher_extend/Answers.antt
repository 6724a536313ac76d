use Rattle.std.proofs.Common.{ℕ, refl}
use Rattle.std.specs.declared.alloc.Global.{Global}
use Rattle.std.specs.declared.vec.Vec.{Vec}
use Rattle.fdo_ports.specs.Stream.{stream}
use Rattle.suite_port.specs.Keys.{keys}
use Rattle.fdo_commands.specs.Ending.{lent}
use Rattle.fdo_commands.specs.Outside.{signing}
use Rattle.fdo_commands.proofs.ExtendEndings.{after_load, unloaded_ends}
use Rattle.fdo_commands.proofs.extending.voucher_extend.Goals as goal

pub returns-in-Ok-clause-ends : goal.returns-in-Ok-clause-ends
returns-in-Ok-clause-ends g c =
    after_load (signing g.S.Verifier.verifies g.S.Signer.algorithm g.S.Signer.loads g.S.CertReader.key_in) _ _
    (lent (keys g.S.Holder c.args.suite.now) (stream g.I.Channel c.args.input.now) (stream g.O.Channel c.args.output.now))
    (lent (keys g.S.Holder c.extend_input.new.suite) (stream g.I.Channel c.extend_input.new.input) (stream g.O.Channel c.extend_input.new.output))
    _ c.in-Ok.ensures.known c.in-Ok._key.items c.in-Ok.ensures.held c.in-Ok.ensures.faults c.in-Ok.ensures.asked c.extend_input.result c.extend_input.ensures.ends

pub returns-in-Err-clause-ends : goal.returns-in-Err-clause-ends
returns-in-Err-clause-ends g c =
    unloaded_ends (Vec ℕ Global) (signing g.S.Verifier.verifies g.S.Signer.algorithm g.S.Signer.loads g.S.CertReader.key_in) _ _ _ _ _ _ _ _
    (stream g.I.Channel c.args.input.now) (stream g.I.Channel c.args.input.now) (stream g.O.Channel c.args.output.now) (stream g.O.Channel c.end_unloaded.new.output)
    c.in-Err.fault c.in-Err.ensures.known c.in-Err.ensures.held c.in-Err.ensures.faults c.in-Err.ensures.asked refl refl c.end_unloaded.result c.end_unloaded.ensures.unloaded

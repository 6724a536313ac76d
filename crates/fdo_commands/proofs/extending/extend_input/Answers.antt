use Rattle.std.proofs.Common.{refl, subst, sym}
use Rattle.fdo_commands.specs.Outside.{signing}
use Rattle.fdo_ports.specs.Stream.{stream}
use Rattle.suite_port.specs.Keys.{keys}
use Rattle.fdo_commands.specs.Ending.{lent}
use Rattle.fdo_commands.specs.Stream.{TookAll}
use Rattle.fdo_commands.specs.Vouchers.{extending}
use Rattle.fdo_commands.proofs.TextEndings.{found_ends, unread_ends}
use Rattle.fdo_commands.proofs.extending.extend_input.Goals as goal

pub returns-in-Ok-clause-ends : goal.returns-in-Ok-clause-ends
returns-in-Ok-clause-ends g c =
    let left = g.I.Channel.left in
    let took = subst (TookAll (left c.args.input.now) (left c.read_input.new.input)) (sym c.as_slice.ensures.value) c.in-Ok.ensures.bytes in
    found_ends (extending (signing g.S.Verifier.verifies g.S.Signer.algorithm g.S.Signer.loads g.S.CertReader.key_in) c.args.next.now)
    (lent (keys g.S.Holder c.args.suite.now) (stream g.I.Channel c.args.input.now) (stream g.O.Channel c.args.output.now))
    (lent (keys g.S.Holder c.extend_bytes-found.new.suite) (stream g.I.Channel c.read_input.new.input) (stream g.O.Channel c.end_found.new.output))
    c.as_slice.result.now took c.in-Ok.ensures.faults c.extend_bytes-found.result c.extend_bytes-found.ensures c.end_found.result c.end_found.ensures.found

pub returns-in-Err-clause-ends : goal.returns-in-Err-clause-ends
returns-in-Err-clause-ends g c =
    unread_ends (extending (signing g.S.Verifier.verifies g.S.Signer.algorithm g.S.Signer.loads g.S.CertReader.key_in) c.args.next.now)
    (lent (keys g.S.Holder c.args.suite.now) (stream g.I.Channel c.args.input.now) (stream g.O.Channel c.args.output.now))
    (lent (keys g.S.Holder c.args.suite.now) (stream g.I.Channel c.read_input.new.input) (stream g.O.Channel c.end_unread.new.output))
    refl c.in-Err.fault c.in-Err.ensures.bytes c.in-Err.ensures.faults c.end_unread.result c.end_unread.ensures.fails

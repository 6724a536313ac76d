use Rattle.std.proofs.Common.{refl, subst}
use Rattle.to2_device.specs.Lent.{lending}
use Rattle.to2_device.specs.Views.{SignsOnce, agreed_of, on_the_walk, walk_of}
use Rattle.fdo_rules.specs.DeviceTo2.{claims_of}
use Rattle.fdo_rules.specs.Made.{text_to_sign}
use Rattle.to2_device.proofs.Signing.{not_signed, proof_sent}
use Rattle.to2_device.proofs.walk.Walk.sign.Goals as goal

pub returns-in-Ok-Ok-clause-step : goal.returns-in-Ok-Ok-clause-step
returns-in-Ok-Ok-clause-step g c random =
    let w = walk_of c.args.self in
    let a = agreed_of c.args.agreed in
    let before = lending random g.S.Holder c.args.suite.now in
    let after = lending random g.S.Holder c.make_proof.new.suite in
    let made = subst (SignsOnce g.S.Signer.signs before.faults after.faults w.self.me (text_to_sign a.alg (claims_of w a.xb))) c.in-Ok-Ok.field-0-is c.in-Ok-Ok.ensures.signed in
    proof_sent g.S.Signer.signs c.args.packet.now on_the_walk w c.args.setup_dv a c.in-Ok-Ok.proof before after after c.send.result (rw c.in-Ok-Ok.field-0-is at c.in-Ok-Ok.ensures.proof) made.0 refl made.1 refl c.send.ensures.moved

pub returns-in-Ok-Err-clause-step : goal.returns-in-Ok-Err-clause-step
returns-in-Ok-Err-clause-step g c random =
    let w = walk_of c.args.self in
    let a = agreed_of c.args.agreed in
    let before = lending random g.S.Holder c.args.suite.now in
    let after = lending random g.S.Holder c.make_proof.new.suite in
    let rises = subst (SignsOnce g.S.Signer.signs before.faults after.faults w.self.me (text_to_sign a.alg (claims_of w a.xb))) c.in-Ok-Err.field-0-is c.in-Ok-Err.ensures.signed in
    not_signed g.S.Signer.signs c.args.packet.now on_the_walk w c.args.setup_dv a c.in-Ok-Err.field-0-0 c.stop.result before after after c.refuse.result rises refl refl c.refuse.ensures

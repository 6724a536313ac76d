use Rattle.std.proofs.Common.{List, ℕ, Option, Result, refl}
use Rattle.fdo_ports.specs.declared.failed.Failed.{Failed}
use Rattle.voucher_chain.specs.declared.credential.Credential.{Credential}
use Rattle.fdo_rules.specs.DeviceTo2.{HelloSent, hello_row, with_nonce}
use Rattle.fdo_rules.specs.Moves.{Moves}
use Rattle.fdo_rules.specs.Row.{Row}
use Rattle.to2_device.specs.Credential.{credential_in}
use Rattle.to2_device.specs.Lent.{source_alone, unsigned}
use Rattle.to2_device.specs.Views.{greeting}
use Rattle.to2_device.proofs.Stepping.{after_draw, at_end}
use Rattle.to2_device.proofs.idle.Idle.hello.Goals as goal

pub returns-clause-step : goal.returns-clause-step
unfolding hello_row
returns-clause-step g c =
    let before = source_alone g.N.Random c.args.random.now in
    let after = source_alone g.N.Random c.draw16-nonce.new.self in
    let move : Result (List ℕ) Failed → Moves HelloSent (Unit {0}) = λ nonce. with_nonce (credential_in c.args.self.store.credential) c.args.self.me c.args.offer nonce in
    let rest : Result (List ℕ) Failed → Row (Option Credential) (Moves HelloSent (Unit {0})) = λ nonce. Row.Ends (move nonce) in
    after_draw unsigned greeting rest c.draw16-nonce.result before after after c.greet.result ((c.draw16-nonce.ensures.drawn, c.draw16-nonce.ensures.faults), refl)
    (at_end unsigned greeting (move c.draw16-nonce.result) after after c.greet.result refl c.greet.ensures.moved)

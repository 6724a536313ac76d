use Rattle.std.proofs.Common.{sym, ap, take, ◌∙◌, arith}
use Rattle.cbor_core.proofs.Received.{received_det}
use Rattle.cbor_core.proofs.keys.as_received.Goals as goal

pub returns-then-settles : goal.returns-then-settles
returns-then-settles c = λ strict total levels x here is.
    c.split_at.ensures.front ∙ ap (λ k. take k c.args.bytes.now) c.saturating_sub.ensures
    ∙ received_det c.args.place c.args.bytes.now c.args.rest.now c.in-Ok._content.now c.in-Ok.head (λ i. omega (arith, c.type_inv.bytes i)) c.in-Ok.ensures.gives
    (sym c.settles.ensures ∙ c.if-settles.true) strict total levels x here is

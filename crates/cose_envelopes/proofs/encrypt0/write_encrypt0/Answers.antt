use Rattle.std.proofs.Common.{◌≡◌, IfOk, subst, arith}
use Rattle.cbor_core.specs.declared.item.Item.{Item}
use Rattle.cbor_core.specs.Deterministic.{det}
use Rattle.cose_envelopes.proofs.WriteLaws.{written_encrypt0}
use Rattle.cose_envelopes.proofs.encrypt0.write_encrypt0.Goals as goal

pub returns-clause-said : goal.returns-clause-said
returns-clause-said c =
    written_encrypt0 c.args.value.now c.write_det.result (omega arith) (subst (λ (x : Item). IfOk c.write_det.result (λ bytes. bytes ≡ det x)) c.in_ok-item.ensures c.write_det.ensures.value)

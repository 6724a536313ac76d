use Rattle.std.proofs.Common.{sym, ◌∙◌}
use Rattle.cbor_core.specs.Spots.{spot_item, spot_parts}
use Rattle.voucher_chain.specs.Fault.{all_in}
use Rattle.voucher_chain.proofs.Alls.{spots_more}
use Rattle.fdo_msgs.specs.Info.{pair_in}
use Rattle.fdo_msgs.proofs.info.read_all.Goals as goal

pub loop-next-preserved : goal.loop-next-preserved
loop-next-preserved c =
    rw c.in_ok-push-in-Some-2.ensures.items
    (spots_more (λ s. pair_in (spot_item s)) c.loop-next.all.items c.loop-next.next c.in-Some.pair c.in-Some-2.value c.after-next.result (all_in (λ s. pair_in (spot_item s)) (spot_parts c.args.part.now.spot))
    c.loop-next.invariant c.in-Some.is (sym c.in-Some-2.is ∙ c.in_ok-value.ensures) c.after-next.ensures)

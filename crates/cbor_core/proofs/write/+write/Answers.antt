use Rattle.std.proofs.Common.{◌∙◌, length, sym, ap, arith}
use Rattle.std.proofs.lemmas.List.{length-append}
use Rattle.cbor_core.specs.Head.{head}
use Rattle.cbor_core.specs.Deterministic.{det}
use Rattle.cbor_core.proofs.Rising.{front_more, top_written, order_written}
use Rattle.cbor_core.proofs.Rows.{spelled_more}
use Rattle.cbor_core.proofs.write.+write.Goals as goal

pub write_items-loop-item-preserved : goal.write_items-loop-item-preserved
write_items-loop-item-preserved t c = c.in_ok-write_item.ensures ∙ spelled_more det c.args.items.now c.loop-item.item-index c.item-item.result
    c.args.out.now.items (head 4 (length c.args.items.now)) c.loop-item.out.items c.loop-item-test.true c.item-item.is c.loop-item.invariant

pub write_keys-loop-key-preserved : goal.write_keys-loop-key-preserved
write_keys-loop-key-preserved t c =
    let text = c.in_ok-write_above.ensures.text in
    let up = sym c.in_ok-write_above.ensures.above ∙ c.if-not-branch.false in
    let was = c.loop-key.invariant in
    record {
      front = rw text (front_more c.args.out.now.items c.loop-key.out.items (det c.loop-key-item.result.0) was.front);
      within = omega (arith, ap length text, length-append c.loop-key.out.items (det c.loop-key-item.result.0), c.len-end.ensures);
      top = top_written c.args.pairs.now c.loop-key.key-index c.loop-key.mark c.len-end.result c.loop-key-item.result c.loop-key.out.items c.write_above.new.out.items
          (omega (arith, c.len-end.ensures)) text c.loop-key-test.true c.loop-key-item.is up was.top;
      order = order_written c.args.pairs.now c.loop-key.key-index c.loop-key.mark c.loop-key-item.result c.loop-key.out.items c.loop-key-test.true c.loop-key-item.is up was.top was.order;
    }

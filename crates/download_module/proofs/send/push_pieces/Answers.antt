use Rattle.std.proofs.Common.{◌∙◌, ap, take, drop}
use Rattle.download_module.proofs.SendLaws.{pieces_step}
use Rattle.download_module.proofs.send.push_pieces.Goals as goal

pub loop-piece-preserved : goal.loop-piece-preserved
loop-piece-preserved c =
    let was = c.loop-piece in
    pieces_step was.pairs.items c.push.new.self.items c.args.count was._piece was.rest.now c.split_at.result.0.now c.split_at.result.1.now c.in_ok-bytes_pair.field-0
    _ c.loop-piece-test.true was.invariant
    (c.split_at.ensures.front ∙ ap (λ n. take n was.rest.now) c.min.ensures) (c.split_at.ensures.back ∙ ap (λ n. drop n was.rest.now) c.min.ensures)
    c.in_ok-bytes_pair.ensures c.in_ok-push.ensures.items

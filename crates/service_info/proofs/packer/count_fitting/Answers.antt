use Rattle.std.proofs.Common.{reverse, arith}
use Rattle.std.proofs.lemmas.List.{length-reverse}
use Rattle.service_info.proofs.PackLaws.{front_fits, front_passes, more_pairs}
use Rattle.service_info.proofs.packer.count_fitting.Goals as goal

pub returns-in-None-clause-fits : goal.returns-in-None-clause-fits
returns-in-None-clause-fits c =
    let kept = c.loop-count.invariant in let xs = c.args.reversed.now in
    λ some. front_fits (reverse xs) c.loop-count.count c.args.size c.loop-count.room (omega (arith, kept.within, length-reverse xs)) kept.room (kept.head some)

pub returns-in-None-clause-longest : goal.returns-in-None-clause-longest
returns-in-None-clause-longest c =
    let kept = c.loop-count.invariant in let xs = c.args.reversed.now in let pair = c.index-reversed-reversed in
    λ less. front_passes (reverse xs) c.loop-count.count c.args.size c.loop-count.room pair.result (omega (arith, less, length-reverse xs)) kept.room
    (more_pairs xs c.loop-count.count pair.result less pair.is) c.in-None.ensures.none

pub returns-clause-fits : goal.returns-clause-fits
returns-clause-fits c =
    let kept = c.loop-count.invariant in let xs = c.args.reversed.now in
    λ some. front_fits (reverse xs) c.loop-count.count c.args.size c.loop-count.room (omega (arith, kept.within, length-reverse xs)) kept.room (kept.head some)

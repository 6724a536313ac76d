use Rattle.std.proofs.Common.{◌≡◌, ℕ, IfOk, subst, sym, ◌∙◌}
use Rattle.fdo_msgs.specs.declared.shape.Shape.TheVariants as shape
use Rattle.fdo_msgs.proofs.RowSteps.{row_lacks, row_fails, row_more, row_ends}
use Rattle.fdo_msgs.proofs.rows.find_part_fault.Goals as goal

pub returns-in_default : goal.returns-in_default
returns-in_default c =
    c.at.ensures
    ∙ row_lacks c.args.body.now.spot.at c.args.shapes.now c.loop-shape.shape-index c.loop-shape.next _ c.loop-shape.invariant shape.U8 c.loop-shape-test.true c.in_default.is

pub returns-then-not-fits : goal.returns-then-not-fits
returns-then-not-fits c =
    subst (λ (p : ℕ). IfOk c.find_fault.result (λ at. at ≡ p))
    (row_fails c.args.body.now.spot.at c.args.shapes.now c.loop-shape.shape-index c.loop-shape.next _ c.loop-shape.invariant shape.U8 c.in-Some.part c.loop-shape-test.true c.in-Some.is
    (sym c.in_ok-fits.ensures ∙ c.if-not-fits.true))
    c.find_fault.ensures

pub loop-shape-preserved : goal.loop-shape-preserved
loop-shape-preserved c =
    row_more c.args.body.now.spot.at c.args.shapes.now c.loop-shape.shape-index c.loop-shape.next _ c.loop-shape.invariant shape.U8 c.in-Some.part c.after-next.result c.loop-shape-test.true c.in-Some.is
    (sym c.in_ok-fits.ensures ∙ c.if-not-fits.false) c.after-next.ensures

pub returns : goal.returns
returns c = c.at-2.ensures ∙ row_ends c.args.body.now.spot.at c.args.shapes.now c.loop-shape.shape-index c.loop-shape.next _ c.loop-shape.invariant c.loop-shape-test.false

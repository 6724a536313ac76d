use Rattle.std.proofs.Common.{sym, ap, ◌∙◌}
use Rattle.cbor_core.specs.declared.item.Item.{Item, out-Item}
use Rattle.cbor_core.specs.Counting.{count_in}
use Rattle.cbor_core.proofs.SpotLaws.{placed_item}
use Rattle.cbor_core.proofs.part.Part.count.Goals as goal

pub returns : goal.returns
returns c =
    let p = c.self.invariant in
    c.count.ensures p.input p.item p.text p.later p.stands ∙ sym (ap (λ (x : Item). count_in (out-Item x)) (placed_item c.self.inside.cursor p c.args.self.now c.self.view_is))

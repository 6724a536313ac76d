use Rattle.std.proofs.Common.{◌≡◌, sym, subst, IfOk}
use Rattle.cbor_core.specs.declared.item.Item.{Item}
use Rattle.cbor_core.proofs.SpotLaws.{placed_item}
use Rattle.cbor_core.proofs.part.Part.item.Goals as goal

pub returns : goal.returns
returns c =
    let p = c.self.invariant in
    subst (λ (x : Item). IfOk c.item.result (λ y. y ≡ x)) (sym (placed_item c.self.inside.cursor p c.args.self.now c.self.view_is)) (c.item.ensures p.input p.item p.text p.later p.stands)

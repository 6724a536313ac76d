use Rattle.std.proofs.Common.{sym, ◌∙◌}
use Rattle.cbor_core.proofs.SpotLaws.{placed_raw}
use Rattle.cbor_core.proofs.part.Part.raw.Goals as goal

pub returns : goal.returns
returns c =
    let p = c.self.invariant in
    c.raw.ensures p.input p.item p.text p.later p.stands ∙ sym (placed_raw c.self.inside.cursor p c.args.self.now c.self.view_is)

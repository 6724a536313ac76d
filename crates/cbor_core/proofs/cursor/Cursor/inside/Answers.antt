use Rattle.std.proofs.Common.{subst}
use Rattle.cbor_core.specs.declared.cursor.Entry.{Entry}
use Rattle.cbor_core.proofs.PartLaws.{FirstIn, inside_found, inside_leaf, inside_read}
use Rattle.cbor_core.proofs.SpotLaws.{inside_first}
use Rattle.cbor_core.proofs.cursor.Cursor.inside.Goals as goal

pub returns-in-Leaf-clause-inside : goal.returns-in-Leaf-clause-inside
returns-in-Leaf-clause-inside c = λ input x text later s. inside_leaf c.args.self.now input x text later s c.in-Ok.head c.in-Ok.rest.now c.in-Ok.ensures.gives c.in-Leaf.ensures

pub returns-in-Counted-clause-inside : goal.returns-in-Counted-clause-inside
returns-in-Counted-clause-inside c = λ input x text later s.
    inside_found c.args.self.now input x text later s c.in-Ok.head c.in-Ok.rest.now c.moved.result c.saturating_sub.result c.counted.result c.in-Ok.ensures.gives c.moved.ensures c.saturating_sub.ensures
    (subst (λ (e : Entry). FirstIn c.saturating_sub.result c.moved.result e c.in-Ok.rest.now c.counted.result) c.in-Counted.ensures (c.counted.ensures.none, c.counted.ensures.some))

pub returns-in-ToBreak-clause-inside : goal.returns-in-ToBreak-clause-inside
returns-in-ToBreak-clause-inside c = λ input x text later s.
    inside_found c.args.self.now input x text later s c.in-Ok.head c.in-Ok.rest.now c.moved-in-ToBreak.result c.saturating_sub-in-ToBreak.result c.to_break.result c.in-Ok.ensures.gives c.moved-in-ToBreak.ensures c.saturating_sub-in-ToBreak.ensures
    (subst (λ (e : Entry). FirstIn c.saturating_sub-in-ToBreak.result c.moved-in-ToBreak.result e c.in-Ok.rest.now c.to_break.result) c.in-ToBreak.ensures (c.to_break.ensures.none, c.to_break.ensures.some))

pub returns-in-Err-clause-inside : goal.returns-in-Err-clause-inside
returns-in-Err-clause-inside c = λ input x text later s. absurd (inside_read c.args.self.now input x text later s c.in-Err.field-0 c.in-Err.ensures.exact)

pub returns-in-Counted-clause-first : goal.returns-in-Counted-clause-first
returns-in-Counted-clause-first c = λ p.
    inside_first c.args.self.now p.input p.item p.text p.later p.stands c.in-Ok.head c.in-Ok.rest.now c.moved.result c.saturating_sub.result c.counted.result c.in-Ok.ensures.gives c.moved.ensures c.saturating_sub.ensures
    (subst (λ (e : Entry). FirstIn c.saturating_sub.result c.moved.result e c.in-Ok.rest.now c.counted.result) c.in-Counted.ensures (c.counted.ensures.none, c.counted.ensures.some))

pub returns-in-ToBreak-clause-first : goal.returns-in-ToBreak-clause-first
returns-in-ToBreak-clause-first c = λ p.
    inside_first c.args.self.now p.input p.item p.text p.later p.stands c.in-Ok.head c.in-Ok.rest.now c.moved-in-ToBreak.result c.saturating_sub-in-ToBreak.result c.to_break.result c.in-Ok.ensures.gives c.moved-in-ToBreak.ensures c.saturating_sub-in-ToBreak.ensures
    (subst (λ (e : Entry). FirstIn c.saturating_sub-in-ToBreak.result c.moved-in-ToBreak.result e c.in-Ok.rest.now c.to_break.result) c.in-ToBreak.ensures (c.to_break.ensures.none, c.to_break.ensures.some))

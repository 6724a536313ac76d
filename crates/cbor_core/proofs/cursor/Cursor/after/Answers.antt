use Rattle.std.proofs.Common.{◌++◌, ◌∙◌, sym, subst}
use Rattle.cbor_core.specs.declared.cursor.Left.{Left}
use Rattle.cbor_core.proofs.PartLaws.{First, after_next}
use Rattle.cbor_core.proofs.SpotLaws.{after_first, last_first, stands_spot}
use Rattle.cbor_core.proofs.cursor.Cursor.after.Goals as goal

pub returns-in-Counted-clause-next : goal.returns-in-Counted-clause-next
returns-in-Counted-clause-next c = λ input x text later s. after_next c.args.self.now input x text later s c.end-end.result.now c.moved.result c.counted.result
    (c.end-end.ensures x text (s.row ++ s.rest) s.spelled s.bytes) c.moved.ensures
    (subst (λ (l : Left). First c.args.self.now.levels c.moved.result l c.end-end.result.now c.counted.result) (sym c.in-Counted.is) (c.counted.ensures.none, c.counted.ensures.some))

pub returns-in-ToBreak-clause-next : goal.returns-in-ToBreak-clause-next
returns-in-ToBreak-clause-next c = λ input x text later s. after_next c.args.self.now input x text later s c.end-end-in-ToBreak.result.now c.moved-in-ToBreak.result c.to_break.result
    (c.end-end-in-ToBreak.ensures x text (s.row ++ s.rest) s.spelled s.bytes) c.moved-in-ToBreak.ensures
    (subst (λ (l : Left). First c.args.self.now.levels c.moved-in-ToBreak.result l c.end-end-in-ToBreak.result.now c.to_break.result) (sym c.in-ToBreak.is) (c.to_break.ensures.none, c.to_break.ensures.some))

pub returns-in-Counted-clause-first : goal.returns-in-Counted-clause-first
returns-in-Counted-clause-first c = λ p.
    let s = p.stands in
    let end = c.end-end.ensures p.item p.text (s.row ++ s.rest) s.spelled s.bytes in
    let first = subst (λ (l : Left). First c.args.self.now.levels c.moved.result l c.end-end.result.now c.counted.result) (sym c.in-Counted.is) (c.counted.ensures.none, c.counted.ensures.some) in
    after_first c.args.self.now p.input p.item p.text p.later s c.moved.result c.end-end.result.now c.counted.result
    (end ∙ sym (stands_spot c.args.self.now p.input p.item p.text p.later s).end)
    (after_next c.args.self.now p.input p.item p.text p.later s c.end-end.result.now c.moved.result c.counted.result end c.moved.ensures first) first

pub returns-in-ToBreak-clause-first : goal.returns-in-ToBreak-clause-first
returns-in-ToBreak-clause-first c = λ p.
    let s = p.stands in
    let end = c.end-end-in-ToBreak.ensures p.item p.text (s.row ++ s.rest) s.spelled s.bytes in
    let first = subst (λ (l : Left). First c.args.self.now.levels c.moved-in-ToBreak.result l c.end-end-in-ToBreak.result.now c.to_break.result) (sym c.in-ToBreak.is) (c.to_break.ensures.none, c.to_break.ensures.some) in
    after_first c.args.self.now p.input p.item p.text p.later s c.moved-in-ToBreak.result c.end-end-in-ToBreak.result.now c.to_break.result
    (end ∙ sym (stands_spot c.args.self.now p.input p.item p.text p.later s).end)
    (after_next c.args.self.now p.input p.item p.text p.later s c.end-end-in-ToBreak.result.now c.moved-in-ToBreak.result c.to_break.result end c.moved-in-ToBreak.ensures first) first

pub returns-in-Counted-eq0-clause-first : goal.returns-in-Counted-eq0-clause-first
returns-in-Counted-eq0-clause-first c = λ p. last_first c.args.self.now c.in-Counted-eq0.field-0 c.in-Counted-eq0.is (sym c.in-Counted-eq0.field-0-is ∙ c.in-Counted-eq0.field-0-test)

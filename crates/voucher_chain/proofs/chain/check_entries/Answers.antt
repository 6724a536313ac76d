use Rattle.std.proofs.Common.{◌≡◌, ◌++◌, [], length, ap, subst, ◌∙◌, append-nil, Ok, arith}
use Rattle.voucher_chain.specs.Chain.{links_break, entry_break, front, checked}
use Rattle.voucher_chain.specs.Fault.{Fails}
use Rattle.voucher_chain.specs.Chain.{AsksToCheckAll, AsksUpTo}
use Rattle.voucher_chain.proofs.AskLaws.{remains_all, remains_next, remains_refused}
use Rattle.voucher_chain.proofs.ChainLaws.{entry_fails, entry_holds, entries_hold}
use Rattle.voucher_chain.proofs.chain.check_entries.Goals as goal

pub returns-in-Err-clause-answer : goal.returns-in-Err-clause-answer
returns-in-Err-clause-answer g c =
    let v = c.args.voucher.now in
    let before = c.loop-entry.first.now ++ c.loop-entry.second.now in
    let key = c.loop-entry.signer.now in
    let e = c.entry-item.result in
    let whole = links_break g.S.Verifier.verifies v.header 0 (front v) v.header.key v.entries in
    entry_fails g.S.Verifier.verifies v.header c.as_list-entries.result.now c.loop-entry.entry-index before key whole c.loop-entry.invariant.breaks e c.in-Err.fault c.loop-entry-test.true c.entry-item.is
    (subst (λ n. Fails (checked (entry_break g.S.Verifier.verifies v.header n before key e)) c.in-Err.fault) c.loop-entry.invariant.index c.in-Err.ensures.answer)

pub loop-entry-preserved : goal.loop-entry-preserved
loop-entry-preserved g c =
    let v = c.args.voucher.now in
    let before = c.loop-entry.first.now ++ c.loop-entry.second.now in
    let key = c.loop-entry.signer.now in
    let e = c.entry-item.result in
    let whole = links_break g.S.Verifier.verifies v.header 0 (front v) v.header.key v.entries in
    record {
      index = omega (arith, c.saturating_add-index.ensures, c.loop-entry.invariant.index, c.loop-entry-test.true, ap length c.as_list-entries.ensures, c.requires);
      breaks = entry_holds g.S.Verifier.verifies v.header c.as_list-entries.result.now c.loop-entry.entry-index before key whole c.loop-entry.invariant.breaks e (c.as_list-first-in-loop-entry.result.now ++ []) c.loop-entry-test.true c.entry-item.is
          (subst (λ n. checked (entry_break g.S.Verifier.verifies v.header n before key e) ≡ Ok tt) c.loop-entry.invariant.index c.in-Ok.ensures.answer)
          (append-nil c.as_list-first-in-loop-entry.result.now ∙ c.as_list-first-in-loop-entry.ensures);
      asked = remains_next (g.S.Holder.asked c.args.suite.now) (g.S.Holder.asked c.loop-entry.suite) (g.S.Holder.asked c.check_link.new.suite) v.header.key key c.as_list-entries.result.now c.loop-entry.entry-index e c.loop-entry.invariant.asked c.loop-entry-test.true c.entry-item.is c.in-Ok.ensures.asked;
      held = c.check_link.ensures.held ∙ c.loop-entry.invariant.held;
      faults = c.check_link.ensures.faults ∙ c.loop-entry.invariant.faults;
    }

pub returns-clause-answer : goal.returns-clause-answer
returns-clause-answer g c =
    let v = c.args.voucher.now in
    let whole = links_break g.S.Verifier.verifies v.header 0 (front v) v.header.key v.entries in
    entries_hold g.S.Verifier.verifies v.header c.as_list-entries.result.now c.loop-entry.entry-index (c.loop-entry.first.now ++ c.loop-entry.second.now) c.loop-entry.signer.now whole
    c.loop-entry.invariant.breaks c.loop-entry-test.false

pub returns-in-Err-clause-asked : goal.returns-in-Err-clause-asked
returns-in-Err-clause-asked g c =
    subst (λ (es : _). AsksUpTo (g.S.Holder.asked c.args.suite.now) (g.S.Holder.asked c.check_link.new.suite) c.args.voucher.now.header.key es c.in-Err.fault) c.as_list-entries.ensures
    (remains_refused (g.S.Holder.asked c.args.suite.now) (g.S.Holder.asked c.loop-entry.suite) (g.S.Holder.asked c.check_link.new.suite) c.args.voucher.now.header.key c.loop-entry.signer.now c.as_list-entries.result.now c.loop-entry.entry-index c.loop-entry.index c.entry-item.result
    c.loop-entry.invariant.asked c.loop-entry-test.true c.entry-item.is c.loop-entry.invariant.index c.in-Err.fault c.in-Err.ensures.asked)

pub returns-clause-asked : goal.returns-clause-asked
returns-clause-asked g c =
    subst (λ (es : _). AsksToCheckAll {A = Unit {0}} (g.S.Holder.asked c.args.suite.now) (g.S.Holder.asked c.loop-entry.suite) c.args.voucher.now.header.key es (Ok tt)) c.as_list-entries.ensures
    (remains_all (g.S.Holder.asked c.args.suite.now) (g.S.Holder.asked c.loop-entry.suite) c.args.voucher.now.header.key c.loop-entry.signer.now c.as_list-entries.result.now c.loop-entry.entry-index c.loop-entry.invariant.asked c.loop-entry-test.false)

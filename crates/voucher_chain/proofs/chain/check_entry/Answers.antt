use Rattle.std.specs.Prelude.{◌++◌}
use Rattle.voucher_chain.proofs.BreakLaws.{one_broken, one_only_broken}
use Rattle.voucher_chain.proofs.ChainLaws.{entry_found, entry_only}
use Rattle.voucher_chain.proofs.chain.check_entry.Goals as goal

pub returns-clause-found : goal.returns-clause-found
returns-clause-found g c =
    entry_found g.S.Verifier.verifies c.args.header.now c.args.index (c.args.prev_first.now ++ c.args.prev_second.now) c.args.signer.now c.args.entry.now c.check_link.result c.check_link.ensures.answer

pub returns-clause-only : goal.returns-clause-only
returns-clause-only g c =
    entry_only g.S.Verifier.verifies c.args.header.now c.args.index (c.args.prev_first.now ++ c.args.prev_second.now) c.args.signer.now c.args.entry.now c.check_link.result c.check_link.ensures.answer

pub returns-clause-broken : goal.returns-clause-broken
returns-clause-broken g c =
    one_broken g.S.Verifier.verifies c.args.header.now c.args.index (c.args.prev_first.now ++ c.args.prev_second.now) c.args.signer.now c.args.entry.now c.check_link.result c.check_link.ensures.answer

pub returns-clause-only_broken : goal.returns-clause-only_broken
returns-clause-only_broken g c =
    one_only_broken g.S.Verifier.verifies c.args.header.now c.args.index (c.args.prev_first.now ++ c.args.prev_second.now) c.args.signer.now c.args.entry.now c.check_link.result c.check_link.ensures.answer

use Rattle.voucher_chain.proofs.BreakLaws.{chain_broken, chain_only_broken}
use Rattle.voucher_chain.proofs.ChainLaws.{chain_found, chain_only}
use Rattle.voucher_chain.proofs.chain.check_chain.Goals as goal

pub returns-clause-found : goal.returns-clause-found
returns-clause-found g c = chain_found g.S.Verifier.verifies c.args.voucher.now c.check_all.result c.check_all.ensures.answer

pub returns-clause-only : goal.returns-clause-only
returns-clause-only g c = chain_only g.S.Verifier.verifies c.args.voucher.now c.check_all.result c.check_all.ensures.answer

pub returns-clause-broken : goal.returns-clause-broken
returns-clause-broken g c = chain_broken g.S.Verifier.verifies c.args.voucher.now c.check_all.result c.check_all.ensures.answer

pub returns-clause-only_broken : goal.returns-clause-only_broken
returns-clause-only_broken g c = chain_only_broken g.S.Verifier.verifies c.args.voucher.now c.check_all.result c.check_all.ensures.answer

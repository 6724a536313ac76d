use Rattle.voucher_chain.proofs.ChainLaws.{longer_keeps, longer_owner}
use Rattle.voucher_chain.proofs.WholeBack.{longer_back}
use Rattle.voucher_chain.proofs.extending.extend.Goals as goal

pub returns-clause-keeps : goal.returns-clause-keeps
returns-clause-keeps g c = longer_keeps g.S.Verifier.verifies c.args.voucher.now c.args.next.now c.lengthen.result c.lengthen.ensures.longer

pub returns-clause-owner : goal.returns-clause-owner
returns-clause-owner g c = longer_owner g.S.Verifier.verifies c.args.voucher.now c.args.next.now c.lengthen.result c.lengthen.ensures.longer

pub returns-clause-back : goal.returns-clause-back
returns-clause-back g c = longer_back g.S.Verifier.verifies c.args.voucher.now c.args.next.now c.lengthen.result c.lengthen.ensures.longer c.lengthen.ensures.sizes

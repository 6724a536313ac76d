use Rattle.key_codec.proofs.Said.{says_key, says_only}
use Rattle.key_codec.proofs.Fits.{says_fit_key}
use Rattle.key_codec.proofs.read.read_key.Goals as goal

pub returns-clause-found : goal.returns-clause-found
returns-clause-found c = says_key c.args.item.now c.key_at.result c.key_at.ensures

pub returns-clause-only : goal.returns-clause-only
returns-clause-only c key is = says_only c.args.item.now c.key_at.result key c.key_at.ensures is

pub returns-clause-fit : goal.returns-clause-fit
returns-clause-fit c = says_fit_key c.args.item.now c.key_at.result c.key_at.ensures

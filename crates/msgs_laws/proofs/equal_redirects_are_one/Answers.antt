use Rattle.msgs_laws.proofs.RedirectBack.{one_redirect}
use Rattle.msgs_laws.proofs.equal_redirects_are_one.Goals as goal

pub returns : goal.returns
returns c = one_redirect

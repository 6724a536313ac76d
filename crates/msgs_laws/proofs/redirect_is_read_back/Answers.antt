use Rattle.msgs_laws.proofs.RedirectBack.{redirect_back}
use Rattle.msgs_laws.proofs.redirect_is_read_back.Goals as goal

pub returns : goal.returns
returns c = redirect_back

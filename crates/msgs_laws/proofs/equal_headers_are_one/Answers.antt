use Rattle.msgs_laws.proofs.PayloadsBack.{one_header}
use Rattle.msgs_laws.proofs.equal_headers_are_one.Goals as goal

pub returns : goal.returns
returns c = one_header

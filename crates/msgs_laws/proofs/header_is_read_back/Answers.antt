use Rattle.msgs_laws.proofs.PayloadsBack.{header_back}
use Rattle.msgs_laws.proofs.header_is_read_back.Goals as goal

pub returns : goal.returns
returns c = header_back

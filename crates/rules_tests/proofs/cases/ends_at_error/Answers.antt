use Rattle.rules_tests.proofs.Computed.{ended}
use Rattle.rules_tests.proofs.cases.ends_at_error.Goals as goal

pub returns : goal.returns
returns c = ended

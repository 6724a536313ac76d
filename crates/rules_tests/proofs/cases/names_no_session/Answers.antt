use Rattle.rules_tests.proofs.Computed.{unnamed}
use Rattle.rules_tests.proofs.cases.names_no_session.Goals as goal

pub returns : goal.returns
returns c = unnamed

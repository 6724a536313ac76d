use Rattle.rules_tests.proofs.Computed.{turned_away}
use Rattle.rules_tests.proofs.cases.turns_away.Goals as goal

pub returns : goal.returns
returns c = turned_away

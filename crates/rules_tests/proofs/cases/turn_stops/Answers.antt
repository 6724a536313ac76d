use Rattle.rules_tests.proofs.Computed.{out_of_turn}
use Rattle.rules_tests.proofs.cases.turn_stops.Goals as goal

pub returns : goal.returns
returns c = out_of_turn

-- Rows that compute.
use Rattle.std.proofs.Common.{refl}
use Rattle.fdo_rules.specs.Rendezvous.{rendezvous_row}
use Rattle.fdo_rules.specs.To0Client.{accept_owner_row}
use Rattle.rules_tests.specs.Client.{TurnStops}
use Rattle.rules_tests.specs.Rendezvous.{TurnsAway, NamesNoSession, EndsAtError}

pub turned_away : TurnsAway
unfolding rendezvous_row
turned_away = refl

pub unnamed : NamesNoSession
unfolding rendezvous_row
unnamed = refl

pub ended : EndsAtError
unfolding rendezvous_row
ended = refl

pub out_of_turn : TurnStops
unfolding accept_owner_row
out_of_turn = refl

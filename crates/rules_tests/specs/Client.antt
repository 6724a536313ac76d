-- Rows of the clients.
use Rattle.std.specs.Prelude.{◌≡◌, [], Some, None, Ok}
use Rattle.fdo_msgs.specs.Refusal.{error_of}
use Rattle.fdo_msgs.specs.declared.cause.Cause.TheVariants as cause
use Rattle.fdo_rules.specs.Moves.{Moves}
use Rattle.fdo_rules.specs.To0Client.{accept_owner_row, by_accept}
use Rattle.rules_tests.specs.Rendezvous.{bare}

abbrev pub AcceptedAtOnce : Type 0
AcceptedAtOnce = by_accept (bare 23 []) (Ok 3600) ≡ Moves.Done 3600

abbrev pub TurnStops : Type 0
TurnStops = accept_owner_row (bare 21 []) ≡ Moves.Stopped (cause.Turn 21) (Some (error_of (cause.Turn 21) 21 None))

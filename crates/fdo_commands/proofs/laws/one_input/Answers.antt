use Rattle.fdo_commands.proofs.OneInput.{no_wrong}
use Rattle.fdo_commands.proofs.laws.one_input.Goals as goal

pub returns-clause-right : goal.returns-clause-right
returns-clause-right c = no_wrong

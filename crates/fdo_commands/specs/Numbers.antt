-- The program's exit status for each way in which a command ends.
use Rattle.std.specs.Prelude.{ℕ}
use Rattle.fdo_commands.specs.declared.status.Status.{Status}
use Rattle.fdo_commands.specs.declared.status.Status.TheVariants as status

abbrev pub number_of : Status → ℕ
number_of status.Done = 0
number_of status.Words = 2
number_of status.Input = 3
number_of status.Read = 4
number_of status.Write = 5
number_of status.NoMemory = 7
number_of status.Limit = 8
number_of status.Refused = 9
number_of status.Outside = 11

-- What a message is before its body's parts are looked at.
use Rattle.std.specs.Prelude.{ℕ, List, Result, Ok, Err}
use Rattle.fdo_msgs.specs.Reading.{body_at}
use Rattle.fdo_msgs.specs.declared.cause.Cause.{Cause}
use Rattle.fdo_msgs.specs.declared.cause.Cause.TheVariants as cause
use Rattle.fdo_msgs.specs.declared.msg.Msg.{Msg}
use Rattle.fdo_msgs.specs.declared.packet.Packet.{Packet}
use Rattle.fdo_rules.specs.Checks.{◌>>=◌}
use Rattle.fdo_rules.specs.Moves.{awaited}

abbrev pub body_of : Result Msg ℕ → Result Msg Cause
body_of (Ok m) = Ok m
body_of (Err place) = Err (cause.Body place)

abbrev pub read : ℕ → List ℕ → Result Msg Cause
read kind body = body_of (body_at kind body)

abbrev pub heard : ℕ → Packet → Result Msg Cause
heard kind packet = awaited kind packet >>= λ body. read kind body

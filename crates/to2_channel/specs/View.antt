-- What a channel stands for.
use Rattle.std.specs.Prelude.{◌≡◌, List, ℕ, Result, Ok, Err}
use Rattle.fdo_msgs.specs.declared.cause.Cause.{Cause}
use Rattle.fdo_rules.specs.Channel as rules
use Rattle.fdo_rules.specs.Unfit.{HasCode}
use Rattle.fdo_rules.specs.declared.unfit.Unfit.{Unfit}
use Rattle.fdo_rules.specs.declared.unfit.Unfit.TheVariants as unfit
use Rattle.to2_channel.specs.declared.channel.Channel.{Channel}

-- the cipher, the key, the vectors of the other end that were taken, and how many own ones were used
abbrev pub channel_of : Channel → rules.Channel
channel_of c = record { cipher = c.cipher; key = c.key; taken = c.taken.items; used = c.used }

-- a call gives what a check comes to, with the channel after it, or memory runs out
abbrev pub Gives : Result (List ℕ × rules.Channel) Cause → Result (List ℕ × Channel) Unfit → Type 0
Gives told (Ok both) = told ≡ Ok (both.0, channel_of both.1)
Gives told (Err (unfit.For e)) = (told ≡ Err e) × HasCode e
Gives told (Err unfit.NoMemory) = Unit {0}

-- What a refusal by a server leaves.
use Rattle.std.specs.Prelude.{◌≡◌}
use Rattle.fdo_msgs.specs.declared.answer.Answer.{Answer}
use Rattle.fdo_msgs.specs.declared.answer.Answer.TheVariants as answers
use Rattle.fdo_msgs.specs.declared.packet.Packet.{Packet}
use Rattle.fdo_rules.specs.OwnerRows.{owner_row}
use Rattle.fdo_rules.specs.Owner.{Owner, OwnView}
use Rattle.fdo_rules.specs.Row.{Always}
use Rattle.fdo_rules.specs.Server.{dropped}
use Rattle.fdo_rules.specs.Suite.{Suite}

-- the vouchers, and all sessions but the one that the message named
abbrev pub LeavesOthers : OwnView → Packet → OwnView → Answer → Type 0
LeavesOthers o packet t (answers.Refused reply e) = (t.map ≡ o.map) × (t.sessions ≡ dropped packet.token o.sessions)
LeavesOthers o packet t (answers.Reply reply) = Unit {0}
LeavesOthers o packet t answers.Ended = (t.map ≡ o.map) × (t.sessions ≡ dropped packet.token o.sessions)

-- whatever the outside answers, a message that an owner refuses ends its session and changes nothing else
abbrev pub OwnerRefuses : Type 0
OwnerRefuses = (suite : Suite) (owner : Owner) (o : OwnView) (packet : Packet) → Always (λ r. LeavesOthers o packet r.0 r.1) (owner_row suite owner o packet)

-- Rows of a rendezvous server.
use Rattle.std.specs.Prelude.{◌≡◌, ℕ, List, [], ◌∷◌, Some, None}
use Rattle.fdo_msgs.specs.Kind as kind
use Rattle.fdo_msgs.specs.Refusal.{error_of}
use Rattle.fdo_msgs.specs.Said.{body_of}
use Rattle.fdo_msgs.specs.Token.{bearer_token}
use Rattle.fdo_msgs.specs.declared.answer.Answer.TheVariants as answers
use Rattle.fdo_msgs.specs.declared.cause.Cause.TheVariants as cause
use Rattle.fdo_msgs.specs.declared.msg.Msg.TheVariants as msg
use Rattle.fdo_msgs.specs.declared.packet.Packet.{Packet}
use Rattle.fdo_rules.specs.Rendezvous.{RvView, rendezvous_row, rv_found, hello_row}
use Rattle.fdo_rules.specs.declared.parts.HelloRv.{HelloRv}
use Rattle.fdo_rules.specs.Row.{Row, given}
use Rattle.fdo_rules.specs.Server.{reply}
use Rattle.fdo_rules.specs.Suite.{checking}
use Rattle.rules_tests.specs.Toy.{calm, toy}
use Rattle.std.specs.Prelude.{Ok}

abbrev pub empty : RvView
empty = record { entries = []; to0 = []; to1 = [] }

abbrev pub bare : ℕ → List ℕ → Packet
bare k body = record { token = None; kind = k; body = body }

-- draws 0 and 1 are the nonce and the token
abbrev pub GreetsTo0 : Type 0
GreetsTo0 =
    given calm 0 (hello_row empty (bare kind.hello (0x80 ∷ [])) (Ok tt))
    ≡ ((record { entries = []; to0 = (bearer_token (1 ∷ []), 0 ∷ []) ∷ []; to1 = [] }, reply (Some (bearer_token (1 ∷ []))) kind.hello_ack (body_of (msg.HelloAck (0 ∷ [])))), 2)

abbrev pub TurnsAway : Type 0
TurnsAway = rendezvous_row (checking toy) empty (bare 60 []) ≡ Row.Ends (empty, answers.Refused (error_of (cause.Turn 60) 60 None) (cause.Turn 60))

abbrev pub NamesNoSession : Type 0
NamesNoSession = rendezvous_row (checking toy) empty (bare 22 []) ≡ Row.Ends (empty, answers.Refused (error_of cause.Token 22 None) cause.Token)

abbrev pub EndsAtError : Type 0
EndsAtError = rendezvous_row (checking toy) empty (bare 255 []) ≡ Row.Ends (empty, answers.Ended)

abbrev pub MissesDevice : Type 0
MissesDevice =
    (asked : HelloRv) → rv_found None (checking toy) empty (bare 30 []) asked ≡ Row.Ends (empty, answers.Refused (error_of (cause.Missing asked.guid) 30 None) (cause.Missing asked.guid))

-- What all servers do with a message: tokens name sessions, and a refused message ends the one that it names.
use Rattle.std.specs.Prelude.{ℕ, List, if◌then◌else◌, is_some, Option, Some, None, Result, Ok, Err}
use Rattle.sessions.specs.Table.{session_of, without, started, used}
use Rattle.fdo_msgs.specs.Refusal.{error_of}
use Rattle.fdo_msgs.specs.Token.{bearer_token}
use Rattle.fdo_msgs.specs.declared.answer.Answer.{Answer}
use Rattle.fdo_msgs.specs.declared.answer.Answer.TheVariants as answers
use Rattle.fdo_msgs.specs.declared.cause.Cause.{Cause}
use Rattle.fdo_msgs.specs.declared.cause.Cause.TheVariants as cause
use Rattle.fdo_msgs.specs.declared.packet.Packet.{Packet}

module _ {T : Type 0} where
  -- the session that a token names
  abbrev pub named : Option (List ℕ) → List (List ℕ × T) → Option T
  named None sessions = None
  named (Some token) sessions = session_of token sessions

  -- all but it
  abbrev pub dropped : Option (List ℕ) → List (List ℕ × T) → List (List ℕ × T)
  dropped None sessions = sessions
  dropped (Some token) sessions = without token sessions

  -- it was used last
  abbrev pub touched : Option (List ℕ) → List (List ℕ × T) → List (List ℕ × T)
  touched None sessions = sessions
  touched (Some token) sessions = used token sessions

  -- an error bears the token of the refused message where that names a session
  abbrev pub error_token : Option (List ℕ) → List (List ℕ × T) → Option (List ℕ)
  error_token token sessions = if is_some (named token sessions) then token else None

  abbrev pub refusal : Packet → List (List ℕ × T) → Cause → Answer
  refusal packet sessions e = answers.Refused (error_of e packet.kind (error_token packet.token sessions)) e

  -- a session that starts under the token of a draw; one that the message names is used before
  abbrev pub begun : Packet → List ℕ → T → List (List ℕ × T) → List (List ℕ × T)
  begun packet draw session sessions = started (bearer_token draw) session (touched packet.token sessions)

-- a session that has to be there
abbrev pub of_session : {T : Type 0} → Option T → Result T Cause
of_session (Some session) = Ok session
of_session None = Err cause.Token

abbrev pub reply : Option (List ℕ) → ℕ → List ℕ → Answer
reply token kind body = answers.Reply (record { token = token; kind = kind; body = body })

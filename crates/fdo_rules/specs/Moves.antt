-- What a client's state does with a message: it goes on to the next state with a message of its own, or its session ends.
use Rattle.std.specs.Prelude.{ℕ, List, ◌==◌, if◌then◌else◌, Option, Some, None, Result, Ok, Err}
use Rattle.fdo_msgs.specs.Kind.{error}
use Rattle.fdo_msgs.specs.Refusal.{error_of}
use Rattle.fdo_msgs.specs.declared.cause.Cause.{Cause}
use Rattle.fdo_msgs.specs.declared.cause.Cause.TheVariants as cause
use Rattle.fdo_msgs.specs.declared.msg.Msg.{Msg}
use Rattle.fdo_msgs.specs.declared.packet.Packet.{Packet}
use Rattle.fdo_rules.specs.Checks.{◌>>=◌, said, peer_code}

-- a state goes on; or a last message is taken, and gives something; or it is refused, with an error for the other end unless
-- that sent one; or the disk failed, and the store has to be opened again
pub data Moves (T V : Type 0) : Type 0 where
  On : T → Packet → Moves T V
  Done : V → Moves T V
  Stopped : Cause → Option Packet → Moves T V
  Reopen : Packet → Moves T V

abbrev pub reply_to : Packet → Cause → Option Packet
reply_to packet (cause.Peer code) = None
reply_to packet (cause.Http fault) = None
reply_to packet e = Some (error_of e packet.kind packet.token)

module _ {T V : Type 0} where
  -- the error bears the token of the refused message
  abbrev pub refused : Packet → Cause → Moves T V
  refused packet e = Moves.Stopped e (reply_to packet e)

  -- a failed write is answered as such
  abbrev pub reopened : Packet → Cause → Moves T V
  reopened packet e = Moves.Reopen (error_of e packet.kind packet.token)

-- first an error of the other end, then a type that the state does not take
abbrev pub awaited : ℕ → Packet → Result (List ℕ) Cause
awaited kind packet =
    if packet.kind == error then Err (cause.Peer (peer_code packet.body))
    else if packet.kind == kind then Ok packet.body
    else Err (cause.Turn packet.kind)

-- then the body
abbrev pub said_by : {A : Type 0} → (Msg → Option A) → ℕ → Packet → Result A Cause
said_by part kind packet = awaited kind packet >>= λ body. said part kind body

-- the token of a session is the one received last
abbrev pub token_after : Option (List ℕ) → Packet → Option (List ℕ)
token_after kept packet = received kept packet.token where
  received : Option (List ℕ) → Option (List ℕ) → Option (List ℕ)
  received kept None = kept
  received kept (Some token) = Some token

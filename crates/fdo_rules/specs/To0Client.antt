-- An owner's part of TO0 (FIDO Device Onboard 1.1, section 5.3): it registers where its device finds it.
use Rattle.std.specs.Prelude.{ℕ, ℤ, List, [], Option, Some, None, Result, Ok, Err}
use Rattle.fdo_ports.specs.declared.failed.Failed.{Failed}
use Rattle.key_codec.specs.declared.key.PublicKey.{PublicKey}
use Rattle.fdo_msgs.specs.Kind as kind
use Rattle.fdo_msgs.specs.OwnerSign.{owner_sign_text, to0d_text}
use Rattle.fdo_msgs.specs.Said.{body_of}
use Rattle.fdo_msgs.specs.To1d.{redirect_text}
use Rattle.fdo_msgs.specs.declared.addr.AddrEntry.{AddrEntry}
use Rattle.fdo_msgs.specs.declared.cause.Cause.{Cause}
use Rattle.fdo_msgs.specs.declared.cause.Cause.TheVariants as cause
use Rattle.fdo_msgs.specs.declared.cause.Object.TheVariants as object
use Rattle.fdo_msgs.specs.declared.msg.Msg.TheVariants as msg
use Rattle.fdo_msgs.specs.declared.packet.Packet.{Packet}
use Rattle.fdo_rules.specs.Checks.{key_bytes, no_algorithm}
use Rattle.fdo_rules.specs.Made.{envelope, message_hash, signed_bytes, text_to_sign}
use Rattle.fdo_rules.specs.Moves.{Moves, refused, said_by}
use Rattle.fdo_rules.specs.Parts.{accept_owner, hello_ack}
use Rattle.fdo_rules.specs.Row.{Row}
use Rattle.fdo_rules.specs.Suite.{Suite}

-- the bytes of a voucher, its last owner's key, the addresses, and the seconds that are asked for
pub record To0Job : Type 0 where
  pub voucher : List ℕ
  pub key : PublicKey
  pub addrs : List AddrEntry
  pub wait : ℕ

-- TO0.OwnerSign was sent
pub record To0Signed : Type 0 where
  pub token : Option (List ℕ)

-- ---- TO0.Hello, with no token yet

abbrev pub hello_sent : Packet
hello_sent = record { token = None; kind = kind.hello; body = body_of msg.Hello }

-- ---- TO0.HelloAck

abbrev pub SignRow : Type 0
SignRow = Row (Unit {0}) (Moves To0Signed (Unit {0}))

abbrev pub to0d_of : To0Job → List ℕ → List ℕ
to0d_of job nonce = to0d_text job.voucher job.wait nonce

abbrev pub payload_of : To0Job → List ℕ → List ℕ
payload_of job nonce = redirect_text job.addrs (message_hash (to0d_of job nonce))

abbrev pub owner_signed : Packet → To0Job → List ℕ → ℤ → Result (List ℕ) Failed → SignRow
owner_signed packet job nonce alg (Ok sig) =
    Row.Ends (Moves.On (record { token = packet.token })
    (record { token = packet.token; kind = kind.owner_sign; body = owner_sign_text (to0d_of job nonce) (signed_bytes (envelope alg [] (payload_of job nonce) sig)) }))
owner_signed packet job nonce alg (Err _) = Row.Ends (refused packet (cause.Outside object.Signer))

abbrev pub with_algorithm : Packet → To0Job → List ℕ → Option ℤ → SignRow
with_algorithm packet job nonce (Some alg) = Row.Signs (key_bytes job.key) (text_to_sign alg (payload_of job nonce)) (owner_signed packet job nonce alg)
with_algorithm packet job nonce None = Row.Ends (refused packet no_algorithm)

abbrev pub by_ack : Suite → To0Job → Packet → Result (List ℕ) Cause → SignRow
by_ack suite job packet (Ok nonce) = with_algorithm packet job nonce (suite.algorithm (key_bytes job.key))
by_ack suite job packet (Err e) = Row.Ends (refused packet e)

unfoldable pub hello_ack_row : Suite → To0Job → Packet → SignRow
hello_ack_row suite job packet = by_ack suite job packet (said_by hello_ack kind.hello_ack packet)

-- ---- TO0.AcceptOwner gives the seconds

abbrev pub by_accept : Packet → Result ℕ Cause → Moves (Unit {0}) ℕ
by_accept packet (Ok seconds) = Moves.Done seconds
by_accept packet (Err e) = refused packet e

unfoldable pub accept_owner_row : Packet → Moves (Unit {0}) ℕ
accept_owner_row packet = by_accept packet (said_by accept_owner kind.accept_owner packet)

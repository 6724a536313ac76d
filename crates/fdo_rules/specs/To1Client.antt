-- A device's part of TO1 (FIDO Device Onboard 1.1, section 5.4): it asks where its owner is.
use Rattle.std.specs.Prelude.{ℕ, ℤ, List, [], Option, Some, None, Result, Ok, Err}
use Rattle.cbor_core.specs.Deterministic.{det}
use Rattle.fdo_ports.specs.declared.failed.Failed.{Failed}
use Rattle.key_codec.specs.declared.sig_info.SigInfo.{SigInfo}
use Rattle.voucher_chain.specs.declared.credential.Credential.{Credential}
use Rattle.fdo_msgs.specs.Claims.{item_of_proof}
use Rattle.fdo_msgs.specs.Kind as kind
use Rattle.fdo_msgs.specs.Said.{body_of}
use Rattle.fdo_msgs.specs.declared.cause.Cause.{Cause}
use Rattle.fdo_msgs.specs.declared.cause.Cause.TheVariants as cause
use Rattle.fdo_msgs.specs.declared.cause.Object.TheVariants as object
use Rattle.fdo_msgs.specs.declared.msg.Msg.TheVariants as msg
use Rattle.fdo_msgs.specs.declared.packet.Packet.{Packet}
use Rattle.fdo_msgs.specs.declared.to1d.To1d.{To1d}
use Rattle.fdo_rules.specs.Checks.{no_algorithm}
use Rattle.fdo_rules.specs.Made.{envelope, signed_bytes, text_to_sign}
use Rattle.fdo_rules.specs.Moves.{Moves, refused, said_by}
use Rattle.fdo_rules.specs.Parts.{hello_rv_ack, rv_redirect}
use Rattle.fdo_rules.specs.Row.{Row}
use Rattle.fdo_rules.specs.Suite.{Suite}

-- the Guid asked for, and the bytes of the device's attestation key
pub record To1Job : Type 0 where
  pub guid : List ℕ
  pub me : List ℕ

-- TO1.ProveToRV was sent
pub record To1Proved : Type 0 where
  pub token : Option (List ℕ)

-- ---- TO1.HelloRV, with no token yet

abbrev pub hello_rv_sent : To1Job → SigInfo → Packet
hello_rv_sent job sig = record { token = None; kind = kind.hello_rv; body = body_of (msg.HelloRv job.guid sig) }

-- ---- TO1.HelloRVAck

abbrev pub ProveRow : Type 0
ProveRow = Row (Option Credential) (Moves To1Proved (Unit {0}))

abbrev pub claims_of : To1Job → List ℕ → List ℕ
claims_of job nonce = det (item_of_proof nonce job.guid)

abbrev pub proved : Packet → To1Job → List ℕ → ℤ → Result (List ℕ) Failed → ProveRow
proved packet job nonce alg (Ok sig) =
    Row.Ends (Moves.On (record { token = packet.token }) (record { token = packet.token; kind = kind.prove_to_rv; body = signed_bytes (envelope alg [] (claims_of job nonce) sig) }))
proved packet job nonce alg (Err _) = Row.Ends (refused packet (cause.Outside object.Signer))

abbrev pub with_algorithm : Packet → To1Job → List ℕ → Option ℤ → ProveRow
with_algorithm packet job nonce (Some alg) = Row.Signs job.me (text_to_sign alg (claims_of job nonce)) (proved packet job nonce alg)
with_algorithm packet job nonce None = Row.Ends (refused packet no_algorithm)

abbrev pub by_ack : Suite → To1Job → Packet → Result (List ℕ) Cause → ProveRow
by_ack suite job packet (Ok nonce) = with_algorithm packet job nonce (suite.algorithm job.me)
by_ack suite job packet (Err e) = Row.Ends (refused packet e)

unfoldable pub hello_rv_ack_row : Suite → To1Job → Packet → ProveRow
hello_rv_ack_row suite job packet = by_ack suite job packet (said_by hello_rv_ack kind.hello_rv_ack packet)

-- ---- TO1.RVRedirect gives the to1d

abbrev pub by_redirect : Packet → Result To1d Cause → Moves (Unit {0}) To1d
by_redirect packet (Ok to1d) = Moves.Done to1d
by_redirect packet (Err e) = refused packet e

unfoldable pub rv_redirect_row : Packet → Moves (Unit {0}) To1d
rv_redirect_row packet = by_redirect packet (said_by rv_redirect kind.rv_redirect packet)

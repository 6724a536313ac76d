-- A device's part of device initialization (FIDO Device Onboard 1.1, section 5.2).
use Rattle.std.specs.Prelude.{ℕ, List, ◌++◌, length, nat_le, Option, Some, None, Result, Ok, Err}
use Rattle.credential_store.specs.Body.{body_of_credential}
use Rattle.fdo_ports.specs.declared.failed.Failed.{Failed}
use Rattle.voucher_chain.specs.declared.credential.Credential.{Credential}
use Rattle.voucher_chain.specs.declared.header.Header.{Header}
use Rattle.fdo_msgs.specs.Kind as kind
use Rattle.fdo_msgs.specs.Said.{body_of}
use Rattle.fdo_msgs.specs.declared.cause.Cause.{Cause}
use Rattle.fdo_msgs.specs.declared.cause.Cause.TheVariants as cause
use Rattle.fdo_msgs.specs.declared.cause.Object.TheVariants as object
use Rattle.fdo_msgs.specs.declared.mfg.MfgInfo.{MfgInfo}
use Rattle.fdo_msgs.specs.declared.msg.Msg.TheVariants as msg
use Rattle.fdo_msgs.specs.declared.packet.Packet.{Packet}
use Rattle.fdo_rules.specs.Checks.{wants}
use Rattle.fdo_rules.specs.Made.{credential_of, hmac_of}
use Rattle.fdo_rules.specs.Moves.{Moves, refused, reopened, said_by}
use Rattle.fdo_rules.specs.Parts.{set_credentials, di_done}
use Rattle.fdo_rules.specs.Row.{Row}

-- DI.SetHMAC was sent, for the credential to come
pub record HmacSent : Type 0 where
  pub next : Credential
  pub token : Option (List ℕ)

-- ---- DI.AppStart, with no token yet

abbrev pub app_start_sent : MfgInfo → Packet
app_start_sent info = record { token = None; kind = kind.app_start; body = body_of (msg.AppStart info) }

-- ---- DI.SetCredentials

abbrev pub CredentialsRow : Type 0
CredentialsRow = Row (Option Credential) (Moves HmacSent (Unit {0}))

-- a credential has at most 8,100 bytes
abbrev pub most_credential : ℕ
most_credential = 8100

abbrev pub fits_credential : Credential → Result (Unit {0}) Cause
fits_credential c = wants (nat_le (length (body_of_credential c)) most_credential) (cause.Size most_credential)

abbrev pub hmac_sent : Packet → Header → Credential → CredentialsRow
hmac_sent packet header next =
    Row.Ends (Moves.On (record { next = next; token = packet.token }) (record { token = packet.token; kind = kind.set_hmac; body = body_of (msg.SetHmac (hmac_of header next.secret)) }))

abbrev pub if_fits : Packet → Header → Credential → Result (Unit {0}) Cause → CredentialsRow
if_fits packet header next (Ok _) = hmac_sent packet header next
if_fits packet header next (Err e) = Row.Ends (refused packet e)

abbrev pub with_secret : Packet → Header → List ℕ → CredentialsRow
with_secret packet header secret = if_fits packet header (credential_of header header.key_raw secret) (fits_credential (credential_of header header.key_raw secret))

abbrev pub with_second : Packet → Header → List ℕ → Result (List ℕ) Failed → CredentialsRow
with_second packet header first (Ok second) = with_secret packet header (first ++ second)
with_second packet header first (Err _) = Row.Ends (refused packet (cause.Outside object.Random))

abbrev pub with_first : Packet → Header → Result (List ℕ) Failed → CredentialsRow
with_first packet header (Ok first) = Row.Draws (with_second packet header first)
with_first packet header (Err _) = Row.Ends (refused packet (cause.Outside object.Random))

-- the secret is two draws
abbrev pub by_header : Packet → Result Header Cause → CredentialsRow
by_header packet (Ok header) = Row.Draws (with_first packet header)
by_header packet (Err e) = Row.Ends (refused packet e)

unfoldable pub credentials_row : Packet → CredentialsRow
credentials_row packet = by_header packet (said_by set_credentials kind.set_credentials packet)

-- ---- DI.Done

abbrev pub DoneRow : Type 0
DoneRow = Row (Option Credential) (Moves (Unit {0}) Credential)

abbrev pub committed : Packet → Credential → Result (Unit {0}) Failed → DoneRow
committed packet next (Ok _) = Row.Ends (Moves.Done next)
committed packet next (Err _) = Row.Ends (reopened packet (cause.Outside object.Disk))

-- the credential to come becomes the credential
abbrev pub by_done : Packet → Credential → Result (Unit {0}) Cause → DoneRow
by_done packet next (Ok _) = Row.Stores (Some next) (committed packet next)
by_done packet next (Err e) = Row.Ends (refused packet e)

unfoldable pub done_row : HmacSent → Packet → DoneRow
done_row s packet = by_done packet s.next (said_by di_done kind.di_done packet)

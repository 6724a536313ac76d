-- A device: its credential, the to1d of its last TO1, and its one session of any protocol.
use Rattle.std.specs.Prelude.{List, Option, Some, None}
use Rattle.service_info.specs.declared.pair.Pair.{Pair}
use Rattle.voucher_chain.specs.declared.credential.Credential.{Credential}
use Rattle.fdo_msgs.specs.declared.cause.Cause.{Cause}
use Rattle.fdo_msgs.specs.declared.packet.Packet.{Packet}
use Rattle.fdo_msgs.specs.declared.to1d.To1d.{To1d}
use Rattle.fdo_rules.specs.DeviceDi.{HmacSent, credentials_row, done_row}
use Rattle.fdo_rules.specs.DeviceTo2.{DoneSent, HelloSent, Informing, Proved, Ready, Round, Walk, Walked, done2_row, ov_next_entry_row, owner_info_row, owner_ready_row, prove_ov_hdr_row, setup_device_row}
use Rattle.fdo_rules.specs.Moves.{Moves}
use Rattle.fdo_rules.specs.Row.{Row, mapped}
use Rattle.fdo_rules.specs.Suite.{Suite}
use Rattle.fdo_rules.specs.To1Client.{To1Job, To1Proved, hello_rv_ack_row, rv_redirect_row}

pub data DevSession : Type 0 where
  Starting : DevSession
  Macing : HmacSent → DevSession
  Asking : To1Job → DevSession
  Locating : To1Proved → DevSession
  Greeting : HelloSent → DevSession
  Walking : Walk → DevSession
  Proving : Proved → DevSession
  Readying : Ready → DevSession
  Exchanging : Informing → DevSession
  Finishing : DoneSent → DevSession

pub record DevView : Type 0 where
  pub cred : Option Credential
  pub to1d : Option To1d
  pub session : Option DevSession

-- what a device sends, or nothing where the session is over
pub data Told : Type 0 where
  Sends : Packet → Told
  Takes : Told
  Refuses : Cause → Option Packet → Told
  Fails : Packet → Told

abbrev pub in_session : DevView → DevSession → DevView
in_session d session = record { cred = d.cred; to1d = d.to1d; session = Some session }

abbrev pub at_rest : DevView → DevView
at_rest d = record { cred = d.cred; to1d = d.to1d; session = None }

abbrev pub with_credential : DevView → Credential → DevView
with_credential d cred = record { cred = Some cred; to1d = d.to1d; session = None }

abbrev pub with_to1d : DevView → To1d → DevView
with_to1d d to1d = record { cred = d.cred; to1d = Some to1d; session = None }

-- a move of one state as one of the device; after a failed write the credential is the one before or the one to come
abbrev pub moved : {T V : Type 0} → DevView → (T → DevSession) → (V → DevView) → Moves T V → DevView × Told
moved d on done (Moves.On state packet) = (in_session d (on state), Told.Sends packet)
moved d on done (Moves.Done value) = (done value, Told.Takes)
moved d on done (Moves.Stopped e reply) = (at_rest d, Told.Refuses e reply)
moved d on done (Moves.Reopen reply) = (at_rest d, Told.Fails reply)

-- where a row gives no last value
abbrev pub rests : DevView → Unit {0} → DevView
rests d done = at_rest d

abbrev pub walked : Walked → DevSession
walked (Walked.Asks w) = DevSession.Walking w
walked (Walked.Proves p) = DevSession.Proving p

abbrev pub round : Round → DevSession
round (Round.More i) = DevSession.Exchanging i
round (Round.Finished s) = DevSession.Finishing s

abbrev pub DevRow : Type 0
DevRow = Row (Option Credential) (DevView × Told)

-- at the last message of a session there is no further state
abbrev pub last : Unit {0} → DevSession
last state = DevSession.Starting

-- the credential to come stands from the write on, before TO2.Done is sent
abbrev pub after_round : DevView → Moves Round (Unit {0}) → DevView × Told
after_round d (Moves.On (Round.Finished s) packet) =
    (record { cred = Some s.cred; to1d = d.to1d; session = Some (DevSession.Finishing s) }, Told.Sends packet)
after_round d (Moves.On (Round.More i) packet) = (in_session d (DevSession.Exchanging i), Told.Sends packet)
after_round d (Moves.Done value) = (at_rest d, Told.Takes)
after_round d (Moves.Stopped e reply) = (at_rest d, Told.Refuses e reply)
after_round d (Moves.Reopen reply) = (at_rest d, Told.Fails reply)

-- a message at each state, with the pairs that the device's module gives at TO2.OwnerServiceInfoReady
abbrev pub by_state : DevSession → Suite → List Pair → DevView → Packet → DevRow
by_state DevSession.Starting suite pairs d packet = mapped (moved d DevSession.Macing (rests d)) (credentials_row packet)
by_state (DevSession.Macing s) suite pairs d packet = mapped (moved d last (with_credential d)) (done_row s packet)
by_state (DevSession.Asking job) suite pairs d packet = mapped (moved d DevSession.Locating (rests d)) (hello_rv_ack_row suite job packet)
by_state (DevSession.Locating s) suite pairs d packet = Row.Ends (moved d last (with_to1d d) (rv_redirect_row packet))
by_state (DevSession.Greeting s) suite pairs d packet = mapped (moved d walked (rests d)) (prove_ov_hdr_row suite s packet)
by_state (DevSession.Walking w) suite pairs d packet = mapped (moved d walked (rests d)) (ov_next_entry_row suite w packet)
by_state (DevSession.Proving p) suite pairs d packet = mapped (moved d DevSession.Readying (rests d)) (setup_device_row suite p packet)
by_state (DevSession.Readying r) suite pairs d packet = Row.Ends (moved d DevSession.Exchanging (rests d) (owner_ready_row suite pairs r packet))
by_state (DevSession.Exchanging i) suite pairs d packet = mapped (after_round d) (owner_info_row suite i packet)
by_state (DevSession.Finishing s) suite pairs d packet = Row.Ends (moved d last (with_credential d) (done2_row suite s packet))

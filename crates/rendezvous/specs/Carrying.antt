-- What a message comes to, and what the server makes of it.
use Rattle.std.specs.Prelude.{◌≡◌, ◌⊎◌, IsErr, ℕ, List, Bool, false, Some, Result, Ok, Err}
use Rattle.fdo_rules.specs.declared.rendezvous.Protocol.{Protocol}
use Rattle.fdo_rules.specs.declared.rendezvous.Protocol.TheVariants as protocol
use Rattle.fdo_rules.specs.Rendezvous.{RvRow, RvView, error_token, with_touched, without_named, registration}
use Rattle.fdo_rules.specs.Row.{Row}
use Rattle.fdo_rules.specs.Server.{dropped, reply}
use Rattle.fdo_rules.specs.Unfit.{HasCode}
use Rattle.cbor_core.specs.declared.no_memory.NoMemory.{NoMemory}
use Rattle.fdo_msgs.specs.Kind as kind
use Rattle.fdo_msgs.specs.Refusal.{error_of}
use Rattle.fdo_msgs.specs.Said.{body_of}
use Rattle.fdo_msgs.specs.Token.{bearer_token}
use Rattle.fdo_msgs.specs.declared.answer.Answer.{Answer}
use Rattle.fdo_msgs.specs.declared.answer.Answer.TheVariants as answers
use Rattle.fdo_msgs.specs.declared.cause.Cause.{Cause}
use Rattle.fdo_msgs.specs.declared.msg.Msg.TheVariants as msg
use Rattle.fdo_msgs.specs.declared.packet.Packet.{Packet}
use Rattle.registry.specs.Entries.{is_full, registered}
use Rattle.registry.specs.declared.registry.Registration.{Registration}
use Rattle.fdo_rules.specs.declared.rendezvous.Owned.{Owned}
use Rattle.sessions.specs.Table.{started}
use Rattle.rendezvous.specs.RvState.{RvComes, RvLeaves, RvOutside, placed}
use Rattle.rendezvous.specs.declared.server.Server.{Server}
use Rattle.rendezvous.specs.declared.verdict.Verdict.{Verdict}
use Rattle.rendezvous.specs.declared.verdict.Verdict.TheVariants as verdict

-- what a server keeps
abbrev pub rv_view : Server → RvView
rv_view server = record { entries = server.registry; to0 = server.to0; to1 = server.to1 }

abbrev pub refused : Protocol → RvView → Packet → Cause → RvView × Answer
refused own s packet e = (without_named own s packet.token, answers.Refused (error_of e packet.kind (error_token s packet.token)) e)

abbrev pub begun_to0 : RvView → List ℕ → List ℕ → RvView × Answer
begun_to0 s nonce token =
    (record { entries = s.entries; to0 = started (bearer_token token) nonce s.to0; to1 = s.to1 }, reply (Some (bearer_token token)) kind.hello_ack (body_of (msg.HelloAck nonce)))

-- the view and the answer that a verdict makes of a view
abbrev pub carried : RvView → Packet → Verdict → RvView × Answer
carried s packet verdict.PeerError = (without_named protocol.To0 s packet.token, answers.Ended)
carried s packet (verdict.Refuses own e) = refused own s packet e
carried s packet (verdict.BeginsTo0 nonce token) = begun_to0 (with_touched protocol.To0 s packet.token) nonce token
carried s packet (verdict.BeginsTo1 asked leaf nonce token) = begun_to1 (with_touched protocol.To1 s packet.token) where
  begun_to1 : RvView → RvView × Answer
  begun_to1 s = (
    record { entries = s.entries; to0 = s.to0; to1 = started (bearer_token token) (record { nonce = nonce; guid = asked.guid; leaf = leaf }) s.to1 },
    reply (Some (bearer_token token)) kind.hello_rv_ack (body_of (msg.HelloRvAck nonce asked.sig)),
  )
carried s packet (verdict.Registers r now seconds) = (
  record { entries = registered now r.sign.voucher.header.guid (registration r now seconds) s.entries; to0 = dropped packet.token s.to0; to1 = s.to1 },
  reply packet.token kind.accept_owner (body_of (msg.AcceptOwner seconds)),
)
carried s packet (verdict.Redirects to1d) = (record { entries = s.entries; to0 = s.to0; to1 = dropped packet.token s.to1 }, reply packet.token kind.rv_redirect (body_of (msg.RvRedirect to1d)))

-- a row comes to what a verdict makes
abbrev pub Comes : RvRow → RvView → Packet → RvOutside → Verdict → RvOutside → Type 0
Comes row s packet before found after = RvComes row before (carried s packet found) after

-- it is at its end
abbrev pub Ends : RvRow → RvView → Packet → Verdict → Type 0
Ends row s packet found = row ≡ Row.Ends (carried s packet found)

-- or memory runs out on its way
abbrev pub Judges : RvRow → RvView → Packet → RvOutside → Result Verdict NoMemory → RvOutside → Type 0
Judges row s packet before (Ok found) after = Comes row s packet before found after
Judges row s packet before (Err _) after = RvLeaves row before after

-- an error message is sent for its cause, and a registration has a place
abbrev pub Answerable : RvView → Verdict → Type 0
Answerable s (verdict.Refuses own e) = HasCode e
Answerable s (verdict.Registers r now seconds) = is_full now r.sign.voucher.header.guid s.entries ≡ false
Answerable s v = Unit {0}

-- of which protocol it is
abbrev pub protocol_of : Verdict → Protocol
protocol_of verdict.PeerError = protocol.To0
protocol_of (verdict.Refuses own e) = own
protocol_of (verdict.BeginsTo0 nonce token) = protocol.To0
protocol_of (verdict.BeginsTo1 asked leaf nonce token) = protocol.To1
protocol_of (verdict.Registers r now seconds) = protocol.To0
protocol_of (verdict.Redirects to1d) = protocol.To1

abbrev pub Fits : Protocol → RvView → Verdict → Type 0
Fits own s v = (protocol_of v ≡ own) × Answerable s v

-- memory runs out while a verdict is carried out: nothing changed, or the session that is named was used, or places were left
abbrev pub Left : Protocol → RvView → Packet → RvView → Type 0
Left own s packet t = (t ≡ s) ⊎ ((t ≡ with_touched own s packet.token) ⊎ ((now : ℕ) × (guid : List ℕ) × (t ≡ placed now guid s)))

-- a verdict is carried out, or memory runs out
abbrev pub Carries : RvView → Packet → Verdict → Result Answer NoMemory → RvView → Type 0
Carries s packet v (Ok answer) t = (t, answer) ≡ carried s packet v
Carries s packet v (Err _) t = Left (protocol_of v) s packet t

abbrev pub CarriesJudged : RvView → Packet → Result Verdict NoMemory → Result Answer NoMemory → RvView → Type 0
CarriesJudged s packet (Ok v) result t = Carries s packet v result t
CarriesJudged s packet (Err _) result t = IsErr result × (t ≡ s)

-- a registration is kept, and its session ends; or memory runs out, and registrations that have ended may have left their
-- places
abbrev pub Keeps : RvView → Packet → ℕ → List ℕ → Registration Owned → Answer → Result Answer NoMemory → RvView → Type 0
Keeps s packet now guid registration answer (Ok given) t =
    (given ≡ answer) × (t ≡ record { entries = registered now guid registration s.entries; to0 = dropped packet.token s.to0; to1 = s.to1 })
Keeps s packet now guid registration answer (Err _) t = t ≡ placed now guid s

-- An owner's answer to any message (FIDO Device Onboard 1.1, section 5.5).
use Rattle.std.specs.Prelude.{ℕ, ◌==◌, Bool, ◌||◌, if◌then◌else◌, Option, Some, None}
use Rattle.fdo_msgs.specs.Kind as kind
use Rattle.fdo_msgs.specs.declared.answer.Answer.TheVariants as answers
use Rattle.fdo_msgs.specs.declared.cause.Cause.TheVariants as cause
use Rattle.fdo_msgs.specs.declared.packet.Packet.{Packet}
use Rattle.fdo_rules.specs.Owner.{Owner, OwnSession, OwnView, OwnRow, Phase, refuses, with_sessions}
use Rattle.fdo_rules.specs.OwnerHello.{entry_checks, entry_row, hello_checks, hello_row, proof_checks, proof_row}
use Rattle.fdo_rules.specs.OwnerInfo.{done_checks, done_row, info_checks, info_row, ready_checks, ready_row}
use Rattle.fdo_rules.specs.Row.{Row}
use Rattle.fdo_rules.specs.Server.{dropped, named}
use Rattle.fdo_rules.specs.Suite.{Suite}

abbrev pub turned_away : OwnView → Packet → OwnRow
turned_away o packet = refuses o packet (cause.Turn packet.kind)

-- the types that a phase takes
abbrev pub by_phase : Phase → Suite → Owner → OwnView → OwnSession → Packet → OwnRow
by_phase Phase.Proving suite owner o s packet =
    if packet.kind == kind.get_ov_next_entry then entry_row o packet s (entry_checks s packet)
    else if packet.kind == kind.prove_device then proof_row suite owner o packet s (proof_checks suite owner o s packet)
    else turned_away o packet
by_phase (Phase.Setting setup) suite owner o s packet =
    if packet.kind == kind.device_ready then ready_row owner o packet s (ready_checks suite owner o s setup packet) else turned_away o packet
by_phase (Phase.Informing setup talk) suite owner o s packet =
    if packet.kind == kind.device_info then info_row o packet s (info_checks suite s setup talk packet) else turned_away o packet
by_phase (Phase.Finishing setup) suite owner o s packet =
    if packet.kind == kind.done then done_row o packet (done_checks suite o s setup packet) else turned_away o packet

abbrev pub by_session : Option OwnSession → Suite → Owner → OwnView → Packet → OwnRow
by_session (Some s) suite owner o packet = by_phase s.phase suite owner o s packet
by_session None suite owner o packet = refuses o packet cause.Token

-- the types that name a session
abbrev pub is_in_session : ℕ → Bool
is_in_session k =
    k == kind.get_ov_next_entry || (k == kind.prove_device || (k == kind.device_ready || (k == kind.device_info || k == kind.done)))

-- an error of the other end ends the session that it names
abbrev pub ended : OwnView → Packet → OwnRow
ended o packet = Row.Ends (with_sessions o (dropped packet.token o.sessions), answers.Ended)

unfoldable pub owner_row : Suite → Owner → OwnView → Packet → OwnRow
owner_row suite owner o packet =
    if packet.kind == kind.error then ended o packet
    else if packet.kind == kind.hello_device then hello_row suite owner o packet (hello_checks suite owner o packet)
    else if is_in_session packet.kind then by_session (named packet.token o.sessions) suite owner o packet
    else turned_away o packet

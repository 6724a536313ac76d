-- An owner from the device's readiness to the end (FIDO Device Onboard 1.1, sections 5.5.8 to 5.5.13).
use Rattle.std.specs.Prelude.{ℕ, ◌+◌, List, [], ◌++◌, length, Bool, true, false, ◌&&◌, not, nat_lt, if◌then◌else◌, Option, Some, None, option_map, is_some, is_none, Result, Ok, Err, ok_or}
use Rattle.std.specs.Str.{bytes_eq}
use Rattle.fdo_ports.specs.declared.failed.Failed.{Failed}
use Rattle.hash_hmac.specs.declared.hash.Hash.{Hash}
use Rattle.service_info.specs.Size.{size_stated}
use Rattle.service_info.specs.declared.pair.Pair.{Pair}
use Rattle.service_info.specs.declared.info_fault.InfoFault.{InfoFault}
use Rattle.voucher_chain.specs.Fault.{or_else}
use Rattle.voucher_chain.specs.Voucher.{is_mac}
use Rattle.voucher_chain.specs.declared.voucher.Voucher.{Voucher}
use Rattle.voucher_map.specs.Map.{fits, guid_of, held_of, is_kept, promoted, same_guid, with_candidate}
use Rattle.voucher_map.specs.declared.kept.Kept.{Kept}
use Rattle.voucher_map.specs.declared.seen.Seen.{Seen}
use Rattle.fdo_msgs.specs.Kind as kind
use Rattle.fdo_msgs.specs.Said.{body_of}
use Rattle.fdo_msgs.specs.declared.cause.Cause.{Cause}
use Rattle.fdo_msgs.specs.declared.cause.Cause.TheVariants as cause
use Rattle.fdo_msgs.specs.declared.cause.Object.TheVariants as object
use Rattle.fdo_msgs.specs.declared.msg.Msg.TheVariants as msg
use Rattle.fdo_msgs.specs.declared.packet.Packet.{Packet}
use Rattle.fdo_rules.specs.Channel.{Channel, Side, sealed_within, unsealed}
use Rattle.fdo_rules.specs.Checks.{◌>>=◌, wants}
use Rattle.fdo_rules.specs.Owner.{Owner, OwnSession, OwnView, OwnRow, Phase, Setup, Talk, answered, in_phase, refuses, replacement, shut_down, with_map, with_sessions}
use Rattle.fdo_rules.specs.Parts.{DeviceInfo, device_ready, device_info, done}
use Rattle.fdo_rules.specs.Row.{Row}
use Rattle.fdo_rules.specs.Server.{dropped, reply}
use Rattle.fdo_rules.specs.Suite.{Suite}
use Rattle.fdo_rules.specs.Turns.{cut, is_empty, device_fault, first_fault, info_check, most_rounds}

abbrev pub in_channel : Setup → Channel → Setup
in_channel u c = record { setup_dv = u.setup_dv; xb = u.xb; guid = u.guid; rv = u.rv; reuse = u.reuse; channel = c }

abbrev pub sealed_for : Suite → OwnSession → Channel → List ℕ → Result (List ℕ × Channel) Cause
sealed_for suite s c plain = sealed_within suite c Side.Owner s.hello.max_size plain

-- ---- what stands under the Guid that the session saw

-- the base that is there, with its candidate
abbrev pub base_there : OwnView → Seen → Result (Voucher × Option Voucher) Cause
base_there o seen = ok_or (held_of seen.base o.map) (cause.Missing seen.base)

-- the candidate is this one, or there is none where none was
abbrev pub candidate_is : Option (List ℕ) → Voucher × Option Voucher → Result (Unit {0}) Cause
candidate_is guid held = wants (same_guid guid (option_map guid_of held.1)) (cause.Changed (option_map guid_of held.1))

-- ---- TO2.DeviceServiceInfoReady

-- the HMAC is null where the credential was asked to stay, and there where it was not
abbrev pub is_asked : Bool → Option Hash → Bool
is_asked true hmac = is_none hmac
is_asked false hmac = is_some hmac

abbrev pub mac_check : Option Hash → Result (Unit {0}) Cause
mac_check None = Ok tt
mac_check (Some hmac) = wants (is_mac hmac.kind) (cause.NoAlgorithm hmac.kind)

abbrev pub new_voucher : Owner → OwnSession → Setup → Option Hash → Option Voucher
new_voucher owner s u hmac = option_map (replacement owner s u) hmac

-- what is made and written: the session's setup with the reply sealed, the reply, and the map where it changes
pub record Readied : Type 0 where
  pub setup : Setup
  pub body : List ℕ
  pub size : Option ℕ
  pub change : Option (List Kept)

-- a Guid that is kept comes before the bytes of the reply, and those before the room for a candidate
abbrev pub clash_check : OwnView → Option Voucher → Result (Unit {0}) Cause
clash_check o None = Ok tt
clash_check o (Some v) = wants (not (is_kept (guid_of v) o.map)) (cause.Clash (guid_of v))

abbrev pub room_check : OwnView → Seen → Voucher → Option Voucher → Result (Option (List Kept)) Cause
room_check o seen base None = Ok None
room_check o seen base (Some v) =
    wants (fits o.limit (with_candidate seen.base base v o.map)) (cause.Full (length o.map)) >>= λ _. Ok (Some (with_candidate seen.base base v o.map))

unfoldable pub ready_checks : Suite → Owner → OwnView → OwnSession → Setup → Packet → Result Readied Cause
ready_checks suite owner o s u packet =
    unsealed device_ready suite u.channel kind.device_ready packet.body
    >>= λ both. wants (is_asked u.reuse both.0.hmac) cause.HashDiffers
    >>= λ _. mac_check both.0.hmac
    >>= λ _. wants (not o.shut) (cause.Outside object.Shut)
    >>= λ _. base_there o s.seen
    >>= λ held. candidate_is s.seen.candidate held
    >>= λ _. clash_check o (new_voucher owner s u both.0.hmac)
    >>= λ _. sealed_for suite s both.1 (body_of (msg.OwnerReady owner.offer.info_size))
    >>= λ made. room_check o s.seen held.0 (new_voucher owner s u both.0.hmac)
    >>= λ change. Ok (record { setup = in_channel u made.1; body = made.0; size = both.0.size; change = change })

abbrev pub first_talk : Owner → Option ℕ → Talk
first_talk owner size = record { size = size_stated size; said = []; heard = false; left = owner.offer.pairs; mine_open = false; rounds = 0 }

abbrev pub readied : Owner → OwnView → Packet → OwnSession → Readied → OwnRow
readied owner o packet s r = answered o packet (in_phase s (Phase.Informing r.setup (first_talk owner r.size))) kind.owner_ready r.body

-- TO2.OwnerServiceInfoReady is sent with the candidate kept alone
abbrev pub stored_or_shut : Owner → OwnView → Packet → OwnSession → Readied → List Kept → Result (Unit {0}) Failed → OwnRow
stored_or_shut owner o packet s r map (Ok _) = readied owner (with_map o map) packet s r
stored_or_shut owner o packet s r map (Err _) = refuses (shut_down o) packet (cause.Outside object.Disk)

abbrev pub by_change : Option (List Kept) → Owner → OwnView → Packet → OwnSession → Readied → OwnRow
by_change (Some map) owner o packet s r = Row.Stores map (stored_or_shut owner o packet s r map)
by_change None owner o packet s r = readied owner o packet s r

abbrev pub ready_row : Owner → OwnView → Packet → OwnSession → Result Readied Cause → OwnRow
ready_row owner o packet s (Ok r) = by_change r.change owner o packet s r
ready_row owner o packet s (Err e) = refuses o packet e

-- ---- TO2.DeviceServiceInfo

-- the device's devmod and the owner's own pairs are looked at once, when the device first says no more
abbrev pub hearing_fault : Talk → DeviceInfo → Option InfoFault
hearing_fault t info = if not info.more && not t.heard then first_fault t.size (t.said ++ info.pairs) t.left else None

abbrev pub info_fault : Talk → DeviceInfo → Option InfoFault
info_fault t info = or_else (device_fault t.mine_open info.more info.pairs) (hearing_fault t info)

-- while the device says more nothing goes, and else the next list, which is the last one where nothing is left
abbrev pub lists_for : Talk → DeviceInfo → List Pair × List Pair
lists_for t info = if info.more then ([], t.left) else cut t.size t.left

abbrev pub says_more : DeviceInfo → List Pair × List Pair → Bool
says_more info lists = not info.more && not (is_empty lists.1)

abbrev pub says_done : DeviceInfo → List Pair × List Pair → Bool
says_done info lists = not info.more && is_empty lists.1

abbrev pub info_plain : DeviceInfo → List Pair × List Pair → List ℕ
info_plain info lists = body_of (msg.OwnerInfo (says_more info lists) (says_done info lists) lists.0)

abbrev pub talk_after : Talk → DeviceInfo → List Pair × List Pair → Talk
talk_after t info lists =
    record { size = t.size; said = t.said ++ info.pairs; heard = if info.more then t.heard else true; left = lists.1; mine_open = says_more info lists; rounds = t.rounds + 1 }

abbrev pub phase_after : Bool → Setup → Talk → Phase
phase_after true u t = Phase.Finishing u
phase_after false u t = Phase.Informing u t

pub record Informed : Type 0 where
  pub phase : Phase
  pub body : List ℕ
  -- the pairs that are taken, which the owner's module sees
  pub taken : List Pair

unfoldable pub info_checks : Suite → OwnSession → Setup → Talk → Packet → Result Informed Cause
info_checks suite s u t packet =
    unsealed device_info suite u.channel kind.device_info packet.body
    >>= λ both. info_check (info_fault t both.0)
    >>= λ _. wants (nat_lt t.rounds most_rounds) (cause.Size most_rounds)
    >>= λ _. sealed_for suite s both.1 (info_plain both.0 (lists_for t both.0))
    >>= λ made. Ok (record {
      phase = phase_after (says_done both.0 (lists_for t both.0)) (in_channel u made.1) (talk_after t both.0 (lists_for t both.0));
      body = made.0;
      taken = both.0.pairs;
    })

abbrev pub info_row : OwnView → Packet → OwnSession → Result Informed Cause → OwnRow
info_row o packet s (Ok r) = answered o packet (in_phase s r.phase) kind.owner_info r.body
info_row o packet s (Err e) = refuses o packet e

-- ---- TO2.Done

-- the candidate that has to be there: the session's own, or where the credential stays the one that was seen
abbrev pub candidate_wanted : OwnSession → Setup → Option (List ℕ)
candidate_wanted s u = if u.reuse then s.seen.candidate else Some u.guid

-- a candidate becomes the base, but where the credential stays
abbrev pub done_change : Bool → OwnView → Seen → Option (List Kept)
done_change true o seen = None
done_change false o seen = Some (promoted seen.base o.map)

pub record Finished : Type 0 where
  pub body : List ℕ
  pub change : Option (List Kept)

unfoldable pub done_checks : Suite → OwnView → OwnSession → Setup → Packet → Result Finished Cause
done_checks suite o s u packet =
    unsealed done suite u.channel kind.done packet.body
    >>= λ both. wants (bytes_eq both.0 s.prove_dv) cause.Nonce
    >>= λ _. wants (not o.shut) (cause.Outside object.Shut)
    >>= λ _. base_there o s.seen
    >>= λ held. candidate_is (candidate_wanted s u) held
    >>= λ _. sealed_for suite s both.1 (body_of (msg.Done2 u.setup_dv))
    >>= λ made. Ok (record { body = made.0; change = done_change u.reuse o s.seen })

-- the session ends with TO2.Done2
abbrev pub finished : OwnView → Packet → List ℕ → OwnRow
finished o packet body = Row.Ends (with_sessions o (dropped packet.token o.sessions), reply packet.token kind.done2 body)

-- which is sent with the candidate as base alone
abbrev pub promoted_or_shut : OwnView → Packet → List ℕ → List Kept → Result (Unit {0}) Failed → OwnRow
promoted_or_shut o packet body map (Ok _) = finished (with_map o map) packet body
promoted_or_shut o packet body map (Err _) = refuses (shut_down o) packet (cause.Outside object.Disk)

abbrev pub done_with : Option (List Kept) → OwnView → Packet → List ℕ → OwnRow
done_with (Some map) o packet body = Row.Stores map (promoted_or_shut o packet body map)
done_with None o packet body = finished o packet body

abbrev pub done_row : OwnView → Packet → Result Finished Cause → OwnRow
done_row o packet (Ok f) = done_with f.change o packet f.body
done_row o packet (Err e) = refuses o packet e

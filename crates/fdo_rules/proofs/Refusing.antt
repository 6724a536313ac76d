-- A refusal by an owner, row by row.
use Rattle.std.proofs.Common.{refl, ℕ, ℤ, List, ◌==◌, Bool, true, false, if◌then◌else◌, Option, Some, None, Result, Ok, Err}
use Rattle.fdo_ports.specs.declared.failed.Failed.{Failed}
use Rattle.voucher_chain.specs.declared.rv_info.RvInstr.{RvInstr}
use Rattle.voucher_chain.specs.declared.voucher.Voucher.{Voucher}
use Rattle.voucher_map.specs.declared.kept.Kept.{Kept}
use Rattle.fdo_msgs.specs.Kind as kind
use Rattle.fdo_msgs.specs.declared.cause.Cause.{Cause}
use Rattle.fdo_msgs.specs.declared.packet.Packet.{Packet}
use Rattle.fdo_rules.specs.Channel.{Channel}
use Rattle.fdo_rules.specs.Checks.{key_bytes, fits_peer}
use Rattle.fdo_rules.specs.OwnerHello as hello
use Rattle.fdo_rules.specs.OwnerHello.{Picked, Shown, entry_checks, hello_checks, proof_checks}
use Rattle.fdo_rules.specs.OwnerInfo as info
use Rattle.fdo_rules.specs.OwnerInfo.{Finished, Informed, Readied, done_checks, info_checks, ready_checks}
use Rattle.fdo_rules.specs.OwnerRows as rows
use Rattle.fdo_rules.specs.OwnerRows.{owner_row}
use Rattle.fdo_rules.specs.Owner.{Owner, OwnRow, OwnSession, OwnView, Phase, Setup}
use Rattle.fdo_rules.specs.Refusing.{LeavesOthers}
use Rattle.fdo_rules.specs.Row.{Always}
use Rattle.fdo_rules.specs.Server.{named}
use Rattle.fdo_rules.specs.Suite.{Suite}

module _ (suite : Suite) (owner : Owner) (o : OwnView) (packet : Packet) where
  abbrev Holds : OwnRow → Type 0
  Holds row = Always (λ r. LeavesOthers o packet r.0 r.1) row

  either : (b : Bool) (x y : OwnRow) → Holds x → Holds y → Holds (if b then x else y)
  either true x y hx hy = hx
  either false x y hx hy = hy

  -- ---- TO2.HelloDevice

  begun : (token : List ℕ) (session : OwnSession) (body : List ℕ) (r : Result (Unit {0}) Cause) → Holds (hello.begins o packet token session body r)
  begun token session body (Ok _) = tt
  begun token session body (Err e) = (refl, refl)

  shown : (p : Picked) (nonce token : List ℕ) (h : List ℕ × List ℕ) (r : Result (List ℕ) Failed) → Holds (hello.with_shown owner o packet p nonce token h r)
  shown p nonce token h (Ok sig) = begun token (hello.session_for p nonce h) (hello.shown_body owner packet p nonce h.0 sig) (fits_peer p.hello.max_size (hello.shown_body owner packet p nonce h.0 sig))
  shown p nonce token h (Err _) = (refl, refl)

  xa2 : (p : Picked) (nonce token first : List ℕ) (r : Result (List ℕ) Failed) → Holds (hello.with_xa2 suite owner o packet p nonce token first r)
  xa2 p nonce token first (Ok second) = λ r. shown p nonce token _ r
  xa2 p nonce token first (Err _) = (refl, refl)

  xa1 : (p : Picked) (nonce token : List ℕ) (r : Result (List ℕ) Failed) → Holds (hello.with_xa1 suite owner o packet p nonce token r)
  xa1 p nonce token (Ok first) = xa2 p nonce token first
  xa1 p nonce token (Err _) = (refl, refl)

  token_drawn : (p : Picked) (nonce : List ℕ) (r : Result (List ℕ) Failed) → Holds (hello.with_token suite owner o packet p nonce r)
  token_drawn p nonce (Ok token) = xa1 p nonce token
  token_drawn p nonce (Err _) = (refl, refl)

  nonce_drawn : (p : Picked) (r : Result (List ℕ) Failed) → Holds (hello.with_nonce suite owner o packet p r)
  nonce_drawn p (Ok nonce) = token_drawn p nonce
  nonce_drawn p (Err _) = (refl, refl)

  hellos : (r : Result Picked Cause) → Holds (hello.hello_row suite owner o packet r)
  hellos (Ok p) = nonce_drawn p
  hellos (Err e) = (refl, refl)

  -- ---- TO2.GetOVNextEntry

  entries : (s : OwnSession) (r : Result (List ℕ) Cause) → Holds (hello.entry_row o packet s r)
  entries s (Ok body) = tt
  entries s (Err e) = (refl, refl)

  -- ---- TO2.ProveDevice

  promoted : (s : OwnSession) (u : Setup) (body : List ℕ) (map : List Kept) (r : Result (Unit {0}) Failed) → Holds (hello.promoted_or_shut o packet s u body map r)
  promoted s u body map (Ok _) = tt
  promoted s u body map (Err _) = (refl, refl)

  changes : (change : Option (List Kept)) (s : OwnSession) (u : Setup) (body : List ℕ) → Holds (hello.by_change change o packet s u body)
  changes (Some map) s u body = promoted s u body map
  changes None s u body = tt

  sealed : (s : OwnSession) (p : Shown) (guid : List ℕ) (rv : List (List RvInstr)) (reuse : Bool) (r : Result (List ℕ × Channel) Cause) → Holds (hello.with_sealed o packet s p guid rv reuse r)
  sealed s p guid rv reuse (Ok made) = changes p.change s (hello.setup_for s p guid rv reuse made.1) made.0
  sealed s p guid rv reuse (Err e) = (refl, refl)

  signed : (s : OwnSession) (p : Shown) (guid : List ℕ) (rv : List (List RvInstr)) (reuse : Bool) (alg : ℤ) (r : Result (List ℕ) Failed) → Holds (hello.with_signed suite owner o packet s p guid rv reuse alg r)
  signed s p guid rv reuse alg (Ok sig) = sealed s p guid rv reuse _
  signed s p guid rv reuse alg (Err _) = (refl, refl)

  signs : (s : OwnSession) (p : Shown) (guid : List ℕ) (rv : List (List RvInstr)) (reuse : Bool) (alg : Option ℤ) → Holds (hello.signs suite owner o packet s p guid rv reuse alg)
  signs s p guid rv reuse (Some alg) = signed s p guid rv reuse alg
  signs s p guid rv reuse None = (refl, refl)

  guid_drawn : (s : OwnSession) (p : Shown) (r : Result (List ℕ) Failed) → Holds (hello.with_guid suite owner o packet s p r)
  guid_drawn s p (Ok guid) = signs s p guid owner.rv false (suite.algorithm (key_bytes owner.key))
  guid_drawn s p (Err _) = (refl, refl)

  keeping : (keep : Option Voucher) (s : OwnSession) (p : Shown) → Holds (hello.by_keep keep suite owner o packet s p)
  keeping (Some base) s p = signs s p base.header.guid base.header.rv true (suite.algorithm (key_bytes owner.key))
  keeping None s p = guid_drawn s p

  proofs : (s : OwnSession) (r : Result Shown Cause) → Holds (hello.proof_row suite owner o packet s r)
  proofs s (Ok p) = keeping p.keep s p
  proofs s (Err e) = (refl, refl)

  -- ---- TO2.DeviceServiceInfoReady

  stored : (s : OwnSession) (r : Readied) (map : List Kept) (done : Result (Unit {0}) Failed) → Holds (info.stored_or_shut owner o packet s r map done)
  stored s r map (Ok _) = tt
  stored s r map (Err _) = (refl, refl)

  readied : (change : Option (List Kept)) (s : OwnSession) (r : Readied) → Holds (info.by_change change owner o packet s r)
  readied (Some map) s r = stored s r map
  readied None s r = tt

  readies : (s : OwnSession) (r : Result Readied Cause) → Holds (info.ready_row owner o packet s r)
  readies s (Ok r) = readied r.change s r
  readies s (Err e) = (refl, refl)

  -- ---- TO2.DeviceServiceInfo and TO2.Done

  informs : (s : OwnSession) (r : Result Informed Cause) → Holds (info.info_row o packet s r)
  informs s (Ok i) = tt
  informs s (Err e) = (refl, refl)

  based : (body : List ℕ) (map : List Kept) (r : Result (Unit {0}) Failed) → Holds (info.promoted_or_shut o packet body map r)
  based body map (Ok _) = tt
  based body map (Err _) = (refl, refl)

  finishing : (change : Option (List Kept)) (body : List ℕ) → Holds (info.done_with change o packet body)
  finishing (Some map) body = based body map
  finishing None body = tt

  finishes : (r : Result Finished Cause) → Holds (info.done_row o packet r)
  finishes (Ok f) = finishing f.change f.body
  finishes (Err e) = (refl, refl)

  -- ---- all

  away : Holds (rows.turned_away o packet)
  away = (refl, refl)

  phases : (phase : Phase) (s : OwnSession) → Holds (rows.by_phase phase suite owner o s packet)
  phases Phase.Proving s =
      either (packet.kind == kind.get_ov_next_entry) _ _ (entries s (entry_checks s packet))
      (either (packet.kind == kind.prove_device) _ _ (proofs s (proof_checks suite owner o s packet)) away)
  phases (Phase.Setting setup) s = either (packet.kind == kind.device_ready) _ _ (readies s (ready_checks suite owner o s setup packet)) away
  phases (Phase.Informing setup talk) s = either (packet.kind == kind.device_info) _ _ (informs s (info_checks suite s setup talk packet)) away
  phases (Phase.Finishing setup) s = either (packet.kind == kind.done) _ _ (finishes (done_checks suite o s setup packet)) away

  in_session : (found : Option OwnSession) → Holds (rows.by_session found suite owner o packet)
  in_session (Some s) = phases s.phase s
  in_session None = (refl, refl)

  pub refuses : Holds (owner_row suite owner o packet)
  unfolding owner_row
  refuses =
      either (packet.kind == kind.error) _ _ (refl, refl)
      (either (packet.kind == kind.hello_device) _ _ (hellos (hello_checks suite owner o packet))
      (either (rows.is_in_session packet.kind) _ _ (in_session (named packet.token o.sessions)) away))

-- Which object of the environment an answer of the rendezvous server blames.
use Rattle.std.proofs.Common.{◌≡◌, refl, ℕ, ◌+◌, ℤ, List, [], ◌∷◌, ◌==◌, Bool, true, false, Option, Some, None, Result, Ok, Err}
use Rattle.std.specs.Prelude.{if◌then◌else◌, is_some, ok_or, option_and_then, option_map, nat_le, length}
use Rattle.std.specs.Str.{bytes_eq}
use Rattle.fdo_ports.specs.declared.failed.Failed.{Failed}
use Rattle.registry.specs.Entries.{found, is_full}
use Rattle.voucher_chain.specs.Chain.{first_break, last_key, signature_told}
use Rattle.voucher_chain.specs.declared.fault.ChainFault.{ChainFault}
use Rattle.cose_envelopes.specs.declared.sign1.Sign1.{Sign1}
use Rattle.cose_envelopes.specs.Text.{sign1_structure}
use Rattle.fdo_msgs.specs.Kind as kind
use Rattle.fdo_msgs.specs.Reading.{body_at}
use Rattle.fdo_msgs.specs.Refusal.{error_of}
use Rattle.fdo_msgs.specs.declared.addr.AddrEntry.{AddrEntry}
use Rattle.fdo_msgs.specs.declared.answer.Answer.TheVariants as answers
use Rattle.fdo_msgs.specs.declared.cause.Cause.{Cause}
use Rattle.fdo_msgs.specs.declared.cause.Cause.TheVariants as cause
use Rattle.fdo_msgs.specs.declared.cause.Object.{Object}
use Rattle.fdo_msgs.specs.declared.cause.Object.TheVariants as object
use Rattle.fdo_msgs.specs.declared.msg.Msg.{Msg}
use Rattle.fdo_msgs.specs.declared.packet.Packet.{Packet}
use Rattle.fdo_rules.specs.Checks.{◌>>=◌, by_told, is_hash_of, no_algorithm, said, said_in, verified, verified_by, wants}
use Rattle.fdo_rules.specs.DeviceTo2.{chain_check}
use Rattle.fdo_rules.specs.OwnerHello.{first_certificate}
use Rattle.fdo_rules.specs.Parts.{hello, hello_rv, owner_sign, prove_to_rv}
use Rattle.fdo_rules.specs.Rendezvous.{RvRow, RvView, asked_checks, error_token, fits_registry, hello_row, hello_rv_row, if_place, is_place, kept_checks, key_checked, leaf_fits, leaf_of, misplaced, proof_checks, proof_row, redirects, refuses, rendezvous_row, rv_found, rv_signs, said_checks, sign_checks, sign_row}
use Rattle.fdo_rules.specs.Row.{Row}
use Rattle.fdo_rules.specs.Server.{named, of_session}
use Rattle.fdo_rules.specs.Suite.{Checking}
use Rattle.fdo_rules.specs.declared.parts.HelloRv.{HelloRv}
use Rattle.fdo_rules.specs.declared.parts.OwnerSign.{OwnerSign}
use Rattle.fdo_rules.specs.declared.parts.Proof.{Proof}
use Rattle.fdo_rules.specs.declared.rendezvous.Asked.{Asked}
use Rattle.fdo_rules.specs.declared.rendezvous.Owned.{Owned}
use Rattle.fdo_rules.specs.declared.rendezvous.Protocol.TheVariants as protocol
use Rattle.fdo_rules.specs.declared.rendezvous.Registering.{Registering}
use Rattle.fdo_commands.specs.Answering.{blamed}

-- ---- rows

-- it ends with an answer that blames an object
abbrev pub Ended : Object → RvRow → Type 0
Ended o (Row.Ends r) = blamed r.1 ≡ Some o
Ended o (Row.Draws next) = ⊥
Ended o (Row.Reads next) = ⊥
Ended o (Row.Signs key text next) = ⊥
Ended o (Row.Issues key next) = ⊥
Ended o (Row.Stores content next) = ⊥

-- its answer blames the object whose call failed, and else none
abbrev pub Blames : RvRow → Type 0
Blames (Row.Ends r) = blamed r.1 ≡ None
Blames (Row.Draws next) = ((draw : List ℕ) → Blames (next (Ok draw))) × ((f : Failed) → Ended object.Random (next (Err f)))
Blames (Row.Reads next) = ((second : ℕ) → Blames (next (Ok second))) × ((f : Failed) → Ended object.Clock (next (Err f)))
Blames (Row.Signs key text next) = Unit {0}
Blames (Row.Issues key next) = Unit {0}
Blames (Row.Stores content next) = Unit {0}

-- ---- checks refuse for no object

abbrev Fair : Cause → Type 0
Fair e = (reply : Packet) → blamed (answers.Refused reply e) ≡ None

abbrev FairIn : {A : Type 0} → Result A Cause → Type 0
FairIn (Ok x) = Unit {0}
FairIn (Err e) = Fair e

abbrev Checked : Type 0
Checked = Result (Unit {0}) Cause

fair_bind : {A B : Type 0} (x : Result A Cause) (f : A → Result B Cause) → FairIn x → ((a : A) → FairIn (f a)) → FairIn (x >>= f)
fair_bind (Ok a) f h k = k a
fair_bind (Err e) f h k = h

fair_wants : (b : Bool) (e : Cause) → Fair e → FairIn (wants b e)
fair_wants true e h = tt
fair_wants false e h = h

fair_or : {A : Type 0} (o : Option A) (e : Cause) → Fair e → FairIn (ok_or o e)
fair_or (Some a) e h = tt
fair_or None e h = h

fair_session : {A : Type 0} (o : Option A) → FairIn (of_session o)
fair_session (Some a) = tt
fair_session None = λ reply. refl

fair_said_in : {A : Type 0} (part : Msg → Option A) (r : Result Msg ℕ) → FairIn (said_in part r)
fair_said_in part (Ok m) = fair_or (part m) (cause.Body 0) (λ reply. refl)
fair_said_in part (Err place) = λ reply. refl

fair_told : (alg : ℤ) (o : Option Bool) → FairIn (by_told alg o)
fair_told alg None = λ reply. refl
fair_told alg (Some true) = tt
fair_told alg (Some false) = λ reply. refl

fair_chain : (broken : Option ChainFault) → FairIn (chain_check broken)
fair_chain None = tt
fair_chain (Some f) = λ reply. refl

abbrev stops : ℕ → Checked
stops i = Err (cause.Address i)

fair_misplaced : (i : ℕ) (addrs : List AddrEntry) → FairIn (misplaced i addrs)
fair_misplaced i [] = tt
fair_misplaced i (a ∷ rest) = go (is_place a) (fair_misplaced (i + 1) rest) where
  go : (b : Bool) → FairIn (misplaced (i + 1) rest) → FairIn (if b then misplaced (i + 1) rest else stops i)
  go true later = later
  go false later = λ reply. refl

fair_leaf_fits : (o : Option (List ℕ)) → FairIn (leaf_fits o)
fair_leaf_fits None = tt
fair_leaf_fits (Some leaf) = fair_wants (nat_le (length leaf) 16384) (cause.Size 16384) (λ reply. refl)

-- ---- TO0.OwnerSign

module _ (suite : Checking) (sign : OwnerSign) where
  abbrev signed : Checked
  signed = verified suite.verifies (last_key sign.voucher.header.key sign.voucher.entries) sign.to1d.sign

  abbrev chained : Checked
  chained = chain_check (first_break suite.verifies sign.voucher) >>= λ _. signed

  abbrev hashed : Checked
  hashed = wants (is_hash_of sign.to1d.to0d_hash sign.to0d) cause.HashDiffers >>= λ _. chained

  fair_signs : (nonce : List ℕ) → FairIn (said_checks suite nonce sign)
  unfolding said_checks
  fair_signs nonce =
      fair_bind (wants (bytes_eq sign.nonce nonce) cause.Nonce) (λ _. hashed) (fair_wants (bytes_eq sign.nonce nonce) cause.Nonce (λ reply. refl))
      (λ _. fair_bind (wants (is_hash_of sign.to1d.to0d_hash sign.to0d) cause.HashDiffers) (λ _. chained) (fair_wants (is_hash_of sign.to1d.to0d_hash sign.to0d) cause.HashDiffers (λ reply. refl))
      (λ _. fair_bind (chain_check (first_break suite.verifies sign.voucher)) (λ _. signed) (fair_chain (first_break suite.verifies sign.voucher))
      (λ _. fair_told sign.to1d.sign.alg (signature_told suite.verifies (last_key sign.voucher.header.key sign.voucher.entries) sign.to1d.sign))))

  fair_leaf : FairIn (leaf_of suite sign)
  unfolding leaf_of
  fair_leaf = fair_or (option_and_then suite.leaf (first_certificate sign.voucher.chain)) no_algorithm (λ reply. refl)

  abbrev sized : Checked
  sized = fits_registry sign.to1d.raw >>= λ _. leaf_fits (first_certificate sign.voucher.chain)

  fair_kept : FairIn (kept_checks sign)
  unfolding kept_checks
  fair_kept =
      fair_bind (misplaced 0 sign.to1d.addrs) (λ _. sized) (fair_misplaced 0 sign.to1d.addrs)
      (λ _. fair_bind (fits_registry sign.to1d.raw) (λ _. leaf_fits (first_certificate sign.voucher.chain)) (fair_wants (nat_le (length sign.to1d.raw) 16384) (cause.Size 16384) (λ reply. refl))
      (λ _. fair_leaf_fits (first_certificate sign.voucher.chain)))

  abbrev kept_key : Result (List ℕ) Cause
  kept_key = kept_checks sign >>= λ _. leaf_of suite sign

  fair_key : (nonce : List ℕ) → FairIn (key_checked suite nonce sign)
  unfolding key_checked
  fair_key nonce = fair_bind (said_checks suite nonce sign) (λ _. kept_key) (fair_signs nonce) (λ _. fair_bind (kept_checks sign) (λ _. leaf_of suite sign) fair_kept (λ _. fair_leaf))

  abbrev registering : List ℕ → Result Registering Cause
  registering leaf = Ok (record { sign = sign; leaf = leaf })

  abbrev with_said : List ℕ → Result Registering Cause
  with_said nonce = key_checked suite nonce sign >>= registering

  fair_all : (nonce : List ℕ) → FairIn (with_said nonce)
  fair_all nonce = fair_bind (key_checked suite nonce sign) registering (fair_key nonce) (λ leaf. tt)

abbrev with_sign : Checking → Packet → List ℕ → Result Registering Cause
with_sign suite packet nonce = said owner_sign kind.owner_sign packet.body >>= λ sign. with_said suite sign nonce

fair_sign : (suite : Checking) (s : RvView) (packet : Packet) → FairIn (sign_checks suite s packet)
fair_sign suite s packet =
    fair_bind (of_session (named packet.token s.to0)) (with_sign suite packet) (fair_session (named packet.token s.to0))
    (λ nonce. fair_bind (said owner_sign kind.owner_sign packet.body) (λ sign. with_said suite sign nonce) (fair_said_in owner_sign (body_at kind.owner_sign packet.body)) (λ sign. fair_all suite sign nonce))

-- ---- TO1.ProveToRV

abbrev guided : Proof → Asked → Checked
guided proof asked = wants (bytes_eq proof.guid asked.guid) cause.GuidDiffers

abbrev fresh : Proof → Asked → Checked
fresh proof asked = wants (bytes_eq proof.nonce asked.nonce) cause.Nonce >>= λ _. guided proof asked

fair_asked : (suite : Checking) (asked : Asked) (proof : Proof) → FairIn (asked_checks suite asked proof)
unfolding asked_checks
fair_asked suite asked proof =
    fair_bind (verified_by suite.verifies asked.leaf proof.sign) (λ _. fresh proof asked) (fair_told proof.sign.alg (suite.verifies asked.leaf proof.sign.alg (sign1_structure proof.sign.protected proof.sign.payload) proof.sign.sig))
    (λ _. fair_bind (wants (bytes_eq proof.nonce asked.nonce) cause.Nonce) (λ _. guided proof asked) (fair_wants (bytes_eq proof.nonce asked.nonce) cause.Nonce (λ reply. refl))
    (λ _. fair_wants (bytes_eq proof.guid asked.guid) cause.GuidDiffers (λ reply. refl)))

abbrev guid_of : Asked → Result (List ℕ) Cause
guid_of asked = Ok asked.guid

abbrev with_checks : Checking → Asked → Proof → Result (List ℕ) Cause
with_checks suite asked proof = asked_checks suite asked proof >>= λ _. guid_of asked

abbrev with_proof : Checking → Packet → Asked → Result (List ℕ) Cause
with_proof suite packet asked = said prove_to_rv kind.prove_to_rv packet.body >>= with_checks suite asked

fair_proof : (suite : Checking) (s : RvView) (packet : Packet) → FairIn (proof_checks suite s packet)
fair_proof suite s packet =
    fair_bind (of_session (named packet.token s.to1)) (with_proof suite packet) (fair_session (named packet.token s.to1))
    (λ asked. fair_bind (said prove_to_rv kind.prove_to_rv packet.body) (with_checks suite asked) (fair_said_in prove_to_rv (body_at kind.prove_to_rv packet.body))
    (λ proof. fair_bind (asked_checks suite asked proof) (λ _. guid_of asked) (fair_asked suite asked proof) (λ _. tt)))

-- ---- the rows of each type

hello_blames : (s : RvView) (packet : Packet) (r : Checked) → FairIn r → Blames (hello_row s packet r)
hello_blames s packet (Ok _) h = (λ nonce. (λ token. refl, λ f. refl), λ f. refl)
hello_blames s packet (Err e) h = h (error_of e packet.kind (error_token s packet.token))

sign_blames : (s : RvView) (packet : Packet) (r : Result Registering Cause) → FairIn r → Blames (sign_row s packet r)
sign_blames s packet (Ok r) h = (λ now. placed (is_full now r.sign.voucher.header.guid s.entries) now, λ f. refl) where
  placed : (b : Bool) (now : ℕ) → Blames (if_place b s packet r now)
  placed true now = refl
  placed false now = refl
sign_blames s packet (Err e) h = h (error_of e packet.kind (error_token s packet.token))

hello_rv_blames : (suite : Checking) (s : RvView) (packet : Packet) (r : Result HelloRv Cause) → FairIn r → Blames (hello_rv_row suite s packet r)
hello_rv_blames suite s packet (Ok asked) h = (λ now. owned (found now asked.guid s.entries), λ f. refl) where
  signs : (b : Bool) (leaf : List ℕ) → Blames (rv_signs b s packet leaf asked)
  signs true leaf = (λ nonce. (λ token. refl, λ f. refl), λ f. refl)
  signs false leaf = refl

  owned : (o : Option Owned) → Blames (rv_found o suite s packet asked)
  owned (Some o) = signs (is_some (suite.algorithm o.leaf)) o.leaf
  owned None = refl
hello_rv_blames suite s packet (Err e) h = h (error_of e packet.kind (error_token s packet.token))

proof_blames : (s : RvView) (packet : Packet) (r : Result (List ℕ) Cause) → FairIn r → Blames (proof_row s packet r)
proof_blames s packet (Ok guid) h = (λ now. owned (found now guid s.entries), λ f. refl) where
  owned : (o : Option Owned) → Blames (redirects o s packet guid)
  owned (Some o) = refl
  owned None = refl
proof_blames s packet (Err e) h = h (error_of e packet.kind (error_token s packet.token))

-- ---- all

either : (b : Bool) (x y : RvRow) → Blames x → Blames y → Blames (if b then x else y)
either true x y hx hy = hx
either false x y hx hy = hy

pub row_blames : (suite : Checking) (s : RvView) (packet : Packet) → Blames (rendezvous_row suite s packet)
unfolding rendezvous_row
row_blames suite s packet =
    either (packet.kind == kind.error) _ _ refl
    (either (packet.kind == kind.hello) _ _ (hello_blames s packet (said hello kind.hello packet.body) (fair_said_in hello (body_at kind.hello packet.body)))
    (either (packet.kind == kind.owner_sign) _ _ (sign_blames s packet (sign_checks suite s packet) (fair_sign suite s packet))
    (either (packet.kind == kind.hello_rv) _ _ (hello_rv_blames suite s packet (said hello_rv kind.hello_rv packet.body) (fair_said_in hello_rv (body_at kind.hello_rv packet.body)))
    (either (packet.kind == kind.prove_to_rv) _ _ (proof_blames s packet (proof_checks suite s packet) (fair_proof suite s packet)) refl))))

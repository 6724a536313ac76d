-- How the steps of a device at its factory are put together.
use Rattle.std.proofs.Common.{◌≡◌, ℕ, ◌<◌, ◌≤◌, nat_le, Bool, true, false, List, length, Some, None, Result, Ok, Err, inl, inr, refl, sym, ap, subst, ◌∙◌, arith}
use Rattle.std.proofs.lemmas.Bool.{leb-true, le-leb}
use Rattle.port_base.specs.Count.{Rises}
use Rattle.disk_port.specs.Told.{Told}
use Rattle.disk_port.specs.declared.disk.Disk.{Ghosts as Disk}
use Rattle.fdo_ports.specs.Draw.{Drawn, Draws}
use Rattle.fdo_ports.specs.declared.failed.Failed.{Failed}
use Rattle.fdo_msgs.specs.Kind as kind
use Rattle.fdo_msgs.specs.Said.{body_of}
use Rattle.fdo_msgs.specs.Refusal.{error_of}
use Rattle.fdo_msgs.specs.declared.cause.Cause.TheVariants as cause
use Rattle.fdo_msgs.specs.declared.cause.Object.TheVariants as object
use Rattle.fdo_msgs.specs.declared.last.Last.TheVariants as last
use Rattle.fdo_msgs.specs.declared.msg.Msg.TheVariants as msg
use Rattle.fdo_msgs.specs.declared.next.Next.{Next}
use Rattle.fdo_msgs.specs.declared.next.Next.TheVariants as next
use Rattle.fdo_msgs.specs.declared.packet.Packet.{Packet}
use Rattle.voucher_chain.specs.declared.credential.Credential.{Credential}
use Rattle.voucher_chain.specs.declared.header.Header.{Header}
use Rattle.credential_store.specs.Body.{body_of_credential}
use Rattle.credential_store.specs.Image.{Commits}
use Rattle.credential_store.specs.Store.{StoreView}
use Rattle.fdo_rules.specs.Checks.{wants}
use Rattle.hash_hmac.specs.declared.hash.Hash.{Hash}
use Rattle.fdo_rules.specs.DeviceDi.{CredentialsRow, HmacSent, committed, fits_credential, if_fits}
use Rattle.fdo_rules.specs.Made.{hmac_of}
use Rattle.fdo_rules.specs.Moves.{Moves, refused}
use Rattle.fdo_rules.specs.Row.{Row}
use Rattle.di_device.specs.Calls.{Drew, DrewSome, Keeping, done, failed}
use Rattle.di_device.specs.Steps.{Answers, Finishes}

-- ---- DI.SetCredentials

-- memory may run out before all of a row
nothing_left : (row : CredentialsRow) (before : Drawn) → DrewSome row before before
nothing_left (Row.Ends r) before = refl
nothing_left (Row.Draws next) before = inl refl
nothing_left (Row.Reads next) before = inl refl
nothing_left (Row.Signs key text next) before = inl refl
nothing_left (Row.Issues key next) before = inl refl
nothing_left (Row.Stores content next) before = refl

module _ {X : Type 0} where
  -- the credential fits, and is reserved
  pub reserves : (packet : Packet) (header : Header) (c : Credential) (hmac : Hash) (s s' : StoreView X) (before : Drawn) (answer : Packet) → length (body_of_credential c) ≤ 8100
      → hmac ≡ hmac_of header c.secret → answer ≡ record { token = packet.token; kind = kind.set_hmac; body = body_of (msg.SetHmac hmac) } → s' ≡ record s { reserved = Some c }
      → (sent : HmacSent) × Drew (if_fits packet header c (fits_credential c)) before (Moves.On sent answer) before × (s' ≡ record s { reserved = Some sent.next })
  reserves packet header c hmac s s' before answer fits is made kept =
      subst (λ (b : Bool). (sent : HmacSent) × Drew (if_fits packet header c (wants b (cause.Size 8100))) before (Moves.On sent answer) before × (s' ≡ record s { reserved = Some sent.next }))
      (sym (le-leb (length (body_of_credential c)) 8100 fits)) (
        record { next = c; token = packet.token },
        (ap (Moves.On (record { next = c; token = packet.token })) (made ∙ ap (λ (h : Hash). record { token = packet.token; kind = kind.set_hmac; body = body_of (msg.SetHmac h) }) is), refl),
        kept,
      )

module _ {T X : Type 0} (store_of : T → StoreView X) where
  pub gives_up : (row : CredentialsRow) (s rest : StoreView X) (before : Drawn) → rest ≡ s → Answers store_of row s before (next.NoMemory rest) before
  gives_up row s rest before e = (nothing_left row before, e)

  pub draws_then : (goes_on : Result (List ℕ) Failed → CredentialsRow) (s : StoreView X) (before mid after : Drawn) (answer : Result (List ℕ) Failed) (result : Next T (StoreView X))
      → Draws before answer mid → Answers store_of (goes_on answer) s mid result after → Answers store_of (Row.Draws goes_on) s before result after
  draws_then goes_on s before mid after answer (next.On state packet) drew h = (h.0, (answer, mid, drew, h.1), h.2)
  draws_then goes_on s before mid after answer (next.Stopped rest e reply) drew h = ((answer, mid, drew, h.0), h.1)
  draws_then goes_on s before mid after answer (next.NoMemory rest) drew h = (inr (answer, mid, drew, h.0), h.1)

  -- it is handed back, and the store is as before
  pub stays : (packet : Packet) (header : Header) (c back : Credential) (s s' : StoreView X) (before : Drawn) (result : Next T (StoreView X)) → back ≡ c → s' ≡ s
      → Answers store_of (if_fits packet header back (fits_credential back)) s' before result before → Answers store_of (if_fits packet header c (fits_credential c)) s before result before
  stays packet header c back s s' before result is same h =
      subst (λ (t : StoreView X). Answers store_of (if_fits packet header c (fits_credential c)) t before result before) same
      (subst (λ (d : Credential). Answers store_of (if_fits packet header d (fits_credential d)) s' before result before) is h)

  pub too_big : (packet : Packet) (header : Header) (c : Credential) (s : StoreView X) (before : Drawn) (result : Next T (StoreView X)) → 8100 < length (body_of_credential c)
      → Answers store_of (Row.Ends (refused packet (cause.Size 8100))) s before result before → Answers store_of (if_fits packet header c (fits_credential c)) s before result before
  too_big packet header c s before result big h =
      subst (λ (b : Bool). Answers store_of (if_fits packet header c (wants b (cause.Size 8100))) s before result before) (sym (over (nat_le (length (body_of_credential c)) 8100) refl)) h where
        over : (b : Bool) → nat_le (length (body_of_credential c)) 8100 ≡ b → nat_le (length (body_of_credential c)) 8100 ≡ false
        over true e = absurd (omega (arith, big, leb-true (length (body_of_credential c)) 8100 e))
        over false e = e

-- ---- DI.Done

module _ {X : Type 0} (D : Disk X) where
  pub kept : (packet : Packet) (c : Credential) (s s' : StoreView X) → s.reserved ≡ Some c → (s'.credential ≡ s.reserved) × (s'.reserved ≡ None)
      → Told (Commits s.reserved (done s')) (D.told s.disk) (D.told s'.disk) → D.faults s'.disk ≡ D.faults s.disk → D.object s'.disk ≡ D.object s.disk
      → Finishes D (Row.Stores (Some c) (committed packet c)) s (last.Done s')
  kept packet c s s' is now told faults same =
      (c, (Ok tt, Keeping.Store s', record { content_is = sym is; credential = now.0; reserved = now.1; disk = told; faults = faults; object = same }, (refl, refl)))

  pub reopens : (packet : Packet) (c : Credential) (s : StoreView X) (disk : X) (reply : Packet) → s.reserved ≡ Some c → reply ≡ error_of (cause.Outside object.Disk) packet.kind packet.token
      → Told (Commits s.reserved (failed disk)) (D.told s.disk) (D.told disk) → Rises (D.faults s.disk) (D.faults disk) → D.object disk ≡ D.object s.disk
      → Finishes D (Row.Stores (Some c) (committed packet c)) s (last.Reopen disk reply)
  reopens packet c s disk reply is e told faults same =
      (Err (record {}), Keeping.ToReopen disk, record { content_is = sym is; told = told; faults = faults; object = same }, (ap Moves.Reopen e, refl))

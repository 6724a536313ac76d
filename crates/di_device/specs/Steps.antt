-- The steps of a device without a credential at its factory (FIDO Device Onboard 1.1, section 5.2), by its rules.
use Rattle.std.specs.Prelude.{◌≡◌, Some}
use Rattle.disk_port.specs.declared.disk.Disk.{Ghosts as Disk}
use Rattle.fdo_ports.specs.Draw.{Drawn}
use Rattle.fdo_msgs.specs.declared.cause.Cause.{Cause}
use Rattle.fdo_msgs.specs.declared.cause.Cause.TheVariants as cause
use Rattle.fdo_msgs.specs.declared.last.Last.{Last}
use Rattle.fdo_msgs.specs.declared.last.Last.TheVariants as last
use Rattle.fdo_msgs.specs.declared.mfg.MfgInfo.{MfgInfo}
use Rattle.fdo_msgs.specs.declared.next.Next.{Next}
use Rattle.fdo_msgs.specs.declared.next.Next.TheVariants as next
use Rattle.voucher_chain.specs.declared.credential.Credential.{Credential}
use Rattle.credential_store.specs.Store.{StoreView}
use Rattle.fdo_rules.specs.DeviceDi.{CredentialsRow, DoneRow, HmacSent, app_start_sent}
use Rattle.fdo_rules.specs.Moves.{Moves}
use Rattle.di_device.specs.Calls.{Committed, Drew, DrewSome, Keeping}

-- an error message is sent for it, or it is one of the other end
abbrev pub IsAnswered : Cause → Type 0
IsAnswered (cause.Http _) = ⊥
IsAnswered e = Unit {0}

module _ {T X : Type 0} (store_of : T → StoreView X) where
  -- DI.AppStart is sent, and the store stays; it is never refused
  abbrev pub Starts : MfgInfo → StoreView X → Next T (StoreView X) → Type 0
  Starts info s (next.On state packet) = (packet ≡ app_start_sent info) × (store_of state ≡ s)
  Starts info s (next.Stopped rest e reply) = ⊥
  Starts info s (next.NoMemory rest) = rest ≡ s

  -- a row at DI.SetCredentials: the credential to come is reserved; a refusal, and running out of memory, leave the store
  abbrev pub Answers : CredentialsRow → StoreView X → Drawn → Next T (StoreView X) → Drawn → Type 0
  Answers row s before (next.On state answer) after = (sent : HmacSent) × Drew row before (Moves.On sent answer) after × (store_of state ≡ record s { reserved = Some sent.next })
  Answers row s before (next.Stopped rest e reply) after = Drew row before (Moves.Stopped e reply) after × (rest ≡ s)
  Answers row s before (next.NoMemory rest) after = DrewSome row before after × (rest ≡ s)

-- a row at DI.Done: the credential is kept; a refusal, and running out of memory, leave the store
abbrev pub Finishes : {X : Type 0} → Disk X → DoneRow → StoreView X → Last (StoreView X) (StoreView X) X → Type 0
Finishes D row s (last.Done s') = (c : Credential) × Committed D row (Keeping.Store s) (Moves.Done c) (Keeping.Store s')
Finishes D row s (last.Stopped rest e reply) = Committed D row (Keeping.Store s) (Moves.Stopped e reply) (Keeping.Store rest)
Finishes D row s (last.Reopen disk reply) = Committed D row (Keeping.Store s) (Moves.Reopen reply) (Keeping.ToReopen disk)
Finishes D row s (last.NoMemory rest) = rest ≡ s

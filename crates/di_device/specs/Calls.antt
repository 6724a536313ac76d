-- What the calls of a device at its factory do: those on its random source, and those on the disk of its store.
use Rattle.std.specs.Prelude.{◌≡◌, ℕ, List, Option, None, Result, Ok, Err}
use Rattle.port_base.specs.Count.{Rises}
use Rattle.disk_port.specs.Told.{Told}
use Rattle.disk_port.specs.declared.disk.Disk.{Ghosts as Disk}
use Rattle.fdo_ports.specs.Draw.{Drawn, Draws}
use Rattle.fdo_ports.specs.declared.failed.Failed.{Failed}
use Rattle.voucher_chain.specs.declared.credential.Credential.{Credential}
use Rattle.credential_store.specs.Image.{Commits}
use Rattle.credential_store.specs.Store.{StoreView}
use Rattle.fdo_rules.specs.Row.{Row, Comes, Leaves}

-- ---- it reads no clock, signs nothing and issues nothing

abbrev pub NoReads : {S : Type 0} → S → Result ℕ Failed → S → Type 0
NoReads s answer t = ⊥

abbrev pub NoSigns : {S : Type 0} → S → List ℕ → List ℕ → Result (List ℕ) Failed → S → Type 0
NoSigns s key text answer t = ⊥

abbrev pub NoIssues : {S : Type 0} → S → List ℕ → Result (List ℕ) Failed → S → Type 0
NoIssues s key answer t = ⊥

-- ---- at DI.SetCredentials it draws, and keeps nothing on its disk

abbrev pub NoStores : {S : Type 0} → S → Option Credential → Result (Unit {0}) Failed → S → Type 0
NoStores s content answer t = ⊥

-- a row comes to a result by draws
abbrev pub Drew : {R : Type 0} → Row (Option Credential) R → Drawn → R → Drawn → Type 0
Drew row s result t = Comes Draws NoReads NoSigns NoIssues NoStores row s result t

-- memory runs out on its way
abbrev pub DrewSome : {R : Type 0} → Row (Option Credential) R → Drawn → Drawn → Type 0
DrewSome row s t = Leaves Draws NoReads NoSigns NoIssues NoStores row s t

-- ---- at DI.Done it commits, and draws nothing

-- a store, or the disk of one that failed, which has to be opened again
pub data Keeping (X : Type 0) : Type 0 where
  Store : StoreView X → Keeping X
  ToReopen : X → Keeping X

abbrev pub NoDraws : {S : Type 0} → S → Result (List ℕ) Failed → S → Type 0
NoDraws s answer t = ⊥

-- a commit that is done, and one that failed
abbrev pub done : {X : Type 0} → StoreView X → Result (StoreView X) X
done s = Ok s

abbrev pub failed : {X : Type 0} → X → Result (StoreView X) X
failed disk = Err disk

module _ {X : Type 0} (D : Disk X) where
  -- what was reserved is kept, and a crash at any moment leaves what was kept before or it
  pub record IsCommitted (content : Option Credential) (s s' : StoreView X) : Type 0 where
    pub content_is : content ≡ s.reserved
    pub credential : s'.credential ≡ s.reserved
    pub reserved : s'.reserved ≡ None
    pub disk : Told (Commits s.reserved (done s')) (D.told s.disk) (D.told s'.disk)
    pub faults : D.faults s'.disk ≡ D.faults s.disk
    pub object : D.object s'.disk ≡ D.object s.disk

  -- the disk failed in this call
  pub record HasFailed (content : Option Credential) (s : StoreView X) (disk : X) : Type 0 where
    pub content_is : content ≡ s.reserved
    pub told : Told (Commits s.reserved (failed disk)) (D.told s.disk) (D.told disk)
    pub faults : Rises (D.faults s.disk) (D.faults disk)
    pub object : D.object disk ≡ D.object s.disk

  abbrev pub Keeps : Keeping X → Option Credential → Result (Unit {0}) Failed → Keeping X → Type 0
  Keeps (Keeping.Store s) content (Ok _) (Keeping.Store s') = IsCommitted content s s'
  Keeps (Keeping.Store s) content (Err _) (Keeping.ToReopen disk) = HasFailed content s disk
  Keeps k content answer k' = ⊥

  -- a row comes to a result by a commit
  abbrev pub Committed : {R : Type 0} → Row (Option Credential) R → Keeping X → R → Keeping X → Type 0
  Committed row s result t = Comes NoDraws NoReads NoSigns NoIssues Keeps row s result t

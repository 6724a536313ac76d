-- What stopping a store's disk at a call leaves.
use Rattle.std.specs.Prelude.{◌≡◌}
use Rattle.disk_port.specs.declared.disk.Disk.{Ghosts as Disk}
use Rattle.credential_store.specs.Store.{StoreView}

-- all but the disk, and what is told of that
pub record StopsAt {X : Type 0} (D : Disk X) (before after : StoreView X) : Type 0 where
  pub same : after ≡ record before { disk = after.disk }
  pub told : D.told after.disk ≡ D.told before.disk
  pub faults : D.faults after.disk ≡ D.faults before.disk
  pub object : D.object after.disk ≡ D.object before.disk

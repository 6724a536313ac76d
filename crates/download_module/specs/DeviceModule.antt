-- What the one module of a device took.
use Rattle.std.specs.Prelude.{◌≡◌, List}
use Rattle.service_info.specs.declared.pair.Pair.{Pair}
use Rattle.service_info.specs.ListModule.{pairs_taken}
use Rattle.download_module.specs.declared.device_module.DeviceModule.{DeviceModule}
use Rattle.download_module.specs.Receiver.{Took}

-- both of its parts took these pairs
pub record TookBoth (m : DeviceModule) (pairs : List Pair) : Type 0 where
  pub list : pairs_taken m.list ≡ pairs
  pub receiver : Took m.receiver pairs

-- What a receiver took.
use Rattle.std.specs.Prelude.{◌≡◌, ℕ, List, ◌++◌}
use Rattle.service_info.specs.declared.pair.Pair.{Pair}
use Rattle.download_module.specs.declared.receiver.Receiver.{Receiver}
use Rattle.download_module.specs.Received.{of_module, received}
use Rattle.download_module.specs.Stage.{goes_on, IsHashed}

-- how many bytes a file may have
abbrev pub limit_of : Receiver → ℕ
limit_of r = r.limit

-- it took pairs: whatever comes after them, it receives what they and those say
pub record Took (r : Receiver) (pairs : List Pair) : Type 0 where
  pub hashed : IsHashed r.stage
  pub goes : (more : List Pair) → received r.limit (of_module (pairs ++ more)) ≡ goes_on r.limit r.stage (of_module more)

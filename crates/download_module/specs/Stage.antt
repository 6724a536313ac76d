-- How far a file is received.
use Rattle.std.specs.Prelude.{◌≡◌, ℕ, List, ◌++◌, Option, Result, Err}
use Rattle.sha2.specs.Hashers.{Holds384}
use Rattle.service_info.specs.declared.pair.Pair.{Pair}
use Rattle.download_module.specs.declared.down_fault.DownFault.{DownFault}
use Rattle.download_module.specs.declared.file.File.{File}
use Rattle.download_module.specs.declared.stage.Stage.{Stage}
use Rattle.download_module.specs.declared.stage.Stage.TheVariants as stage
use Rattle.download_module.specs.declared.receiving.Receiving.{Receiving}
use Rattle.download_module.specs.Received.{received, name_received, size_received, hash_received, pieces_received, next_place, with_piece, ◌>>=◌}

-- what is received where these pairs come next
abbrev pub goes_on : ℕ → Stage → List Pair → Result (Option File) DownFault
goes_on limit stage.Idle pairs = received limit pairs
goes_on limit stage.Active pairs = name_received limit pairs
goes_on limit (stage.Named name) pairs = size_received limit name pairs
goes_on limit (stage.Measured name size) pairs = hash_received name size pairs
goes_on limit (stage.Receiving r) pairs = pieces_received r.name r.size r.hash r.place r.bytes.items pairs
goes_on limit (stage.Refused fault) pairs = Err fault

-- the hasher has what came
abbrev pub IsHashed : Stage → Type 0
IsHashed (stage.Receiving r) = Holds384 r.hasher r.bytes.items
IsHashed _ = Unit {0}

-- these pairs lead from a stage to another
pub record Leads (limit : ℕ) (before : Stage) (pairs : List Pair) (after : Stage) : Type 0 where
  pub hashed : IsHashed before → IsHashed after
  pub goes : (more : List Pair) → goes_on limit before (pairs ++ more) ≡ goes_on limit after more

-- a piece leads from a file that is received to a stage
pub record Adds (before : Receiving) (piece : List ℕ) (after : Stage) : Type 0 where
  pub hashed : IsHashed (stage.Receiving before) → IsHashed after
  pub goes : (limit : ℕ) (more : List Pair) → (with_piece before.size before.bytes.items piece >>= λ bytes. pieces_received before.name before.size before.hash (next_place before.place) bytes more) ≡ goes_on limit after more

-- The initialization vectors of an end.
use Rattle.std.specs.Prelude.{◌≡◌, ℕ, ◌<◌, ◌^◌}
use Rattle.fdo_rules.specs.Channel.{Side, iv_of}

-- equal ones have one number
abbrev pub VectorsDiffer : Type 0
VectorsDiffer = (side : Side) (m n : ℕ) → m < 2 ^ 64 → n < 2 ^ 64 → iv_of side m ≡ iv_of side n → m ≡ n

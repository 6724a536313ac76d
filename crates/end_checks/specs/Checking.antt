-- What a suite means to a rendezvous server.
use Rattle.std.specs.Prelude.{ℕ, ℤ, List, Option, option_and_then}
use Rattle.voucher_chain.specs.Chain.{Verifies}
use Rattle.fdo_rules.specs.Checks.{spelled_key}
use Rattle.fdo_rules.specs.Suite.{Checking}

-- the key in a certificate, where it is the deterministic spelling of a public key
abbrev pub key_of_leaf : (List ℕ → Option (List ℕ)) → List ℕ → Option (List ℕ)
key_of_leaf key_in leaf = option_and_then spelled_key (key_in leaf)

abbrev pub checking : Verifies → (List ℕ → Option ℤ) → (List ℕ → Option (List ℕ)) → Checking
checking verifies algorithm key_in = record { verifies = verifies; algorithm = algorithm; leaf = key_of_leaf key_in }

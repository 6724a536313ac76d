-- What the mute suite answers.
use Rattle.std.specs.Prelude.{ℕ, ℤ, pos, List, Bool, Option, None, Some, if◌then◌else◌}
use Rattle.std.specs.Ordering.{int_eq}
use Rattle.std.specs.Str.{bytes_eq}
use Rattle.envelope_tests.specs.declared.mute_suite.MuteSuite.{MuteSuite}

-- it holds the key that it was made with
abbrev pub mute_held : MuteSuite → List ℕ → Bool
mute_held s = bytes_eq s.key.items

-- 1 has a key of 128 bits
abbrev pub mute_bits : ℤ → Option ℕ
mute_bits alg = if int_eq alg (pos 1) then Some 128 else None

-- What the plain suite answers.
use Rattle.std.proofs.Common.{◌≡◌, ℕ, ℤ, pos, List, [], Option, None, Some, Bool, true, ap, sym, ◌∙◌, if◌then◌else◌}
use Rattle.std.proofs.lemmas.Slice.Eq.{bytes_eq-Decides}
use Rattle.std.specs.Ordering.{int_eq}
use Rattle.std.specs.Str.{bytes_eq}
use Rattle.suite_laws.specs.declared.plain_suite.PlainSuite.{PlainSuite}

-- it holds the key that it was made with
abbrev pub plain_held : PlainSuite → List ℕ → Bool
plain_held s = bytes_eq s.key.items

-- every key signs with 7, and a text is its own signature
abbrev pub plain_verifies : List ℕ → ℤ → List ℕ → List ℕ → Option Bool
plain_verifies key alg text sig = if int_eq alg (pos 7) then Some (bytes_eq sig text) else None

-- xA is empty, and the private part is the draw; xB is empty, and the secret is the name
abbrev pub plain_first : List ℕ → List ℕ → List ℕ × List ℕ
plain_first name draw = ([], draw)

abbrev pub plain_second : List ℕ → List ℕ → List ℕ → Option (List ℕ × List ℕ)
plain_second name draw xa = Some ([], name)

abbrev pub plain_finish : List ℕ → List ℕ → List ℕ → Option (List ℕ)
plain_finish name private xb = Some name

-- 1 has a key of 128 bits, and leaves texts as they are
abbrev pub plain_bits : ℤ → Option ℕ
plain_bits alg = if int_eq alg (pos 1) then Some 128 else None

-- the number that an option has, or 7
abbrev number_in : Option ℤ → ℤ
number_in None = pos 7
number_in (Some number) = number

plain_right : (text sig : List ℕ) → sig ≡ text → plain_verifies [] (pos 7) text sig ≡ Some true
plain_right text sig same = ap Some ((bytes_eq-Decides sig text).1 same)

pub plain_verified : (key text sig : List ℕ) (alg : ℤ) → Some (pos 7) ≡ Some alg → sig ≡ text → plain_verifies key alg text sig ≡ Some true
plain_verified key text sig alg number same = ap (λ (a : ℤ). plain_verifies key a text sig) (sym (ap number_in number)) ∙ plain_right text sig same

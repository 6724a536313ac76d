-- How many elements or pairs an array or a map has.
use Rattle.std.specs.Prelude.{◌≡◌, ℕ, ◌+◌, List, length, false, Option, Some, None, Ok}
use Rattle.cbor_core.specs.declared.item.Item.{Item}
use Rattle.cbor_core.specs.declared.item.Item.TheOpen.{Item-F}
use Rattle.cbor_core.specs.Reading.{Read, ◌>>=◌, open_at}
use Rattle.cbor_core.specs.Passing.{pass_pair, pass_at}
use Rattle.cbor_core.specs.declared.head.Major.TheVariants as major
use Rattle.cbor_core.specs.declared.head.Head.{Head}
use Rattle.cbor_core.specs.declared.head.Head.TheVariants as heads

-- one more behind n that were passed over
abbrev pub count_step : (List ℕ → Read (Unit {0})) → ℕ → List ℕ → Read ℕ
count_step pass n bytes = pass bytes >>= λ x. Ok (n + 1, x.1)

abbrev pub count_in : Item-F Item → Option ℕ
count_in (Item-F.Array xs) = Some (length xs)
count_in (Item-F.Map ps) = Some (length ps)
count_in _ = None

-- the number that a head gives, or that counting up to a break finds behind it
abbrev pub CountBehind : ℕ → ℕ → Head → List ℕ → Option ℕ → Type 0
CountBehind total levels (heads.Sized major.Array s n) rest o = o ≡ Some n
CountBehind total levels (heads.Sized major.Map s n) rest o = o ≡ Some n
CountBehind total levels (heads.Open major.Array) rest o = (n : ℕ) (after : List ℕ) → open_at (count_step (pass_at false total levels)) total (length rest) 0 rest ≡ Ok (n, after) → o ≡ Some n
CountBehind total levels (heads.Open major.Map) rest o = (n : ℕ) (after : List ℕ) → open_at (count_step (pass_pair (pass_at false total levels) tt)) total (length rest) 0 rest ≡ Ok (n, after) → o ≡ Some n
CountBehind total levels _ rest o = o ≡ None

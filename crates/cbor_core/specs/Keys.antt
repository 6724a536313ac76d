-- What is kept of a map's keys, to compare the next one with them.
use Rattle.std.specs.Prelude.{◌≡◌, ℕ, List, [], fold, Bool, true, false}
use Rattle.std.specs.List.{AllByRecursion}
use Rattle.std.specs.Ordering.{nat_cmp, is_lt}
use Rattle.std.specs.Cmp.Lexicographic.{slice_cmp}
use Rattle.std.specs.BTreeSet.{insert_key}
use Rattle.cbor_core.specs.declared.keys.Keys.{Keys}
use Rattle.cbor_core.specs.declared.head.Major.TheVariants as major
use Rattle.cbor_core.specs.declared.head.Head.{Head}
use Rattle.cbor_core.specs.declared.head.Head.TheVariants as heads

-- spellings as a set, which does not keep the order in which they came
abbrev pub key_set : List (List ℕ) → List (List ℕ)
key_set keys = fold (insert_key (slice_cmp nat_cmp)) [] keys

-- no key is above the last
abbrev pub IsTop : List ℕ → List (List ℕ) → Type 0
IsTop last keys = AllByRecursion (λ k. is_lt (slice_cmp nat_cmp last k) ≡ false) keys

-- the last key's spelling while the keys rise, and else the spellings of all
abbrev pub Keeps : Keys → List (List ℕ) → Type 0
Keeps k keys =
    (k.rising ≡ true → IsTop k.last.now keys)
    × (k.rising ≡ false → k.all.keys ≡ key_set keys)

-- whether a head says that its item is in its deterministic spelling: that of a number, or of a
-- string of definite length, with the shortest argument
abbrev pub is_settled : Head → Bool
is_settled (heads.Sized major.Unsigned s n) = s
is_settled (heads.Sized major.Negative s n) = s
is_settled (heads.Sized major.Bytes s n) = s
is_settled (heads.Sized major.Text s n) = s
is_settled _ = false

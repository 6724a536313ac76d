-- Passing over a data item without making it. Where `checked` holds, it gives the fault that reading gives;
-- otherwise the bytes are known to spell an item, and keys are not compared.
use Rattle.std.specs.Prelude.{ℕ, zero, suc, ◌-◌, List, [], length, drop, Bool, true, false, nat_lt, if◌then◌else◌, Ok, Err}
use Rattle.std.specs.Ordering.{nat_cmp}
use Rattle.std.specs.Cmp.Lexicographic.{slice_cmp}
use Rattle.std.specs.BTreeSet.{insert_key}
use Rattle.cbor_core.specs.declared.fault.CborFault.TheVariants as fault
use Rattle.cbor_core.specs.declared.head.Major.{Major}
use Rattle.cbor_core.specs.declared.head.Major.TheVariants as major
use Rattle.cbor_core.specs.declared.head.Head.{Head}
use Rattle.cbor_core.specs.declared.head.Head.TheVariants as heads
use Rattle.cbor_core.specs.declared.item.Item.{Item}
use Rattle.cbor_core.specs.Deterministic.{det}
use Rattle.cbor_core.specs.Reading.{Read, ◌>>=◌, head_at, content_at, chunk_in, row_at, open_at, admitted, item_at, buried_in}

abbrev pub pass_content : Bool → ℕ → Major → ℕ → List ℕ → Read (Unit {0})
pass_content true place m n rest = content_at place m n rest >>= λ c. Ok (tt, c.1)
pass_content false place m n rest = if nat_lt (length rest) n then Err (fault.Truncated place) else Ok (tt, drop n rest)

unfoldable pub pass_chunk : ℕ → Major → Unit {0} → List ℕ → Read (Unit {0})
pass_chunk total m u bytes = do
  h ← head_at (total - length bytes) bytes
  c ← chunk_in (total - length bytes) m h.0 h.1
  Ok (tt, c.1)

abbrev pub pass_step : (List ℕ → Read (Unit {0})) → Unit {0} → List ℕ → Read (Unit {0})
pass_step pass u bytes = pass bytes

abbrev pub pass_pair : (List ℕ → Read (Unit {0})) → Unit {0} → List ℕ → Read (Unit {0})
pass_pair pass u bytes = pass bytes >>= λ key. pass key.1

-- the deterministic spelling of the item at the front
abbrev pub spelled_at : (List ℕ → Read Item) → List ℕ → Read (List ℕ)
spelled_at read bytes = read bytes >>= λ x. Ok (det x.0, x.1)

-- a pair where keys are compared: of the key its spelling is kept, among those of the keys before
-- it, and of the value nothing
unfoldable pub fresh_step : ℕ → (List ℕ → Read Item) → (List ℕ → Read (Unit {0}))
    → List (List ℕ) → List ℕ → Read (List (List ℕ))
fresh_step total read pass keys bytes = do
  key ← spelled_at read bytes
  fresh ← admitted false (total - length bytes) keys key.0
  value ← pass key.1
  Ok (insert_key (slice_cmp nat_cmp) keys key.0, value.1)

-- what a row kept is let go
abbrev pub forgotten : {A : Type 0} → Read A → Read (Unit {0})
forgotten r = r >>= λ x. Ok (tt, x.1)

abbrev pub pass_pairs : Bool → ℕ → ℕ → (List ℕ → Read (Unit {0})) → ℕ → List ℕ → Read (Unit {0})
pass_pairs true total levels pass n rest =
    forgotten (row_at (fresh_step total (item_at false total levels) pass) n [] rest)
pass_pairs false total levels pass n rest = row_at (pass_pair pass) n tt rest

abbrev pub pass_open_pairs : Bool → ℕ → ℕ → (List ℕ → Read (Unit {0})) → List ℕ → Read (Unit {0})
pass_open_pairs true total levels pass rest =
    forgotten
    (open_at (fresh_step total (item_at false total levels) pass) total (length rest) [] rest)
pass_open_pairs false total levels pass rest = open_at (pass_pair pass) total (length rest) tt rest

abbrev pub pass_sized : Bool → ℕ → ℕ → (List ℕ → Read (Unit {0})) → ℕ → Major → ℕ → List ℕ → Read (Unit {0})
pass_sized checked total levels pass place major.Unsigned n rest = Ok (tt, rest)
pass_sized checked total levels pass place major.Negative n rest = Ok (tt, rest)
pass_sized checked total levels pass place major.Bytes n rest = pass_content checked place major.Bytes n rest
pass_sized checked total levels pass place major.Text n rest = pass_content checked place major.Text n rest
pass_sized checked total levels pass place major.Array n rest = row_at (pass_step pass) n tt rest
pass_sized checked total levels pass place major.Map n rest = pass_pairs checked total levels pass n rest
pass_sized checked total levels pass place major.Tag n rest = pass rest

abbrev pub pass_open : Bool → ℕ → ℕ → (List ℕ → Read (Unit {0})) → ℕ → Major → List ℕ → Read (Unit {0})
pass_open checked total levels pass place major.Bytes rest = open_at (pass_chunk total major.Bytes) total (length rest) tt rest
pass_open checked total levels pass place major.Text rest = open_at (pass_chunk total major.Text) total (length rest) tt rest
pass_open checked total levels pass place major.Array rest = open_at (pass_step pass) total (length rest) tt rest
pass_open checked total levels pass place major.Map rest = pass_open_pairs checked total levels pass rest
pass_open checked total levels pass place _ rest = Err (fault.Malformed place)

abbrev pub pass_in : Bool → ℕ → ℕ → (List ℕ → Read (Unit {0})) → ℕ → Head → List ℕ → Read (Unit {0})
pass_in checked total levels pass place (heads.Sized m s n) rest = pass_sized checked total levels pass place m n rest
pass_in checked total levels pass place (heads.Open m) rest = pass_open checked total levels pass place m rest
pass_in checked total levels pass place (heads.Simple n) rest = Ok (tt, rest)
pass_in checked total levels pass place heads.Float rest = Err (fault.Float place)
pass_in checked total levels pass place heads.Break rest = Err (fault.Malformed place)
pass_in checked total levels pass place heads.Reserved rest = Err (fault.Malformed place)

unfoldable pub pass_at : Bool → ℕ → ℕ → List ℕ → Read (Unit {0})
pass_at checked total zero bytes = do
  h ← head_at (total - length bytes) bytes
  x ← buried_in (total - length bytes) h.0 h.1
  Ok (tt, x.1)
pass_at checked total (suc levels) bytes = do
  h ← head_at (total - length bytes) bytes
  pass_in checked total levels (pass_at checked total levels) (total - length bytes) h.0 h.1

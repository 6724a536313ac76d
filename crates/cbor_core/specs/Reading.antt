-- Reading data items from left to right, up to the first fault (RFC 8949, section 3 and appendix C). A place is an
-- offset in the whole input, whose length is `total`: what begins at some bytes stands at `total - length bytes`.
use Rattle.std.specs.Prelude.{◌≡◌, ℕ, zero, suc, ◌-◌, List, [], ◌∷◌, ◌++◌, length, map, take, drop, ◌^◌, Bool, true, false, not, ◌&&◌, nat_lt, nat_le, ◌==◌, if◌then◌else◌, Result, Ok, Err}
use Rattle.std.specs.List.{list_any}
use Rattle.std.specs.Int.{Width, w8, w16, w32, w64, byte_len, from_be_bytes}
use Rattle.std.specs.Ordering.{is_eq, is_lt, nat_cmp}
use Rattle.std.specs.Cmp.Lexicographic.{slice_cmp}
use Rattle.std.specs.Str.{is_utf8}
use Rattle.cbor_core.specs.declared.fault.CborFault.{CborFault}
use Rattle.cbor_core.specs.declared.fault.CborFault.TheVariants as fault
use Rattle.cbor_core.specs.declared.head.Major.{Major}
use Rattle.cbor_core.specs.declared.head.Major.TheVariants as major
use Rattle.cbor_core.specs.declared.head.Size.{Size}
use Rattle.cbor_core.specs.declared.head.Size.TheVariants as size
use Rattle.cbor_core.specs.declared.head.Head.{Head}
use Rattle.cbor_core.specs.declared.head.Head.TheVariants as heads
use Rattle.cbor_core.specs.declared.item.Item.{Item}
use Rattle.cbor_core.specs.declared.item.Item.TheVariants as items
use Rattle.cbor_core.specs.Head.{major_of, size_of, low_of, high_of}
use Rattle.cbor_core.specs.Deterministic.{det}

-- a value and the bytes after it, or the first fault
abbrev pub Read : Type 0 → Type 0
Read A = Result (A × List ℕ) CborFault

infixl 10 ◌>>=◌
abbrev pub ◌>>=◌ : {A B : Type 0} → Result A CborFault → (A → Result B CborFault) → Result B CborFault
(Ok x) >>= f = f x
(Err e) >>= f = Err e

-- what a function returned, seen by `view`, is what reading gives, unless memory ran out
abbrev pub Fails : {Y : Type 0} → CborFault → Result Y CborFault → Type 0
Fails fault.NoMemory read = Unit {0}
Fails f read = read ≡ Err f

abbrev pub Gives : {X Y : Type 0} → (X → Y) → Result X CborFault → Result Y CborFault → Type 0
Gives view (Ok x) read = read ≡ Ok (view x)
Gives view (Err e) read = Fails e read

-- ---- heads

abbrev pub number_at : ℕ → Width → List ℕ → Read ℕ
number_at place w bytes =
    if nat_lt (length bytes) (byte_len w) then Err (fault.Truncated place)
    else Ok (from_be_bytes w (take (byte_len w) bytes), drop (byte_len w) bytes)

-- major types 0 to 6
unfoldable pub argument_at : ℕ → Major → Size → ℕ → List ℕ → Read Head
argument_at place m size.Inside low rest = Ok (heads.Sized m true low, rest)
argument_at place m size.One low rest = number_at place w8 rest >>= λ n. Ok (heads.Sized m (nat_le 24 n.0) n.0, n.1)
argument_at place m size.Two low rest = number_at place w16 rest >>= λ n. Ok (heads.Sized m (nat_le (2 ^ 8) n.0) n.0, n.1)
argument_at place m size.Four low rest = number_at place w32 rest >>= λ n. Ok (heads.Sized m (nat_le (2 ^ 16) n.0) n.0, n.1)
argument_at place m size.Eight low rest = number_at place w64 rest >>= λ n. Ok (heads.Sized m (nat_le (2 ^ 32) n.0) n.0, n.1)
argument_at place m size.Reserved low rest = Ok (heads.Reserved, rest)
argument_at place m size.Indefinite low rest = Ok (heads.Open m, rest)

-- major type 7 (section 3.3)
unfoldable pub other_at : ℕ → Size → ℕ → List ℕ → Read Head
other_at place size.Inside low rest = Ok (heads.Simple low, rest)
other_at place size.One low rest = number_at place w8 rest >>= λ n. Ok (if nat_lt n.0 32 then heads.Reserved else heads.Simple n.0, n.1)
other_at place size.Two low rest = number_at place w16 rest >>= λ n. Ok (heads.Float, n.1)
other_at place size.Four low rest = number_at place w32 rest >>= λ n. Ok (heads.Float, n.1)
other_at place size.Eight low rest = number_at place w64 rest >>= λ n. Ok (heads.Float, n.1)
other_at place size.Reserved low rest = Ok (heads.Reserved, rest)
other_at place size.Indefinite low rest = Ok (heads.Break, rest)

unfoldable pub head_at : ℕ → List ℕ → Read Head
head_at place [] = Err (fault.Truncated place)
head_at place (first ∷ rest) =
    if high_of first == 7 then other_at place (size_of (low_of first)) (low_of first) rest
    else argument_at place (major_of (high_of first)) (size_of (low_of first)) (low_of first) rest

-- ---- strings

abbrev pub is_content : Major → List ℕ → Bool
is_content major.Text bytes = is_utf8 bytes
is_content _ bytes = true

-- the content of a string of n bytes
abbrev pub content_at : ℕ → Major → ℕ → List ℕ → Read (List ℕ)
content_at place m n rest =
    if nat_lt (length rest) n then Err (fault.Truncated place)
    else if is_content m (take n rest) then Ok (take n rest, drop n rest)
    else Err (fault.Malformed place)

-- a definite string where a chunk of another type must stand
abbrev pub foreign_at : {A : Type 0} → ℕ → ℕ → List ℕ → Read A
foreign_at place n rest = if nat_lt (length rest) n then Err (fault.Truncated place) else Err (fault.Malformed place)

-- a chunk of an indefinite string (section 3.2.3)
abbrev pub chunk_in : ℕ → Major → Head → List ℕ → Read (List ℕ)
chunk_in place major.Bytes (heads.Sized major.Bytes s n) rest = content_at place major.Bytes n rest
chunk_in place major.Bytes (heads.Sized major.Text s n) rest = foreign_at place n rest
chunk_in place major.Text (heads.Sized major.Text s n) rest = content_at place major.Text n rest
chunk_in place major.Text (heads.Sized major.Bytes s n) rest = foreign_at place n rest
chunk_in place _ _ rest = Err (fault.Malformed place)

-- one more chunk behind those read before
unfoldable pub chunk_step : ℕ → Major → List ℕ → List ℕ → Read (List ℕ)
chunk_step total m front bytes = do
  h ← head_at (total - length bytes) bytes
  c ← chunk_in (total - length bytes) m h.0 h.1
  Ok (front ++ c.0, c.1)

-- ---- rows: n times a step, or steps up to a break

abbrev pub breaks : List ℕ → Bool
breaks [] = false
breaks (first ∷ rest) = first == 255

module _ {B : Type 0} (step : B → List ℕ → Read B) where
  unfoldable pub row_at : ℕ → B → List ℕ → Read B
  row_at zero front bytes = Ok (front, bytes)
  row_at (suc n) front bytes = step front bytes >>= λ x. row_at n x.0 x.1

  -- each step takes a byte, so there are no more turns than bytes
  unfoldable pub open_at : ℕ → ℕ → B → List ℕ → Read B
  open_at total zero front bytes = Err (fault.Truncated total)
  open_at total (suc turns) front bytes =
      if breaks bytes then Ok (front, drop 1 bytes)
      else step front bytes >>= λ x. open_at total turns x.0 x.1

-- ---- items, where `read` reads an item one level deeper

abbrev pub item_step : (List ℕ → Read Item) → List Item → List ℕ → Read (List Item)
item_step read front bytes = read bytes >>= λ x. Ok (front ++ x.0 ∷ [], x.1)

-- the deterministic spellings of the keys of pairs
abbrev pub key_spellings : List (Item × Item) → List (List ℕ)
key_spellings pairs = map (λ p. det p.0) pairs

-- whether a spelling is one of some, and whether it is below one of them in the bytewise lexicographic order
abbrev pub is_among : List (List ℕ) → List ℕ → Bool
is_among keys key = list_any (λ k. is_eq (slice_cmp nat_cmp key k)) keys

abbrev pub is_below_one : List (List ℕ) → List ℕ → Bool
is_below_one keys key = list_any (λ k. is_lt (slice_cmp nat_cmp key k)) keys

-- a key against the keys before it (sections 5.6 and 4.2.1)
abbrev pub admitted : Bool → ℕ → List (List ℕ) → List ℕ → Result (Unit {0}) CborFault
admitted strict place keys key =
    if is_among keys key then Err (fault.Duplicate place)
    else if strict && is_below_one keys key then Err (fault.NotDeterministic place)
    else Ok tt

unfoldable pub pair_step : Bool → ℕ → (List ℕ → Read Item) → List (Item × Item) → List ℕ → Read (List (Item × Item))
pair_step strict total read front bytes = do
  key ← read bytes
  fresh ← admitted strict (total - length bytes) (key_spellings front) (det key.0)
  value ← read key.1
  Ok (front ++ (key.0, value.0) ∷ [], value.1)

-- where the spelling is to be deterministic, arguments are shortest and lengths definite (section 4.2.1)
abbrev pub demanded : Bool → Bool → ℕ → Result (Unit {0}) CborFault
demanded strict deterministic place = if strict && not deterministic then Err (fault.NotDeterministic place) else Ok tt

abbrev pub sized_in : Bool → ℕ → (List ℕ → Read Item) → ℕ → Major → ℕ → Bool → List ℕ → Read Item
sized_in strict total read place major.Unsigned n s rest = do
  fine ← demanded strict s place
  Ok (items.Uint n, rest)
sized_in strict total read place major.Negative n s rest = do
  fine ← demanded strict s place
  Ok (items.Nint n, rest)
sized_in strict total read place major.Bytes n s rest = do
  content ← content_at place major.Bytes n rest
  fine ← demanded strict s place
  Ok (items.Bytes content.0, content.1)
sized_in strict total read place major.Text n s rest = do
  content ← content_at place major.Text n rest
  fine ← demanded strict s place
  Ok (items.Text content.0, content.1)
sized_in strict total read place major.Array n s rest = do
  fine ← demanded strict s place
  xs ← row_at (item_step read) n [] rest
  Ok (items.Array xs.0, xs.1)
sized_in strict total read place major.Map n s rest = do
  fine ← demanded strict s place
  ps ← row_at (pair_step strict total read) n [] rest
  Ok (items.Map ps.0, ps.1)
sized_in strict total read place major.Tag n s rest = do
  fine ← demanded strict s place
  x ← read rest
  Ok (items.Tag n x.0, x.1)

-- indefinite lengths (section 3.2)
abbrev pub open_in : Bool → ℕ → (List ℕ → Read Item) → ℕ → Major → List ℕ → Read Item
open_in strict total read place major.Bytes rest = do
  fine ← demanded strict false place
  content ← open_at (chunk_step total major.Bytes) total (length rest) [] rest
  Ok (items.Bytes content.0, content.1)
open_in strict total read place major.Text rest = do
  fine ← demanded strict false place
  content ← open_at (chunk_step total major.Text) total (length rest) [] rest
  Ok (items.Text content.0, content.1)
open_in strict total read place major.Array rest = do
  fine ← demanded strict false place
  xs ← open_at (item_step read) total (length rest) [] rest
  Ok (items.Array xs.0, xs.1)
open_in strict total read place major.Map rest = do
  fine ← demanded strict false place
  ps ← open_at (pair_step strict total read) total (length rest) [] rest
  Ok (items.Map ps.0, ps.1)
open_in strict total read place _ rest = Err (fault.Malformed place)

abbrev pub item_in : Bool → ℕ → (List ℕ → Read Item) → ℕ → Head → List ℕ → Read Item
item_in strict total read place (heads.Sized m s n) rest = sized_in strict total read place m n s rest
item_in strict total read place (heads.Open m) rest = open_in strict total read place m rest
item_in strict total read place (heads.Simple n) rest = Ok (items.Simple n, rest)
item_in strict total read place heads.Float rest = Err (fault.Float place)
item_in strict total read place heads.Break rest = Err (fault.Malformed place)
item_in strict total read place heads.Reserved rest = Err (fault.Malformed place)

-- a head below the deepest level: its own faults come first
abbrev pub buried_sized : ℕ → Major → ℕ → List ℕ → Read Item
buried_sized place major.Bytes n rest = content_at place major.Bytes n rest >>= λ c. Err (fault.TooDeep place)
buried_sized place major.Text n rest = content_at place major.Text n rest >>= λ c. Err (fault.TooDeep place)
buried_sized place _ n rest = Err (fault.TooDeep place)

abbrev pub buried_open : ℕ → Major → Read Item
buried_open place major.Bytes = Err (fault.TooDeep place)
buried_open place major.Text = Err (fault.TooDeep place)
buried_open place major.Array = Err (fault.TooDeep place)
buried_open place major.Map = Err (fault.TooDeep place)
buried_open place _ = Err (fault.Malformed place)

abbrev pub buried_in : ℕ → Head → List ℕ → Read Item
buried_in place (heads.Sized m s n) rest = buried_sized place m n rest
buried_in place (heads.Open m) rest = buried_open place m
buried_in place (heads.Simple n) rest = Err (fault.TooDeep place)
buried_in place heads.Float rest = Err (fault.Float place)
buried_in place heads.Break rest = Err (fault.Malformed place)
buried_in place heads.Reserved rest = Err (fault.Malformed place)

-- an item with so many levels left
unfoldable pub item_at : Bool → ℕ → ℕ → List ℕ → Read Item
item_at strict total zero bytes = do
  h ← head_at (total - length bytes) bytes
  buried_in (total - length bytes) h.0 h.1
item_at strict total (suc levels) bytes = do
  h ← head_at (total - length bytes) bytes
  item_in strict total (item_at strict total levels) (total - length bytes) h.0 h.1

-- the item at the front of an input, at depth 1 of at most 16, and how many bytes it takes
abbrev pub first_item : Bool → List ℕ → Result (Item × ℕ) CborFault
first_item strict bytes = do
  x ← item_at strict (length bytes) 16 bytes
  Ok (x.0, length bytes - length x.1)

-- How pairs are cut into the lists of messages: each list is the longest front of the pairs left that has room.
use Rattle.std.specs.Prelude.{◌≡◌, ◌≢◌, ◌≤◌, ℕ, List, [], ◌∷◌, ◌++◌, length, take, nat_lt, position, Bool, Option, option_map}
use Rattle.service_info.specs.declared.info_fault.InfoFault.{InfoFault}
use Rattle.service_info.specs.declared.info_fault.InfoFault.TheVariants as fault
use Rattle.service_info.specs.declared.pair.Pair.{Pair}
use Rattle.service_info.specs.Pairs.{Fits, length_of}

-- pairs that are still to be sent in messages of a size
pub record Parcel : Type 0 where
  pub left : List Pair
  pub size : ℕ

-- a list is the longest front of the pairs that has room in a message, and the rest is left
pub record IsLongestFront (size : ℕ) (pairs list rest : List Pair) : Type 0 where
  pub whole : pairs ≡ list ++ rest
  pub fits : Fits size list
  pub longest : (n : ℕ) → n ≤ length pairs → Fits size (take n pairs) → n ≤ length list

-- the same, but no pairs make one empty list
abbrev pub IsCut : ℕ → List Pair → List Pair → List Pair → Type 0
IsCut size [] list rest = (list ≡ []) × (rest ≡ [])
IsCut size (pair ∷ pairs) list rest = IsLongestFront size (pair ∷ pairs) list rest

-- pairs are cut into a list and some more after it; nothing is left after the last one, and something after each other
abbrev pub PackedFrom : ℕ → List Pair → List Pair → List (List Pair) → Type 0
PackedFrom size pairs list [] = IsCut size pairs list []
PackedFrom size pairs list (next ∷ lists) = (rest : List Pair) × (rest ≢ []) × IsCut size pairs list rest × PackedFrom size rest next lists

-- pairs are cut into these lists, one at least
abbrev pub Packed : ℕ → List Pair → List (List Pair) → Type 0
Packed size pairs [] = ⊥
Packed size pairs (list ∷ lists) = PackedFrom size pairs list lists

-- a list is the first of those that pairs are cut into, whatever those after it are
pub record BeginsPacked (parcel : Parcel) (list : List Pair) (rest : Parcel) : Type 0 where
  pub last : rest.left ≡ [] → Packed parcel.size parcel.left (list ∷ [])
  pub others : rest.left ≢ [] → (lists : List (List Pair)) → Packed rest.size rest.left lists → Packed parcel.size parcel.left (list ∷ lists)

-- a pair has no room in a message though it stands there alone
abbrev pub is_too_wide : ℕ → Pair → Bool
is_too_wide size pair = nat_lt size (length_of (pair ∷ []))

-- the first of these among some
abbrev pub too_wide : ℕ → List Pair → Option InfoFault
too_wide size pairs = option_map fault.TooWide (position (is_too_wide size) pairs)

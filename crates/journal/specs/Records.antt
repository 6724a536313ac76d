-- Records one behind another. In a record stand a gate, a byte that is 1 where it is open, the length of the body in 4 bytes,
-- most significant first, and the body; the next record's gate follows.
use Rattle.std.specs.Prelude.{ℕ, zero, suc, ◌+◌, ◌==◌, ◌&&◌, nat_lt, List, [], ◌∷◌, ◌++◌, length, take, drop, Bool, false, if◌then◌else◌, Option, Some, None}
use Rattle.byteorder.specs.Endian.{big_number, big_bytes}

-- the body of the record at the front of some bytes, where it is open, and what stands from the next gate on: its gate is 1,
-- and all of it and the next gate stand there
unfoldable pub record_at : List ℕ → Option (List ℕ × List ℕ)
record_at [] = None
record_at (gate ∷ rest) =
    if (gate == 1) && nat_lt (4 + big_number 4 rest) (length rest)
    then Some (take (big_number 4 rest) (drop 4 rest), drop (4 + big_number 4 rest) rest)
    else None

-- a gate that is 1
abbrev pub is_one : List ℕ → Bool
is_one [] = false
is_one (gate ∷ rest) = gate == 1

-- the bodies of open records, the offset of the first gate behind them, and whether that gate is 1 though its record is not open
pub record Walk : Type 0 where
  pub bodies : List (List ℕ)
  pub place : ℕ
  pub one : Bool

abbrev pub with_first : List ℕ → Walk → Walk
with_first body walk = record walk { bodies = body ∷ walk.bodies }

abbrev pub ended : ℕ → List ℕ → Walk
ended place bytes = record { bodies = []; place = place; one = is_one bytes }

abbrev pub walk_on : (ℕ → List ℕ → Walk) → ℕ → List ℕ → Option (List ℕ × List ℕ) → Walk
walk_on later place bytes None = ended place bytes
walk_on later place bytes (Some r) = with_first r.0 (later (place + (5 + length r.0)) r.1)

-- the open records from a gate on, which stands at a place in the file, up to the first that is not open; at most n of them
abbrev pub walk : ℕ → ℕ → List ℕ → Walk
walk zero place bytes = ended place bytes
walk (suc n) place bytes = walk_on (λ p x. walk n p x) place bytes (record_at bytes)

-- what stands behind the gate of a record with a body, up to the next gate, which is closed
unfoldable pub framed : List ℕ → List ℕ
framed body = big_bytes 4 (length body) ++ (body ++ 0 ∷ [])

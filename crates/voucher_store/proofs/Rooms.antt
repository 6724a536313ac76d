-- Room for the records that make candidates bases, and lengths.
use Rattle.std.proofs.Common.{◌≡◌, ℕ, ◌+◌, ◌*◌, ◌≤◌, ◌<◌, ◌^◌, false, nat_lt, ap, arith}
use Rattle.std.proofs.lemmas.Bool.Decides.{nat_tests}

-- no place is that far
pub room_over : (at rest total end : ℕ) → at + 24 * (1 + rest) ≡ total → 2 ^ 64 ≤ at + 24 → end < 2 ^ 64 → false ≡ nat_lt total end
room_over at rest total end is over small = grind (arith, nat_tests)

pub room_ends : (at total end : ℕ) → at + 24 * 0 ≡ total → nat_lt at end ≡ nat_lt total end
room_ends at total end is = ap (λ n. nat_lt n end) (omega (arith, is))

-- Going over the items of a voucher by their levels.
use Rattle.std.proofs.Common.{◌≡◌, ℕ, zero, suc, ◌-◌, List, [], ◌∷◌, Option, Some, None, refl, ap, arith}
use Rattle.cbor_core.specs.Spots.{Spot, Standing, spot_parts, first_of}
use Rattle.voucher_chain.specs.Deep.{deep_place}
use Rattle.voucher_chain.specs.Fault.{or_else}

pub deep_none : (levels : ℕ) → deep_place levels [] ≡ None
unfolding deep_place
deep_none zero = refl
deep_none (suc levels) = refl

pub deep_more : (levels : ℕ) (s : Spot) (ss : List Spot) → (levels ≡ 0 → ⊥) → deep_place levels (s ∷ ss) ≡ or_else (deep_place (levels - 1) (spot_parts s)) (deep_place levels ss)
unfolding deep_place
deep_more zero s ss some = absurd (some refl)
deep_more (suc levels) s ss some = ap (λ k. or_else (deep_place k (spot_parts s)) (deep_place (suc levels) ss)) (omega arith)

abbrev pub at_first : Option Standing → Option ℕ
at_first None = None
at_first (Some p) = Some p.spot.at

pub deep_at_zero : (ss : List Spot) → deep_place 0 ss ≡ at_first (first_of ss)
unfolding deep_place
deep_at_zero [] = refl
deep_at_zero (s ∷ ss) = refl

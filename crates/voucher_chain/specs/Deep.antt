-- How deep items may stand in a voucher: at most 15 levels, the voucher itself being the first, so that a voucher has room
-- one level inside another item. What stands inside byte strings is not counted.
use Rattle.std.specs.Prelude.{ℕ, zero, suc, List, [], ◌∷◌, Option, Some, None}
use Rattle.cbor_core.specs.Shapes.{tagged_at, four_spots}
use Rattle.cbor_core.specs.Spots.{Spot, spot_parts}
use Rattle.voucher_chain.specs.Fault.{or_else}

-- the first of some items and of those inside them that has no level left
unfoldable pub deep_place : ℕ → List Spot → Option ℕ
deep_place zero [] = None
deep_place zero (s ∷ ss) = Some s.at
deep_place (suc levels) [] = None
deep_place (suc levels) (s ∷ ss) = or_else (deep_place levels (spot_parts s)) (deep_place (suc levels) ss)

abbrev pub header_deep : ℕ → Option (Spot × Spot × Spot × Spot) → Option ℕ
header_deep levels None = None
header_deep levels (Some parts) = deep_place levels (spot_parts parts.1)

abbrev pub content_deep : ℕ → Spot → Option ℕ
content_deep levels s = header_deep levels (four_spots s)

-- the parts of an entry stand at the fourth level, or at the fifth where the entry has its tag
abbrev pub tagged_deep : Spot → Option Spot → Option ℕ
tagged_deep s None = content_deep 11 s
tagged_deep s (Some content) = content_deep 10 content

-- the first item too deep in the unprotected header of an entry of a voucher, the only part that may hold any item
unfoldable pub deep_entry : Spot → Option ℕ
deep_entry s = tagged_deep s (tagged_at 18 s)

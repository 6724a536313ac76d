-- Where the first part stands that is not of its form, in an item that is no envelope: the offset of its head. A fault
-- inside a byte string has the offset of that string's head.
use Rattle.std.specs.Prelude.{ℕ, pos, Bool, Option, Some, None, is_some, if◌then◌else◌}
use Rattle.cbor_core.specs.declared.item.Item.{out-Item}
use Rattle.cbor_core.specs.Shapes.{is_bytes, is_map, three_spots, four_spots, labelled_at, tagged_at}
use Rattle.cbor_core.specs.Spots.{Spot, spot_item}
use Rattle.cose_envelopes.specs.Envelope.{header_in, iv_in}

abbrev pub spot_or : Spot → Option Spot → Spot
spot_or s None = s
spot_or s (Some content) = content

abbrev pub content_at : ℕ → Spot → Spot
content_at tag s = spot_or s (tagged_at tag s)

-- a byte string that holds a protected header
abbrev pub is_protected : Spot → Bool
is_protected s = is_some (header_in (spot_item s))

-- ---- Sign1 and Mac0

abbrev pub four_place : ℕ → Option (Spot × Spot × Spot × Spot) → ℕ
four_place at None = at
four_place at (Some parts) =
    if is_protected parts.0 then
    if is_map (out-Item (spot_item parts.1)) then
    if is_bytes (out-Item (spot_item parts.2)) then parts.3.at
    else parts.2.at
    else parts.1.at
    else parts.0.at

abbrev pub content_place : Spot → ℕ
content_place s = four_place s.at (four_spots s)

unfoldable pub sign1_place : Spot → ℕ
sign1_place s = content_place (content_at 18 s)

unfoldable pub mac0_place : Spot → ℕ
mac0_place s = content_place (content_at 17 s)

-- ---- Encrypt0

-- an unprotected header without an initialization vector of 12 bytes: a map that lacks the label, and what is no map, is at
-- fault itself, and a value that is not of the form has its own place
abbrev pub iv_place : Spot → ℕ
iv_place s = (spot_or s (labelled_at (pos 5) s)).at

abbrev pub three_place : ℕ → Option (Spot × Spot × Spot) → ℕ
three_place at None = at
three_place at (Some parts) =
    if is_protected parts.0 then
    if is_some (iv_in (spot_item parts.1)) then parts.2.at
    else iv_place parts.1
    else parts.0.at

abbrev pub sealed_place : Spot → ℕ
sealed_place s = three_place s.at (three_spots s)

unfoldable pub encrypt0_place : Spot → ℕ
encrypt0_place s = sealed_place (content_at 16 s)

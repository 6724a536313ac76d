-- TO0.OwnerSign (FIDO Device Onboard 1.1, section 5.3.3): an array of the bytes of to0d and of to1d, where to0d is an
-- array of the voucher, the seconds and NonceTO0Sign.
use Rattle.std.specs.Prelude.{ℕ, List, [], ◌∷◌, Bool, is_some, Option, Some, None, if◌then◌else◌}
use Rattle.cbor_core.specs.declared.item.Item.{out-Item}
use Rattle.cbor_core.specs.declared.item.Item.TheVariants as items
use Rattle.cbor_core.specs.Deterministic.{det}
use Rattle.cbor_core.specs.Shapes.{two_spots, three_spots}
use Rattle.cbor_core.specs.Spots.{Spot, spot_item, spot_raw, bytes_in}
use Rattle.voucher_chain.specs.declared.voucher.Voucher.{Voucher}
use Rattle.voucher_chain.specs.Fault.{◌>>=◌}
use Rattle.voucher_chain.specs.Header.{guid_in as sixteen_in}
use Rattle.fdo_msgs.specs.declared.msg.Msg.{Msg}
use Rattle.fdo_msgs.specs.declared.msg.Msg.TheVariants as msg
use Rattle.fdo_msgs.specs.Row.{inside}
use Rattle.fdo_msgs.specs.Signed.{redirect_place}
use Rattle.fdo_msgs.specs.To1d.{to1d_seen}
use Rattle.fdo_msgs.specs.Value.{u32_in, voucher_in, row_text}

abbrev pub to0d_of : Spot × Spot × Spot → Option (Voucher × ℕ × List ℕ)
to0d_of p = voucher_in (spot_raw p.0) >>= λ voucher. u32_in (spot_item p.1) >>= λ wait. sixteen_in (spot_item p.2) >>= λ nonce. Some (voucher, wait, nonce)

abbrev pub to0d : Spot → Option (Voucher × ℕ × List ℕ)
to0d s = three_spots s >>= to0d_of

-- the voucher, the seconds and the nonce that the bytes of to0d spell, to their end
unfoldable pub to0d_in : List ℕ → Option (Voucher × ℕ × List ℕ)
to0d_in bytes = inside bytes >>= to0d

-- ---- reading

abbrev pub owner_sign_of : Spot × Spot → Option Msg
owner_sign_of parts =
    bytes_in (out-Item (spot_item parts.0)) >>= λ to0d. to0d_in to0d >>= λ said. to1d_seen parts.1 >>= λ to1d.
    Some (msg.OwnerSign to0d said.0 said.1 said.2 to1d)

unfoldable pub owner_sign_seen : Spot → Option Msg
owner_sign_seen s = two_spots s >>= owner_sign_of

-- ---- where it is at fault

-- a byte string that holds a to0d
abbrev pub is_to0d : Spot → Bool
is_to0d s = is_some (bytes_in (out-Item (spot_item s)) >>= to0d_in)

abbrev pub owner_sign_parts_place : ℕ → Option (Spot × Spot) → ℕ
owner_sign_parts_place at None = at
owner_sign_parts_place at (Some parts) = if is_to0d parts.0 then redirect_place parts.1 else parts.0.at

unfoldable pub owner_sign_place : Spot → ℕ
owner_sign_place s = owner_sign_parts_place s.at (two_spots s)

-- ---- writing

abbrev pub to0d_text : List ℕ → ℕ → List ℕ → List ℕ
to0d_text voucher wait nonce = row_text (voucher ∷ det (items.Uint wait) ∷ det (items.Bytes nonce) ∷ [])

abbrev pub owner_sign_text : List ℕ → List ℕ → List ℕ
owner_sign_text to0d to1d = row_text (det (items.Bytes to0d) ∷ to1d ∷ [])

-- Snapshots: an array of the version's number, the array of entries in the order kept, and the text "journal". In version 2 an
-- entry is [0, kind, base, candidate or null] or [1, kind, sent voucher], where the kind is that of the first voucher's HMAC, and
-- vouchers stand in byte strings. Version 1 has no kinds.
use Rattle.std.specs.Prelude.{ℕ, ℤ, pos, List, [], ◌∷◌, ◌++◌, length, Bool, true, false, ◌&&◌, ◌||◌, not, nat_lt, if◌then◌else◌, Option, Some, None, Result, Ok, Err}
use Rattle.std.specs.Str.{bytes_eq}
use Rattle.cbor_core.specs.declared.item.Item.{out-Item}
use Rattle.cbor_core.specs.Numbers.{integer_in}
use Rattle.cbor_core.specs.Shapes.{is_array, is_number, two_spots, three_spots, four_spots}
use Rattle.cbor_core.specs.Spots.{Spot, spot_item, spot_parts, text_in}
use Rattle.voucher_chain.specs.declared.voucher.Voucher.{Voucher}
use Rattle.voucher_map.specs.Map.{is_kept, voucher_of, candidate_in, guid_of}
use Rattle.voucher_map.specs.declared.kept.Kept.{Kept}
use Rattle.voucher_map.specs.declared.kept.Kept.TheVariants as kept
use Rattle.voucher_store.specs.Read.{◌>>=◌}
use Rattle.voucher_store.specs.Parts.{voucher_inside, candidate_inside}

-- a part is this number
abbrev pub is_at : ℤ → Spot → Bool
is_at n s = is_number n (integer_in (spot_item s))

-- ---- an entry

-- where its parts stand: the kind, in version 2, the base or what was sent, and a base's candidate
pub record EntrySpots : Type 0 where
  pub kind : Option Spot
  pub first : Spot
  pub candidate : Option Spot

abbrev pub numbered : ℤ → Spot → EntrySpots → Result EntrySpots ℕ
numbered n s parts = if is_at n s then Ok parts else Err s.at

abbrev pub held_spots : Option Spot → Spot → Spot → EntrySpots
held_spots kind base candidate = record { kind = kind; first = base; candidate = Some candidate }

abbrev pub sent_spots : Option Spot → Spot → EntrySpots
sent_spots kind voucher = record { kind = kind; first = voucher; candidate = None }

-- in version 1
abbrev pub first_spots_by : ℕ → Option (Spot × Spot × Spot) → Option (Spot × Spot) → Result EntrySpots ℕ
first_spots_by at (Some (n, base, candidate)) two = numbered (pos 0) n (held_spots None base candidate)
first_spots_by at None (Some (n, voucher)) = numbered (pos 1) n (sent_spots None voucher)
first_spots_by at None None = Err at

-- in version 2
abbrev pub second_spots_by : ℕ → Option (Spot × Spot × Spot × Spot) → Option (Spot × Spot × Spot) → Result EntrySpots ℕ
second_spots_by at (Some (n, kind, base, candidate)) three = numbered (pos 0) n (held_spots (Some kind) base candidate)
second_spots_by at None (Some (n, kind, voucher)) = numbered (pos 1) n (sent_spots (Some kind) voucher)
second_spots_by at None None = Err at

abbrev pub entry_spots : Bool → Spot → Result EntrySpots ℕ
entry_spots old s = if old then first_spots_by s.at (three_spots s) (two_spots s) else second_spots_by s.at (four_spots s) (three_spots s)

-- a kind is that of HMAC-SHA-256 (5) or HMAC-SHA-384 (6)
abbrev pub is_kind : Option Spot → Bool
is_kind None = true
is_kind (Some s) = is_at (pos 5) s || is_at (pos 6) s

-- and that of the voucher's HMAC
abbrev pub is_kind_of : Voucher → Option Spot → Bool
is_kind_of voucher None = true
is_kind_of voucher (Some s) = is_at voucher.hmac.kind s

abbrev pub kind_place : EntrySpots → ℕ
kind_place parts = place_in parts.kind
  where
    place_in : Option Spot → ℕ
    place_in (Some s) = s.at
    place_in None = parts.first.at

abbrev pub kept_with : Voucher → Option Spot → Result Kept ℕ
kept_with voucher None = Ok (kept.Sent voucher)
kept_with voucher (Some s) = candidate_inside s >>= λ candidate. Ok (kept.Held voucher candidate)

abbrev pub kept_by : EntrySpots → Voucher → Result Kept ℕ
kept_by parts voucher = if is_kind_of voucher parts.kind then kept_with voucher parts.candidate else Err (kind_place parts)

abbrev pub entry_by : EntrySpots → Result Kept ℕ
entry_by parts = if is_kind parts.kind then voucher_inside parts.first >>= kept_by parts else Err (kind_place parts)

unfoldable pub entry_at : Bool → Spot → Result Kept ℕ
entry_at old s = entry_spots old s >>= entry_by

-- ---- the entries

-- a GUID that some entries don't have, nor this voucher
abbrev pub is_new_candidate : List Kept → Voucher → Option Voucher → Bool
is_new_candidate entries base None = true
is_new_candidate entries base (Some candidate) = not (is_kept (guid_of candidate) entries) && not (bytes_eq (guid_of base) (guid_of candidate))

-- no GUID of an entry is that of another one's, and it has no GUID twice
abbrev pub is_new : List Kept → Kept → Bool
is_new entries e = not (is_kept (guid_of (voucher_of e)) entries) && is_new_candidate entries (voucher_of e) (candidate_in e)

abbrev pub with_new : ℕ → List Kept → Kept → Result (List Kept) ℕ
with_new at entries e = if is_new entries e then Ok (entries ++ e ∷ []) else Err at

-- one more, of at most 4,096
unfoldable pub one_more : Bool → List Kept → Spot → Result (List Kept) ℕ
one_more old entries s = if nat_lt (length entries) 4096 then entry_at old s >>= with_new s.at entries else Err s.at

abbrev pub entries_from : Bool → List Kept → List Spot → Result (List Kept) ℕ
entries_from old entries [] = Ok entries
entries_from old entries (s ∷ ss) = one_more old entries s >>= λ more. entries_from old more ss

abbrev pub entries_at : Bool → Spot → Result (List Kept) ℕ
entries_at old s = if is_array (out-Item (spot_item s)) then entries_from old [] (spot_parts s) else Err s.at

-- ---- the snapshot

-- "journal"
abbrev pub is_word : Option (List ℕ) → Bool
is_word (Some t) = bytes_eq t (106 ∷ 111 ∷ 117 ∷ 114 ∷ 110 ∷ 97 ∷ 108 ∷ [])
is_word None = false

abbrev pub ended_by : Spot → List Kept → Result (List Kept) ℕ
ended_by word entries = if is_word (text_in (out-Item (spot_item word))) then Ok entries else Err word.at

abbrev pub snapshot_by : ℕ → Option (Spot × Spot × Spot) → Result (List Kept) ℕ
snapshot_by at None = Err at
snapshot_by at (Some (version, entries, word)) =
    if is_at (pos 1) version || is_at (pos 2) version then entries_at (is_at (pos 1) version) entries >>= ended_by word else Err version.at

unfoldable pub snapshot_at : Spot → Result (List Kept) ℕ
snapshot_at s = snapshot_by s.at (three_spots s)

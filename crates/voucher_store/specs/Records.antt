-- Records: each is an array that says one change: [0, voucher], [1, base's GUID, candidate], [2, base's GUID] or [3, GUID, sent
-- voucher], where vouchers stand in byte strings.
use Rattle.std.specs.Prelude.{◌≡◌, ℕ, ◌+◌, pos, List, [], ◌∷◌, length, Bool, true, false, ◌&&◌, not, nat_le, if◌then◌else◌, Option, Some, None, Result, Ok, Err}
use Rattle.cbor_core.specs.Shapes.{two_spots, three_spots}
use Rattle.cbor_core.specs.Spots.{Spot}
use Rattle.voucher_chain.specs.declared.voucher.Voucher.{Voucher}
use Rattle.voucher_map.specs.Map.{is_kept, is_guid, is_candidate, guid_of, names, candidate_in, entry_of, held_of, imported, candidate_set, promoted, sent}
use Rattle.voucher_map.specs.declared.kept.Kept.{Kept}
use Rattle.voucher_store.specs.Read.{◌>>=◌, found, placed, det_at}
use Rattle.voucher_store.specs.Parts.{voucher_inside, guid_inside}
use Rattle.voucher_store.specs.Snapshot.{is_at}
use Rattle.voucher_store.specs.declared.change.Change.{Change}
use Rattle.voucher_store.specs.declared.change.Change.TheVariants as change

-- ---- what a record says

abbrev pub change_of_two : Spot → Spot → Result Change ℕ
change_of_two n a =
    if is_at (pos 0) n then voucher_inside a >>= (λ voucher. Ok (change.Import voucher))
    else if is_at (pos 2) n then guid_inside a >>= (λ guid. Ok (change.Promotion guid))
    else Err n.at

abbrev pub change_of_three : Spot → Spot → Spot → Result Change ℕ
change_of_three n a b =
    if is_at (pos 1) n then guid_inside a >>= (λ guid. voucher_inside b >>= λ voucher. Ok (change.Candidate guid voucher))
    else if is_at (pos 3) n then guid_inside a >>= (λ guid. voucher_inside b >>= λ voucher. Ok (change.Export guid voucher))
    else Err n.at

abbrev pub change_by : ℕ → Option (Spot × Spot) → Option (Spot × Spot × Spot) → Result Change ℕ
change_by at (Some (n, a)) three = change_of_two n a
change_by at None (Some (n, a, b)) = change_of_three n a b
change_by at None None = Err at

unfoldable pub change_at : Spot → Result Change ℕ
change_at s = change_by s.at (two_spots s) (three_spots s)

-- ---- what a change makes of some entries, or None, where it makes nothing of them

-- a GUID that is in use, but not by a candidate that is replaced
abbrev pub is_taken : List ℕ → Option Voucher → List Kept → Bool
is_taken guid own entries = is_kept guid entries && not (is_guid guid own)

-- nor by an entry that is replaced
abbrev pub is_others : List ℕ → Kept → List Kept → Bool
is_others guid e entries = not (names guid e) && is_taken guid (candidate_in e) entries

abbrev pub if_free : Bool → List Kept → Option (List Kept)
if_free taken entries = if taken then None else Some entries

-- at most 4,096 entries
abbrev pub if_few : Bool → List Kept → Option (List Kept)
if_few taken entries = if taken then None else if nat_le (length entries) 4096 then Some entries else None

-- a base that is named, and its candidate
abbrev pub set_by : List ℕ → Voucher → List Kept → Option (Voucher × Option Voucher) → Option (List Kept)
set_by guid candidate entries None = None
set_by guid candidate entries (Some held) = if_free (is_taken (guid_of candidate) held.1 entries) (candidate_set guid candidate entries)

abbrev pub promoted_by : List ℕ → List Kept → Option (Voucher × Option Voucher) → Option (List Kept)
promoted_by guid entries None = None
promoted_by guid entries (Some (base, None)) = None
promoted_by guid entries (Some (base, Some candidate)) = Some (promoted guid entries)

abbrev pub sent_by : List ℕ → Voucher → List Kept → Option Kept → Option (List Kept)
sent_by guid voucher entries None = None
sent_by guid voucher entries (Some e) = if_free (is_others (guid_of voucher) e entries) (sent guid voucher entries)

unfoldable pub changed : Change → List Kept → Option (List Kept)
changed (change.Import voucher) entries = if_few (is_candidate (guid_of voucher) entries) (imported voucher entries)
changed (change.Candidate guid candidate) entries = set_by guid candidate entries (held_of guid entries)
changed (change.Promotion guid) entries = promoted_by guid entries (held_of guid entries)
changed (change.Export guid voucher) entries = sent_by guid voucher entries (entry_of guid entries)

-- a change is made, or makes nothing
abbrev pub Applied : Option (List Kept) → Bool → List Kept → Type 0
Applied told true after = told ≡ Some after
Applied told false after = told ≡ None

-- ---- the records of a file

-- one that begins at a place in the file
abbrev pub record_in : ℕ → List Kept → List ℕ → Result (List Kept) ℕ
record_in place entries body = placed (place + 5) (det_at change_at body) >>= λ c. found place (changed c entries)

-- one behind another
abbrev pub records_in : ℕ → List Kept → List (List ℕ) → Result (List Kept) ℕ
records_in place entries [] = Ok entries
records_in place entries (body ∷ bodies) = record_in place entries body >>= λ after. records_in (place + (5 + length body)) after bodies

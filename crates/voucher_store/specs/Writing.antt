-- What is written: snapshots of version 2, and records.
use Rattle.std.specs.Prelude.{◌≡◌, ◌<◌, ◌≤◌, ◌^◌, ℕ, List, [], ◌∷◌, ◌++◌, length, map, true, Option, Some, None}
use Rattle.voucher_store.specs.Snapshot.{is_new}
use Rattle.cbor_core.specs.declared.item.Item.{Item}
use Rattle.cbor_core.specs.declared.item.Item.TheVariants as items
use Rattle.cbor_core.specs.Deterministic.{det}
use Rattle.cbor_core.specs.Numbers.{item_of_integer}
use Rattle.cbor_core.specs.Shapes.{null}
use Rattle.voucher_chain.specs.Reading.{IsVoucher}
use Rattle.voucher_chain.specs.declared.voucher.Voucher.{Voucher}
use Rattle.voucher_map.specs.declared.kept.Kept.{Kept}
use Rattle.voucher_map.specs.declared.kept.Kept.TheVariants as kept
use Rattle.voucher_store.specs.declared.change.Change.{Change}
use Rattle.voucher_store.specs.declared.change.Change.TheVariants as change

abbrev pub item_of_candidate : Option Voucher → Item
item_of_candidate None = null
item_of_candidate (Some voucher) = items.Bytes voucher.raw

abbrev pub item_of_kind : Voucher → Item
item_of_kind voucher = item_of_integer voucher.hmac.kind

abbrev pub item_of_entry : Kept → Item
item_of_entry (kept.Held base candidate) = items.Array (items.Uint 0 ∷ item_of_kind base ∷ items.Bytes base.raw ∷ item_of_candidate candidate ∷ [])
item_of_entry (kept.Sent voucher) = items.Array (items.Uint 1 ∷ item_of_kind voucher ∷ items.Bytes voucher.raw ∷ [])

-- "journal"
abbrev pub word : List ℕ
word = 106 ∷ 111 ∷ 117 ∷ 114 ∷ 110 ∷ 97 ∷ 108 ∷ []

abbrev pub item_of_snapshot : List Kept → Item
item_of_snapshot entries = items.Array (items.Uint 2 ∷ items.Array (map item_of_entry entries) ∷ items.Text word ∷ [])

abbrev pub body_of_snapshot : List Kept → List ℕ
body_of_snapshot entries = det (item_of_snapshot entries)

abbrev pub item_of_change : Change → Item
item_of_change (change.Import voucher) = items.Array (items.Uint 0 ∷ items.Bytes voucher.raw ∷ [])
item_of_change (change.Candidate guid voucher) = items.Array (items.Uint 1 ∷ items.Bytes guid ∷ items.Bytes voucher.raw ∷ [])
item_of_change (change.Promotion guid) = items.Array (items.Uint 2 ∷ items.Bytes guid ∷ [])
item_of_change (change.Export guid voucher) = items.Array (items.Uint 3 ∷ items.Bytes guid ∷ items.Bytes voucher.raw ∷ [])

abbrev pub body_of_change : Change → List ℕ
body_of_change c = det (item_of_change c)

-- ---- what can be read again

-- the bytes of its voucher spell it
abbrev pub IsSpelt : Change → Type 0
IsSpelt (change.Import voucher) = IsVoucher voucher.raw voucher
IsSpelt (change.Candidate guid voucher) = IsVoucher voucher.raw voucher
IsSpelt (change.Promotion guid) = Unit {0}
IsSpelt (change.Export guid voucher) = IsVoucher voucher.raw voucher

-- what holds of any change in memory
abbrev pub HasSizes : Change → Type 0
HasSizes (change.Import voucher) = length voucher.raw < 2 ^ 64
HasSizes (change.Candidate guid voucher) = (length guid ≡ 16) × (length voucher.raw < 2 ^ 64)
HasSizes (change.Promotion guid) = length guid ≡ 16
HasSizes (change.Export guid voucher) = (length guid ≡ 16) × (length voucher.raw < 2 ^ 64)

-- ---- which entries can be read again

-- the bytes of a voucher spell it
abbrev pub IsSound : Voucher → Type 0
IsSound voucher = IsVoucher voucher.raw voucher

abbrev pub IsSoundCandidate : Option Voucher → Type 0
IsSoundCandidate None = Unit {0}
IsSoundCandidate (Some voucher) = IsSound voucher

abbrev pub IsSoundEntry : Kept → Type 0
IsSoundEntry (kept.Held base candidate) = IsSound base × IsSoundCandidate candidate
IsSoundEntry (kept.Sent voucher) = IsSound voucher

-- sound entries behind others, of which none has the GUID of one before it
abbrev pub AreSound : List Kept → List Kept → Type 0
AreSound before [] = Unit {0}
AreSound before (entry ∷ entries) = IsSoundEntry entry × (is_new before entry ≡ true) × AreSound (before ++ entry ∷ []) entries

-- a map that can be kept
pub record IsMap (entries : List Kept) : Type 0 where
  pub sound : AreSound [] entries
  pub few : length entries ≤ 4096

-- what holds of any entry in memory
abbrev pub CandidateHasSize : Option Voucher → Type 0
CandidateHasSize None = Unit {0}
CandidateHasSize (Some voucher) = length voucher.raw < 2 ^ 64

abbrev pub EntryHasSizes : Kept → Type 0
EntryHasSizes (kept.Held base candidate) = (length base.raw < 2 ^ 64) × CandidateHasSize candidate
EntryHasSizes (kept.Sent voucher) = length voucher.raw < 2 ^ 64

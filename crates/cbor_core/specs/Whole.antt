-- Inputs that are one item, to their end, and what they say: a value, or the place of their first fault.
use Rattle.std.specs.Prelude.{◌≡◌, ℕ, List, length, false, ◌==◌, if◌then◌else◌, Option, Some, None, Result, Ok, Err}
use Rattle.cbor_core.specs.declared.fault.CborFault.{CborFault}
use Rattle.cbor_core.specs.declared.fault.CborFault.TheVariants as faults
use Rattle.cbor_core.specs.declared.item.Item.{Item}
use Rattle.cbor_core.specs.Reading.{first_item}
use Rattle.cbor_core.specs.Spelling.{Spells}
use Rattle.cbor_core.specs.Spots.{Spot, start}

-- the item that bytes spell to their end
abbrev pub whole_of : ℕ → Result (Item × ℕ) CborFault → Option Item
whole_of total (Ok x) = if x.1 == total then Some x.0 else None
whole_of total (Err fault) = None

abbrev pub whole : List ℕ → Option Item
whole bytes = whole_of (length bytes) (first_item false bytes)

-- where a fault of CBOR stands
abbrev pub place_of : CborFault → ℕ
place_of (faults.Truncated place) = place
place_of (faults.Malformed place) = place
place_of (faults.TooDeep place) = place
place_of (faults.Duplicate place) = place
place_of (faults.Float place) = place
place_of (faults.NotDeterministic place) = place
place_of faults.NoMemory = 0

-- n bytes were taken of all, and they say a value, or a part of them is not of the form
abbrev pub ended : {A : Type 0} → ℕ → ℕ → ℕ → Option A → Result A ℕ
ended total n place (Some value) = if n == total then Ok value else Err n
ended total n place None = Err place

abbrev pub said_of : {A : Type 0} → (Item → Option A) → (Spot → ℕ) → List ℕ → Result (Item × ℕ) CborFault → Result A ℕ
said_of said place bytes (Ok x) = ended (length bytes) x.1 (place (start bytes)) (said x.0)
said_of said place bytes (Err fault) = Err (place_of fault)

-- what bytes say, by what an item says and by where one is at fault that says nothing: a fault of CBOR comes first, then
-- the first part that is not of the form, then the first byte after the item
abbrev pub said_at : {A : Type 0} → (Item → Option A) → (Spot → ℕ) → List ℕ → Result A ℕ
said_at said place bytes = said_of said place bytes (first_item false bytes)

-- the bytes spell, to their end, an item that says the value
pub record Says {A : Type 0} (said : Item → Option A) (bytes : List ℕ) (value : A) : Type 0 where
  pub item : Item
  pub spelled : Spells item bytes
  pub says : said item ≡ Some value

-- ---- values that keep bytes as they were received

abbrev pub seen_of : {A : Type 0} → (Spot → Option A) → (Spot → ℕ) → List ℕ → Result (Item × ℕ) CborFault → Result A ℕ
seen_of seen place bytes (Ok x) = ended (length bytes) x.1 (place (start bytes)) (seen (start bytes))
seen_of seen place bytes (Err fault) = Err (place_of fault)

-- what bytes say, by what stands at a place
abbrev pub seen_at : {A : Type 0} → (Spot → Option A) → (Spot → ℕ) → List ℕ → Result A ℕ
seen_at seen place bytes = seen_of seen place bytes (first_item false bytes)

-- the bytes spell, to their end, an item, and where it stands is the value
pub record Shows {A : Type 0} (seen : Spot → Option A) (bytes : List ℕ) (value : A) : Type 0 where
  pub item : Item
  pub spelled : Spells item bytes
  pub shows : seen (start bytes) ≡ Some value

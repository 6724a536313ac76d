-- What the readers of a file answer: a value, or the place of the first fault.
use Rattle.std.specs.Prelude.{◌≡◌, ℕ, ◌+◌, ◌==◌, List, length, true, if◌then◌else◌, Option, Some, None, Result, Ok, Err}
use Rattle.cbor_core.specs.declared.fault.CborFault.{CborFault}
use Rattle.cbor_core.specs.declared.fault.CborFault.TheVariants as cbor
use Rattle.cbor_core.specs.declared.item.Item.{Item}
use Rattle.cbor_core.specs.Reading.{first_item}
use Rattle.cbor_core.specs.Spots.{Spot, Standing, start}
use Rattle.cbor_core.specs.Whole.{place_of}
use Rattle.voucher_store.specs.declared.fault.ImageFault.{ImageFault}
use Rattle.voucher_store.specs.declared.fault.ImageFault.TheVariants as image

-- then, where nothing is at fault
infixl 10 ◌>>=◌
abbrev pub ◌>>=◌ : {A B : Type 0} → Result A ℕ → (A → Result B ℕ) → Result B ℕ
(Ok x) >>= f = f x
(Err place) >>= f = Err place

-- what is there, or else this place is at fault
abbrev pub found : {A : Type 0} → ℕ → Option A → Result A ℕ
found at (Some x) = Ok x
found at None = Err at

-- a place in a body that begins at one in the file
abbrev pub placed : {A : Type 0} → ℕ → Result A ℕ → Result A ℕ
placed base (Ok x) = Ok x
placed base (Err place) = Err (base + place)

-- a reader answers so, want of memory aside
abbrev pub Reads : {A : Type 0} → Result A ℕ → Result A ImageFault → Type 0
Reads said (Ok value) = said ≡ Ok value
Reads said (Err (image.Foreign place)) = said ≡ Err place
Reads said (Err image.NoMemory) = Unit {0}

-- why a reader gives nothing
abbrev pub Blames : {A : Type 0} → Result A ℕ → ImageFault → Type 0
Blames said (image.Foreign place) = said ≡ Err place
Blames said image.NoMemory = Unit {0}

-- ---- bodies in the deterministic encoding, to their end (RFC 8949, section 4.2.1)

-- n bytes were taken of all
abbrev pub at_end : {A : Type 0} → ℕ → ℕ → A → Result A ℕ
at_end total n value = if n == total then Ok value else Err n

abbrev pub det_of : {A : Type 0} → (Spot → Result A ℕ) → List ℕ → Result (Item × ℕ) CborFault → Result A ℕ
det_of seen body (Ok x) = seen (start body) >>= at_end (length body) x.1
det_of seen body (Err fault) = Err (place_of fault)

-- what a body says: a fault of the encoding comes first, then the first part that is not of the form, then the first byte after
-- the item
abbrev pub det_at : {A : Type 0} → (Spot → Result A ℕ) → List ℕ → Result A ℕ
det_at seen body = det_of seen body (first_item true body)

-- a body begins with an item in the deterministic encoding, of so many bytes
pub record IsOpened (body : List ℕ) (read : ℕ) (part : Standing) : Type 0 where
  pub item : Item
  pub taken : first_item true body ≡ Ok (item, read)
  pub part_is : part.spot ≡ start body

-- or has a fault of it
abbrev pub IsAt : CborFault → ImageFault → Type 0
IsAt cbor.NoMemory found = found ≡ image.NoMemory
IsAt fault found = found ≡ image.Foreign (place_of fault)

abbrev pub IsCut : List ℕ → ImageFault → Type 0
IsCut body image.NoMemory = Unit {0}
IsCut body (image.Foreign place) = (fault : CborFault) × (first_item true body ≡ Err fault) × (place ≡ place_of fault)

-- a fault of a body that begins at a place in the file
abbrev pub IsPlaced : ℕ → ImageFault → ImageFault → Type 0
IsPlaced base (image.Foreign place) (image.Foreign at) = at ≡ base + place
IsPlaced base fault image.NoMemory = Unit {0}
IsPlaced base image.NoMemory (image.Foreign at) = ⊥

-- Which bytes spell a data item (RFC 8949, section 3), by cases on the item. Where `strict` holds, the spelling is
-- also the one of the core deterministic encoding (section 4.2.1).
use Rattle.std.specs.Prelude.{◌≡◌, ℕ, zero, suc, ◌+◌, ◌*◌, ◌^◌, ◌<◌, ◌≤◌, ◌⊎◌, List, [], ◌∷◌, ◌++◌, length, Bool, true, false, nat_le}
use Rattle.std.specs.List.{concat}
use Rattle.std.specs.Int.{w8, w16, w32, w64, to_be_bytes}
use Rattle.cbor_core.specs.declared.head.Major.{Major}
use Rattle.cbor_core.specs.declared.head.Major.TheVariants as major
use Rattle.cbor_core.specs.declared.head.Size.{Size}
use Rattle.cbor_core.specs.declared.head.Size.TheVariants as size
use Rattle.cbor_core.specs.declared.item.Item.{Item, out-Item}
use Rattle.cbor_core.specs.declared.item.Item.TheOpen.{Item-F}
use Rattle.cbor_core.specs.Deterministic.{det}
use Rattle.cbor_core.specs.Reading.{is_content, is_among, is_below_one, key_spellings}

-- ---- heads

-- the number of a major type (section 3.1)
abbrev pub code : Major → ℕ
code major.Unsigned = 0
code major.Negative = 1
code major.Bytes = 2
code major.Text = 3
code major.Array = 4
code major.Map = 5
code major.Tag = 6

-- the additional information of an argument, and the bytes after the first byte
abbrev pub info_in : Size → ℕ → ℕ
info_in size.Inside n = n
info_in size.One n = 24
info_in size.Two n = 25
info_in size.Four n = 26
info_in size.Eight n = 27
info_in size.Reserved n = 28
info_in size.Indefinite n = 31

abbrev pub bytes_in : Size → ℕ → List ℕ
bytes_in size.Inside n = []
bytes_in size.One n = to_be_bytes w8 n
bytes_in size.Two n = to_be_bytes w16 n
bytes_in size.Four n = to_be_bytes w32 n
bytes_in size.Eight n = to_be_bytes w64 n
bytes_in size.Reserved n = []
bytes_in size.Indefinite n = []

-- an argument can be given in a size, and no shorter one will do
abbrev pub FitsIn : Size → ℕ → Type 0
FitsIn size.Inside n = n < 24
FitsIn size.One n = n < 2 ^ 8
FitsIn size.Two n = n < 2 ^ 16
FitsIn size.Four n = n < 2 ^ 32
FitsIn size.Eight n = n < 2 ^ 64
FitsIn size.Reserved n = ⊥
FitsIn size.Indefinite n = ⊥

abbrev pub is_shortest : Size → ℕ → Bool
is_shortest size.Inside n = true
is_shortest size.One n = nat_le 24 n
is_shortest size.Two n = nat_le (2 ^ 8) n
is_shortest size.Four n = nat_le (2 ^ 16) n
is_shortest size.Eight n = nat_le (2 ^ 32) n
is_shortest size.Reserved n = false
is_shortest size.Indefinite n = false

abbrev pub head_in : Major → Size → ℕ → List ℕ
head_in m form n = (32 * code m + info_in form n) ∷ bytes_in form n

-- the text is a head of the major type with the argument n
pub record IsHead (strict : Bool) (m : Major) (n : ℕ) (text : List ℕ) : Type 0 where
  pub form : Size
  pub fits : FitsIn form n
  pub shortest : strict ≡ true → is_shortest form n ≡ true
  pub bytes : text ≡ head_in m form n

-- ---- rows: each element is spelled in view of those before it

module _ {A : Type 0} (spells : List A → A → List ℕ → Type 0) where
  unfoldable pub SpellsRow : List A → List A → List ℕ → Type 0
  SpellsRow before [] text = text ≡ []
  SpellsRow before (x ∷ xs) text = (first : List ℕ) × (rest : List ℕ) × spells before x first × SpellsRow (before ++ x ∷ []) xs rest × (text ≡ first ++ rest)

  -- the number of elements in the head, and the elements
  pub record IsCounted (strict : Bool) (m : Major) (xs : List A) (text : List ℕ) : Type 0 where
    pub head : List ℕ
    pub row : List ℕ
    pub has_head : IsHead strict m (length xs) head
    pub has_row : SpellsRow [] xs row
    pub bytes : text ≡ head ++ row

  -- an indefinite length (section 3.2): the elements, and the break
  pub record IsOpen (strict : Bool) (m : Major) (xs : List A) (text : List ℕ) : Type 0 where
    pub row : List ℕ
    pub loose : strict ≡ false
    pub has_row : SpellsRow [] xs row
    pub bytes : text ≡ (32 * code m + 31) ∷ (row ++ 255 ∷ [])

-- ---- strings

-- a string of definite length; text is UTF-8
pub record IsString (strict : Bool) (m : Major) (content text : List ℕ) : Type 0 where
  pub head : List ℕ
  pub has_head : IsHead strict m (length content) head
  pub is_fine : is_content m content ≡ true
  pub bytes : text ≡ head ++ content

-- a chunk has a definite length, and is text by itself (section 3.2.3)
abbrev pub IsChunk : Major → List (List ℕ) → List ℕ → List ℕ → Type 0
IsChunk m before content text = IsString false m content text

pub record IsChunked (strict : Bool) (m : Major) (content text : List ℕ) : Type 0 where
  pub chunks : List (List ℕ)
  pub joined : content ≡ concat chunks
  pub has_chunks : IsOpen (IsChunk m) strict m chunks text

-- ---- items

-- a simple value (section 3.3): 24 to 31 have no spelling
abbrev pub IsSimple : ℕ → List ℕ → Type 0
IsSimple n text = ((n < 24) × (text ≡ (224 + n) ∷ [])) ⊎ ((32 ≤ n) × (n < 2 ^ 8) × (text ≡ 248 ∷ n ∷ []))

-- a key and its value: no two keys have equal deterministic spellings (section 5.6), and keys ascend where it is strict
pub record IsPair (strict : Bool) (spells : Item → List ℕ → Type 0) (before : List (Item × Item)) (pair : Item × Item) (text : List ℕ) : Type 0 where
  pub key : List ℕ
  pub value : List ℕ
  pub has_key : spells pair.0 key
  pub has_value : spells pair.1 value
  pub fresh : is_among (key_spellings before) (det pair.0) ≡ false
  pub ascending : strict ≡ true → is_below_one (key_spellings before) (det pair.0) ≡ false
  pub bytes : text ≡ key ++ value

pub record IsTagged (strict : Bool) (spells : Item → List ℕ → Type 0) (tag : ℕ) (x : Item) (text : List ℕ) : Type 0 where
  pub head : List ℕ
  pub content : List ℕ
  pub has_head : IsHead strict major.Tag tag head
  pub has_content : spells x content
  pub bytes : text ≡ head ++ content

-- one layer of an item, where `spells` says which bytes spell the items inside it
abbrev pub SpellsLayer : Bool → (Item → List ℕ → Type 0) → Item-F Item → List ℕ → Type 0
SpellsLayer strict spells (Item-F.Uint n) text = IsHead strict major.Unsigned n text
SpellsLayer strict spells (Item-F.Nint n) text = IsHead strict major.Negative n text
SpellsLayer strict spells (Item-F.Bytes b) text = IsString strict major.Bytes b text ⊎ IsChunked strict major.Bytes b text
SpellsLayer strict spells (Item-F.Text t) text = IsString strict major.Text t text ⊎ IsChunked strict major.Text t text
SpellsLayer strict spells (Item-F.Array xs) text = IsCounted (λ before. spells) strict major.Array xs text ⊎ IsOpen (λ before. spells) strict major.Array xs text
SpellsLayer strict spells (Item-F.Map ps) text = IsCounted (IsPair strict spells) strict major.Map ps text ⊎ IsOpen (IsPair strict spells) strict major.Map ps text
SpellsLayer strict spells (Item-F.Tag t x) text = IsTagged strict spells t x text
SpellsLayer strict spells (Item-F.Simple n) text = IsSimple n text

-- the text spells the item, which with what is inside it is at most so many levels deep
unfoldable pub SpellsWithin : Bool → ℕ → Item → List ℕ → Type 0
SpellsWithin strict zero x text = ⊥
SpellsWithin strict (suc levels) x text = SpellsLayer strict (SpellsWithin strict levels) (out-Item x) text

-- the text spells the item, at depth 1 of at most 16
abbrev pub Spells : Item → List ℕ → Type 0
Spells x text = SpellsWithin false 16 x text

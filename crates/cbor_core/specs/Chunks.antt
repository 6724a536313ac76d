-- The chunks of a string, by their index.
use Rattle.std.specs.Prelude.{◌≡◌, ℕ, zero, suc, ◌⊎◌, List, [], ◌∷◌, slice_get, false, ◌==◌, if◌then◌else◌, Option, Some, None, Ok, Err}
use Rattle.cbor_core.specs.declared.head.Major.{Major}
use Rattle.cbor_core.specs.declared.head.Major.TheVariants as major
use Rattle.cbor_core.specs.declared.head.Head.{Head}
use Rattle.cbor_core.specs.declared.head.Head.TheVariants as heads
use Rattle.cbor_core.specs.declared.item.Item.{Item}
use Rattle.cbor_core.specs.declared.item.Item.TheOpen.{Item-F}
use Rattle.cbor_core.specs.Parts.{content_in}
use Rattle.cbor_core.specs.Passing.{pass_chunk}
use Rattle.cbor_core.specs.Reading.{Read, breaks, chunk_step}
use Rattle.cbor_core.specs.Spelling.{IsString, IsChunked}

abbrev pub value_of : {A : Type 0} → Read A → Option A
value_of (Ok x) = Some x.0
value_of (Err f) = None

abbrev pub then_at : {A : Type 0} → Read (Unit {0}) → (List ℕ → Option A) → Option A
then_at (Ok x) f = f x.1
then_at (Err g) f = None

-- the content of a chunk before the break
unfoldable pub chunk_at : ℕ → Major → ℕ → List ℕ → Option (List ℕ)
chunk_at total m zero bytes = if breaks bytes then None else value_of (chunk_step total m [] bytes)
chunk_at total m (suc index) bytes = if breaks bytes then None else then_at (pass_chunk total m tt bytes) (chunk_at total m index)

-- the content of a chunk behind a head; a string of definite length is one chunk
abbrev pub chunk_behind : ℕ → ℕ → Head → List ℕ → Option (List ℕ)
chunk_behind total index (heads.Sized m s n) rest = if index == 0 then content_in (heads.Sized m s n) rest else None
chunk_behind total index (heads.Open major.Bytes) rest = chunk_at total major.Bytes index rest
chunk_behind total index (heads.Open major.Text) rest = chunk_at total major.Text index rest
chunk_behind total index _ rest = None

abbrev pub StringChunk : Major → List ℕ → List ℕ → ℕ → Option (List ℕ) → Type 0
StringChunk m b text index o = (IsString false m b text × (o ≡ slice_get (b ∷ []) index)) ⊎ ((h : IsChunked false m b text) × (o ≡ slice_get h.chunks index))

abbrev pub ChunkOf : Item-F Item → List ℕ → ℕ → Option (List ℕ) → Type 0
ChunkOf (Item-F.Bytes b) text index o = StringChunk major.Bytes b text index o
ChunkOf (Item-F.Text t) text index o = StringChunk major.Text t text index o
ChunkOf _ text index o = o ≡ None

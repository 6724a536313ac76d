-- The chunk that a cursor gives is that of its item's spelling.
use Rattle.std.proofs.Common.{◌≡◌, ℕ, zero, suc, ◌-◌, ◌+◌, ◌<◌, ◌≤◌, Bool, true, false, eqb, List, [], ◌∷◌, ◌++◌, length, Option, Some, None, Ok, Err, refl, sym, ap, subst, ◌∙◌, append_assoc, arith, inl, inr}
use Rattle.std.specs.Prelude.{slice_get}
use Rattle.std.proofs.lemmas.Bool.{eqb-true}
use Rattle.std.proofs.lemmas.List.{append-nil}
use Rattle.cbor_core.specs.declared.fault.CborFault.{CborFault}
use Rattle.cbor_core.specs.declared.head.Major.{Major}
use Rattle.cbor_core.specs.declared.head.Major.TheVariants as major
use Rattle.cbor_core.specs.declared.cursor.Cursor.{Cursor}
use Rattle.cbor_core.specs.declared.head.Head.{Head}
use Rattle.cbor_core.specs.declared.head.Head.TheVariants as heads
use Rattle.cbor_core.specs.declared.item.Item.{Item, out-Item}
use Rattle.cbor_core.specs.declared.item.Item.TheOpen.{Item-F}
use Rattle.cbor_core.specs.Chunks.{value_of, chunk_at, chunk_behind, StringChunk, ChunkOf}
use Rattle.cbor_core.specs.Parts.{Stands, content_in}
use Rattle.cbor_core.specs.Passing.{pass_chunk}
use Rattle.cbor_core.specs.Reading.{breaks, head_at, chunk_step}
use Rattle.cbor_core.specs.Spelling.{SpellsRow, is_shortest, IsString, IsChunk, IsChunked, SpellsLayer, SpellsWithin}
use Rattle.cbor_core.proofs.Passes.{Passes, chunk_passes}
use Rattle.cbor_core.proofs.Heads.{open_again, simple_again}
use Rattle.cbor_core.proofs.PartLaws.{of_head, string_head, chunked_head, head_reads, front_content}
use Rattle.cbor_core.proofs.StringLaws.{IsStringType, chunk_again, chunk_starts}

pub chunk_more : (total : ℕ) (m : Major) (n turn : ℕ) (bytes rest : List ℕ) (whole : Option (List ℕ)) → turn < n → breaks bytes ≡ false → pass_chunk total m tt bytes ≡ Ok (tt, rest)
    → chunk_at total m (n - turn) bytes ≡ whole → chunk_at total m (n - (turn + 1)) rest ≡ whole
unfolding chunk_at
chunk_more total m n turn bytes rest whole lt goes e was =
    let left : n - turn ≡ suc (n - (turn + 1)) = omega arith in
    rw (left, goes, e) at was

pub chunk_stops : (total : ℕ) (m : Major) (n turn : ℕ) (bytes : List ℕ) (whole : Option (List ℕ)) → turn < n → breaks bytes ≡ true → chunk_at total m (n - turn) bytes ≡ whole → None ≡ whole
unfolding chunk_at
chunk_stops total m n turn bytes whole lt stops was =
    let left : n - turn ≡ suc (n - (turn + 1)) = omega arith in
    rw (left, stops) at was

pub chunk_fails : (total : ℕ) (m : Major) (f : CborFault) (n turn : ℕ) (bytes : List ℕ) (whole : Option (List ℕ)) → turn < n → breaks bytes ≡ false → pass_chunk total m tt bytes ≡ Err f
    → chunk_at total m (n - turn) bytes ≡ whole → None ≡ whole
unfolding chunk_at
chunk_fails total m f n turn bytes whole lt goes e was =
    let left : n - turn ≡ suc (n - (turn + 1)) = omega arith in
    rw (left, goes, e) at was

pub chunk_last : (total : ℕ) (m : Major) (n turn : ℕ) (bytes : List ℕ) (whole : Option (List ℕ)) → n ≤ turn → breaks bytes ≡ false → chunk_at total m (n - turn) bytes ≡ whole → value_of (chunk_step total m [] bytes) ≡ whole
unfolding chunk_at
chunk_last total m n turn bytes whole le goes was =
    let left : n - turn ≡ 0 = omega arith in
    rw (left, goes) at was

pub chunk_past : (total : ℕ) (m : Major) (n turn : ℕ) (bytes : List ℕ) (whole : Option (List ℕ)) → n ≤ turn → breaks bytes ≡ true → chunk_at total m (n - turn) bytes ≡ whole → None ≡ whole
unfolding chunk_at
chunk_past total m n turn bytes whole le stops was =
    let left : n - turn ≡ 0 = omega arith in
    rw (left, stops) at was

pub chunk_is : (total : ℕ) (m : Major) → IsStringType m → (before chunks : List (List ℕ)) (index : ℕ) (row after : List ℕ) → SpellsRow (IsChunk m) before chunks row
    → chunk_at total m index (row ++ 255 ∷ after) ≡ slice_get chunks index
unfolding chunk_at SpellsRow
chunk_is total m kind before [] zero row after h = rw h refl
chunk_is total m kind before [] (suc index) row after h = rw h refl
chunk_is total m kind before (x ∷ xs) zero row after h =
    let apart : row ++ 255 ∷ after ≡ h.0 ++ (h.1 ++ 255 ∷ after) = ap (λ t. t ++ 255 ∷ after) h.4 ∙ append_assoc h.0 h.1 (255 ∷ after) in
    let one = chunk_again total m kind [] x h.0 (h.1 ++ 255 ∷ after) h.2 in
    let goes = chunk_starts total m kind [] (h.0 ++ (h.1 ++ 255 ∷ after)) (x ++ [], h.1 ++ 255 ∷ after) one in
    ap (chunk_at total m 0) apart ∙ rw (goes, one, append-nil x) refl
chunk_is total m kind before (x ∷ xs) (suc index) row after h =
    let apart : row ++ 255 ∷ after ≡ h.0 ++ (h.1 ++ 255 ∷ after) = ap (λ t. t ++ 255 ∷ after) h.4 ∙ append_assoc h.0 h.1 (255 ∷ after) in
    let one = chunk_again total m kind [] x h.0 (h.1 ++ 255 ∷ after) h.2 in
    let goes = chunk_starts total m kind [] (h.0 ++ (h.1 ++ 255 ∷ after)) (x ++ [], h.1 ++ 255 ∷ after) one in
    let pass : pass_chunk total m tt (h.0 ++ (h.1 ++ 255 ∷ after)) ≡ Ok (tt, h.1 ++ 255 ∷ after) = subst (Passes false (pass_chunk total m tt (h.0 ++ (h.1 ++ 255 ∷ after)))) one (chunk_passes false total m [] (h.0 ++ (h.1 ++ 255 ∷ after))) in
    ap (chunk_at total m (suc index)) apart ∙ rw (goes, pass) (chunk_is total m kind (before ++ x ∷ []) xs index h.1 after h.3)

-- ---- the chunk behind a head

not_first : (k : ℕ) → eqb (suc k) 0 ≡ false
not_first k = go (eqb (suc k) 0) refl
  where
    go : (b : Bool) → eqb (suc k) 0 ≡ b → b ≡ false
    go true e = let zero-is : suc k ≡ 0 = eqb-true (suc k) 0 e in absurd (omega arith)
    go false e = refl

sized_chunk : (total : ℕ) (m : Major) (b text rest : List ℕ) (index : ℕ) (s : Bool) (h : IsString false m b text) → content_in (heads.Sized m s (length b)) (b ++ rest) ≡ Some b
    → StringChunk m b text index (chunk_behind total index (heads.Sized m s (length b)) (b ++ rest))
sized_chunk total m b text rest zero s h e = inl (h, e)
sized_chunk total m b text rest (suc index) s h e = rw (not_first index) (inl (h, refl))

open_chunk : (total : ℕ) (m : Major) → IsStringType m → (b text after : List ℕ) (index : ℕ) (h : IsChunked false m b text)
    → StringChunk m b text index (chunk_at total m index ((h.has_chunks.row ++ 255 ∷ []) ++ after))
open_chunk total m kind b text after index h =
    inr (h, ap (chunk_at total m index) (append_assoc h.has_chunks.row (255 ∷ []) after) ∙ chunk_is total m kind [] h.chunks index h.has_chunks.row after h.has_chunks.has_row)

none_sized : (total index : ℕ) (m : Major) (n : ℕ) (s : Bool) (rest : List ℕ) → content_in (heads.Sized m s n) rest ≡ None → chunk_behind total index (heads.Sized m s n) rest ≡ None
none_sized total zero m n s rest e = e
none_sized total (suc index) m n s rest e = rw (not_first index) refl

layer_chunk : (spells : Item → List ℕ → Type 0) (total index : ℕ) (f : Item-F Item) (text after : List ℕ) (y : Head × List ℕ) → SpellsLayer false spells f text → head_at 0 (text ++ after) ≡ Ok y
    → ChunkOf f text index (chunk_behind total index y.0 y.1)
layer_chunk spells total index (Item-F.Uint n) text after y h e =
    of_head (λ y. chunk_behind total index y.0 y.1 ≡ None) (text ++ after) (heads.Sized major.Unsigned (is_shortest h.form n) n, after) y (head_reads major.Unsigned n text after h 0) e (none_sized total index major.Unsigned n (is_shortest h.form n) after refl)
layer_chunk spells total index (Item-F.Nint n) text after y h e =
    of_head (λ y. chunk_behind total index y.0 y.1 ≡ None) (text ++ after) (heads.Sized major.Negative (is_shortest h.form n) n, after) y (head_reads major.Negative n text after h 0) e (none_sized total index major.Negative n (is_shortest h.form n) after refl)
layer_chunk spells total index (Item-F.Bytes b) text after y (inl h) e =
    of_head (λ y. StringChunk major.Bytes b text index (chunk_behind total index y.0 y.1)) (text ++ after) (heads.Sized major.Bytes (is_shortest h.has_head.form (length b)) (length b), b ++ after) y (string_head major.Bytes b text after h) e
    (sized_chunk total major.Bytes b text after index (is_shortest h.has_head.form (length b)) h (front_content b after))
layer_chunk spells total index (Item-F.Bytes b) text after y (inr h) e =
    of_head (λ y. StringChunk major.Bytes b text index (chunk_behind total index y.0 y.1)) (text ++ after) (heads.Open major.Bytes, (h.has_chunks.row ++ 255 ∷ []) ++ after) y (chunked_head major.Bytes b text after h) e
    (open_chunk total major.Bytes tt b text after index h)
layer_chunk spells total index (Item-F.Text b) text after y (inl h) e =
    of_head (λ y. StringChunk major.Text b text index (chunk_behind total index y.0 y.1)) (text ++ after) (heads.Sized major.Text (is_shortest h.has_head.form (length b)) (length b), b ++ after) y (string_head major.Text b text after h) e
    (sized_chunk total major.Text b text after index (is_shortest h.has_head.form (length b)) h (front_content b after))
layer_chunk spells total index (Item-F.Text b) text after y (inr h) e =
    of_head (λ y. StringChunk major.Text b text index (chunk_behind total index y.0 y.1)) (text ++ after) (heads.Open major.Text, (h.has_chunks.row ++ 255 ∷ []) ++ after) y (chunked_head major.Text b text after h) e
    (open_chunk total major.Text tt b text after index h)
layer_chunk spells total index (Item-F.Array xs) text after y (inl h) e =
    of_head (λ y. chunk_behind total index y.0 y.1 ≡ None) (text ++ after) (heads.Sized major.Array (is_shortest h.has_head.form (length xs)) (length xs), h.row ++ after) y
    (ap (λ t. head_at 0 (t ++ after)) h.bytes ∙ ap (head_at 0) (append_assoc h.head h.row after) ∙ head_reads major.Array (length xs) h.head (h.row ++ after) h.has_head 0) e
    (none_sized total index major.Array (length xs) (is_shortest h.has_head.form (length xs)) (h.row ++ after) refl)
layer_chunk spells total index (Item-F.Array xs) text after y (inr h) e =
    of_head (λ y. chunk_behind total index y.0 y.1 ≡ None) (text ++ after) (heads.Open major.Array, (h.row ++ 255 ∷ []) ++ after) y
    (ap (λ t. head_at 0 (t ++ after)) h.bytes ∙ open_again 0 major.Array ((h.row ++ 255 ∷ []) ++ after)) e refl
layer_chunk spells total index (Item-F.Map ps) text after y (inl h) e =
    of_head (λ y. chunk_behind total index y.0 y.1 ≡ None) (text ++ after) (heads.Sized major.Map (is_shortest h.has_head.form (length ps)) (length ps), h.row ++ after) y
    (ap (λ t. head_at 0 (t ++ after)) h.bytes ∙ ap (head_at 0) (append_assoc h.head h.row after) ∙ head_reads major.Map (length ps) h.head (h.row ++ after) h.has_head 0) e
    (none_sized total index major.Map (length ps) (is_shortest h.has_head.form (length ps)) (h.row ++ after) refl)
layer_chunk spells total index (Item-F.Map ps) text after y (inr h) e =
    of_head (λ y. chunk_behind total index y.0 y.1 ≡ None) (text ++ after) (heads.Open major.Map, (h.row ++ 255 ∷ []) ++ after) y
    (ap (λ t. head_at 0 (t ++ after)) h.bytes ∙ open_again 0 major.Map ((h.row ++ 255 ∷ []) ++ after)) e refl
layer_chunk spells total index (Item-F.Tag t x) text after y h e =
    of_head (λ y. chunk_behind total index y.0 y.1 ≡ None) (text ++ after) (heads.Sized major.Tag (is_shortest h.has_head.form t) t, h.content ++ after) y
    (ap (λ u. head_at 0 (u ++ after)) h.bytes ∙ ap (head_at 0) (append_assoc h.head h.content after) ∙ head_reads major.Tag t h.head (h.content ++ after) h.has_head 0) e
    (none_sized total index major.Tag t (is_shortest h.has_head.form t) (h.content ++ after) refl)
layer_chunk spells total index (Item-F.Simple n) text after y h e =
    of_head (λ y. chunk_behind total index y.0 y.1 ≡ None) (text ++ after) (heads.Simple n, after) y (simple_again 0 n text after h) e refl

spelled_chunk : (total index levels : ℕ) (x : Item) (text after : List ℕ) (y : Head × List ℕ) → SpellsWithin false levels x text → head_at 0 (text ++ after) ≡ Ok y → ChunkOf (out-Item x) text index (chunk_behind total index y.0 y.1)
unfolding SpellsWithin
spelled_chunk total index zero x text after y h e = absurd h
spelled_chunk total index (suc levels) x text after y h e = layer_chunk (SpellsWithin false levels) total index (out-Item x) text after y h e

pub chunk_of : (c : Cursor) (input : List ℕ) (x : Item) (text : List ℕ) (later : List Item) → Stands c input x text later → (total index : ℕ) (head : Head) (rest : List ℕ)
    → head_at 0 c.tail.now ≡ Ok (head, rest) → ChunkOf (out-Item x) text index (chunk_behind total index head rest)
chunk_of c input x text later s total index head rest e = spelled_chunk total index c.levels x text (s.row ++ s.rest) (head, rest) s.spelled (sym (ap (head_at 0) s.bytes) ∙ e)

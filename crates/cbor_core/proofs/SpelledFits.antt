-- What is spelled is fit to be written.
use Rattle.std.proofs.Common.{◌≡◌, ℕ, zero, suc, ◌+◌, ◌^◌, ◌<◌, ◌≤◌, true, false, List, [], ◌∷◌, ◌++◌, length, ◌⊎◌, ap, ◌∙◌, arith, inl, inr}
use Rattle.std.specs.List.{concat, AllByRecursion}
use Rattle.std.specs.Str.{is_utf8}
use Rattle.std.proofs.lemmas.List.{length-append}
use Rattle.cbor_core.specs.declared.head.Major.{Major}
use Rattle.cbor_core.specs.declared.head.Major.TheVariants as major
use Rattle.cbor_core.specs.declared.head.Size.{Size}
use Rattle.cbor_core.specs.declared.head.Size.TheVariants as size
use Rattle.cbor_core.specs.declared.item.Item.{Item, out-Item}
use Rattle.cbor_core.specs.declared.item.Item.TheOpen.{Item-F}
use Rattle.cbor_core.specs.Norm.{IsFitLayer, IsFitWithin}
use Rattle.cbor_core.specs.Spelling.{FitsIn, IsHead, SpellsRow, IsChunk, IsChunked, IsSimple, IsPair, SpellsLayer, SpellsWithin}
use Rattle.cbor_core.proofs.Lengths.{row_count, pair_count}
use Rattle.cbor_core.proofs.Utf8.{joined_text, no_bytes}

form_below : (form : Size) (n : ℕ) → FitsIn form n → n < 2 ^ 64
form_below size.Inside n h = omega arith
form_below size.One n h = omega arith
form_below size.Two n h = omega arith
form_below size.Four n h = omega arith
form_below size.Eight n h = h
form_below size.Reserved n h = absurd h
form_below size.Indefinite n h = absurd h

head_below : (m : Major) (n : ℕ) (text : List ℕ) → IsHead false m n text → n < 2 ^ 64
head_below m n text h = form_below h.form n h.fits

chunks_long : (m : Major) (before chunks : List (List ℕ)) (row : List ℕ) → SpellsRow (IsChunk m) before chunks row → length (concat chunks) ≤ length row
unfolding SpellsRow
chunks_long m before [] row h = omega arith
chunks_long m before (x ∷ xs) row h =
    omega (arith, chunks_long m (before ++ x ∷ []) xs h.1 h.3, length-append x (concat xs), ap length h.4, length-append h.0 h.1, ap length h.2.bytes, length-append h.2.head x)

chunks_text : (before chunks : List (List ℕ)) (row : List ℕ) → SpellsRow (IsChunk major.Text) before chunks row → is_utf8 (concat chunks) ≡ true
unfolding SpellsRow
chunks_text before [] row h = no_bytes
chunks_text before (x ∷ xs) row h = joined_text x (concat xs) h.2.is_fine (chunks_text (before ++ x ∷ []) xs h.1 h.3)

chunked_long : (m : Major) (content text : List ℕ) → IsChunked false m content text → length content ≤ length text
chunked_long m content text h =
    omega (arith, ap length h.joined, chunks_long m [] h.chunks h.has_chunks.row h.has_chunks.has_row, ap length h.has_chunks.bytes, length-append h.has_chunks.row (255 ∷ []))

module _ (spells : Item → List ℕ → Type 0) (fits : Item → Type 0) (one : (x : Item) (text : List ℕ) → length text < 2 ^ 64 → spells x text → fits x) where
  items_fit : (before xs : List Item) (row : List ℕ) → length row < 2 ^ 64 → SpellsRow (λ before. spells) before xs row → AllByRecursion fits xs
  unfolding SpellsRow
  items_fit before [] row small h = tt
  items_fit before (x ∷ xs) row small h =
      let len : length row ≡ length h.0 + length h.1 = ap length h.4 ∙ length-append h.0 h.1 in
      (one x h.0 (omega arith) h.2, items_fit (before ++ x ∷ []) xs h.1 (omega arith) h.3)

  pairs_fit : (before ps : List (Item × Item)) (row : List ℕ) → length row < 2 ^ 64 → SpellsRow (IsPair false spells) before ps row → AllByRecursion (λ p. fits p.0 × fits p.1) ps
  unfolding SpellsRow
  pairs_fit before [] row small h = tt
  pairs_fit before (p ∷ ps) row small h =
      let len : length row ≡ length h.0 + length h.1 = ap length h.4 ∙ length-append h.0 h.1 in
      let two : length h.0 ≡ length h.2.key + length h.2.value = ap length h.2.bytes ∙ length-append h.2.key h.2.value in
      ((one p.0 h.2.key (omega arith) h.2.has_key, one p.1 h.2.value (omega arith) h.2.has_value), pairs_fit (before ++ p ∷ []) ps h.1 (omega arith) h.3)

simple_fit : (n : ℕ) (text : List ℕ) → IsSimple n text → (n < 24) ⊎ ((32 ≤ n) × (n < 2 ^ 8))
simple_fit n text (inl h) = inl h.0
simple_fit n text (inr h) = inr (h.0, h.1)

behind : (head row text : List ℕ) → text ≡ head ++ row → length text < 2 ^ 64 → length row < 2 ^ 64
behind head row text e small = omega (arith, ap length e, length-append head row)

inside : (b : ℕ) (row text : List ℕ) → text ≡ b ∷ (row ++ 255 ∷ []) → length text < 2 ^ 64 → length row < 2 ^ 64
inside b row text e small = omega (arith, ap length e, length-append row (255 ∷ []))

layer_fit : (levels : ℕ) (one : (x : Item) (text : List ℕ) → length text < 2 ^ 64 → SpellsWithin false levels x text → IsFitWithin levels x) (f : Item-F Item) (text : List ℕ)
    → length text < 2 ^ 64 → SpellsLayer false (SpellsWithin false levels) f text → IsFitLayer (IsFitWithin levels) f
layer_fit levels one (Item-F.Uint n) text small h = head_below major.Unsigned n text h
layer_fit levels one (Item-F.Nint n) text small h = head_below major.Negative n text h
layer_fit levels one (Item-F.Bytes b) text small (inl h) = behind h.head b text h.bytes small
layer_fit levels one (Item-F.Bytes b) text small (inr h) = omega (arith, chunked_long major.Bytes b text h)
layer_fit levels one (Item-F.Text t) text small (inl h) = (behind h.head t text h.bytes small, h.is_fine)
layer_fit levels one (Item-F.Text t) text small (inr h) = (omega (arith, chunked_long major.Text t text h), ap is_utf8 h.joined ∙ chunks_text [] h.chunks h.has_chunks.row h.has_chunks.has_row)
layer_fit levels one (Item-F.Array xs) text small (inl h) =
    (head_below major.Array (length xs) h.head h.has_head, items_fit (SpellsWithin false levels) (IsFitWithin levels) one [] xs h.row (behind h.head h.row text h.bytes small) h.has_row)
layer_fit levels one (Item-F.Array xs) text small (inr h) =
    let few = inside 159 h.row text h.bytes small in
    (omega (arith, few, row_count levels [] xs h.row h.has_row), items_fit (SpellsWithin false levels) (IsFitWithin levels) one [] xs h.row few h.has_row)
layer_fit levels one (Item-F.Map ps) text small (inl h) =
    (head_below major.Map (length ps) h.head h.has_head, pairs_fit (SpellsWithin false levels) (IsFitWithin levels) one [] ps h.row (behind h.head h.row text h.bytes small) h.has_row)
layer_fit levels one (Item-F.Map ps) text small (inr h) =
    let few = inside 191 h.row text h.bytes small in
    (omega (arith, few, pair_count levels [] ps h.row h.has_row), pairs_fit (SpellsWithin false levels) (IsFitWithin levels) one [] ps h.row few h.has_row)
layer_fit levels one (Item-F.Tag t x) text small h = (head_below major.Tag t h.head h.has_head, one x h.content (behind h.head h.content text h.bytes small) h.has_content)
layer_fit levels one (Item-F.Simple n) text small h = simple_fit n text h

pub spelled_fit : (levels : ℕ) (x : Item) (text : List ℕ) → length text < 2 ^ 64 → SpellsWithin false levels x text → IsFitWithin levels x
unfolding SpellsWithin IsFitWithin
spelled_fit zero x text small h = h
spelled_fit (suc levels) x text small h = layer_fit levels (spelled_fit levels) (out-Item x) text small h

-- A strict spelling is a spelling.
use Rattle.std.proofs.Common.{ℕ, zero, suc, true, false, List, [], ◌∷◌, ◌++◌, inl, inr}
use Rattle.cbor_core.specs.declared.head.Major.{Major}
use Rattle.cbor_core.specs.declared.item.Item.{Item, out-Item}
use Rattle.cbor_core.specs.declared.item.Item.TheOpen.{Item-F}
use Rattle.cbor_core.specs.Spelling.{IsHead, SpellsRow, IsCounted, IsString, IsPair, SpellsLayer, SpellsWithin}

head_loose : (m : Major) (n : ℕ) (text : List ℕ) → IsHead true m n text → IsHead false m n text
head_loose m n text h = record { form = h.form; fits = h.fits; shortest = λ e. absurd cc; bytes = h.bytes }

string_loose : (m : Major) (content text : List ℕ) → IsString true m content text → IsString false m content text
string_loose m content text h = record { head = h.head; has_head = head_loose m _ h.head h.has_head; is_fine = h.is_fine; bytes = h.bytes }

module _ {A : Type 0} (p q : List A → A → List ℕ → Type 0) (loose : (before : List A) (x : A) (text : List ℕ) → p before x text → q before x text) where
  row_loose : (before xs : List A) (text : List ℕ) → SpellsRow p before xs text → SpellsRow q before xs text
  unfolding SpellsRow
  row_loose before [] text h = h
  row_loose before (x ∷ xs) text h = (h.0, h.1, loose before x h.0 h.2, row_loose (before ++ x ∷ []) xs h.1 h.3, h.4)

  counted_loose : (m : Major) (xs : List A) (text : List ℕ) → IsCounted p true m xs text → IsCounted q false m xs text
  counted_loose m xs text h = record { head = h.head; row = h.row; has_head = head_loose m _ h.head h.has_head; has_row = row_loose [] xs h.row h.has_row; bytes = h.bytes }

module _ (p q : Item → List ℕ → Type 0) (loose : (x : Item) (text : List ℕ) → p x text → q x text) where
  pair_loose : (before : List (Item × Item)) (x : Item × Item) (text : List ℕ) → IsPair true p before x text → IsPair false q before x text
  pair_loose before x text h = record {
    key = h.key;
    value = h.value;
    has_key = loose x.0 h.key h.has_key;
    has_value = loose x.1 h.value h.has_value;
    fresh = h.fresh;
    ascending = λ e. absurd cc;
    bytes = h.bytes;
  }

  layer_loose : (f : Item-F Item) (text : List ℕ) → SpellsLayer true p f text → SpellsLayer false q f text
  layer_loose (Item-F.Uint n) text h = head_loose _ n text h
  layer_loose (Item-F.Nint n) text h = head_loose _ n text h
  layer_loose (Item-F.Bytes b) text (inl h) = inl (string_loose _ b text h)
  layer_loose (Item-F.Bytes b) text (inr h) = absurd (cc h.has_chunks.loose)
  layer_loose (Item-F.Text t) text (inl h) = inl (string_loose _ t text h)
  layer_loose (Item-F.Text t) text (inr h) = absurd (cc h.has_chunks.loose)
  layer_loose (Item-F.Array xs) text (inl h) = inl (counted_loose (λ before. p) (λ before. q) (λ before. loose) _ xs text h)
  layer_loose (Item-F.Array xs) text (inr h) = absurd (cc h.loose)
  layer_loose (Item-F.Map ps) text (inl h) = inl (counted_loose (IsPair true p) (IsPair false q) pair_loose _ ps text h)
  layer_loose (Item-F.Map ps) text (inr h) = absurd (cc h.loose)
  layer_loose (Item-F.Tag t x) text h = record { head = h.head; content = h.content; has_head = head_loose _ t h.head h.has_head; has_content = loose x h.content h.has_content; bytes = h.bytes }
  layer_loose (Item-F.Simple n) text h = h

pub loosely : (levels : ℕ) (x : Item) (text : List ℕ) → SpellsWithin true levels x text → SpellsWithin false levels x text
unfolding SpellsWithin
loosely zero x text h = h
loosely (suc levels) x text h = layer_loose (SpellsWithin true levels) (SpellsWithin false levels) (loosely levels) (out-Item x) text h

-- Each element of a row takes a byte.
use Rattle.std.proofs.Common.{ℕ, ◌≤◌, false, List, [], ◌∷◌, ◌++◌, length, ap, arith}
use Rattle.std.proofs.lemmas.List.{length-append}
use Rattle.cbor_core.specs.declared.item.Item.{Item}
use Rattle.cbor_core.specs.Spelling.{SpellsRow, IsPair, SpellsWithin}
use Rattle.cbor_core.proofs.Again.{item_again, item_some}

long_one : (levels : ℕ) (x : Item) (text : List ℕ) → SpellsWithin false levels x text → 1 ≤ length text
long_one levels x [] h = absurd (item_some false 0 levels (x, []) (item_again false 0 levels x [] [] h))
long_one levels x (b ∷ text) h = omega arith

pub row_count : (levels : ℕ) (any xs : List Item) (row : List ℕ) → SpellsRow (λ before. SpellsWithin false levels) any xs row → length xs ≤ length row
unfolding SpellsRow
row_count levels any [] row h = omega arith
row_count levels any (x ∷ xs) row h = omega (arith, row_count levels (any ++ x ∷ []) xs h.1 h.3, long_one levels x h.0 h.2, ap length h.4, length-append h.0 h.1)

pub pair_count : (levels : ℕ) (before ps : List (Item × Item)) (row : List ℕ) → SpellsRow (IsPair false (SpellsWithin false levels)) before ps row → length ps ≤ length row
unfolding SpellsRow
pair_count levels before [] row h = omega arith
pair_count levels before (p ∷ ps) row h =
    omega (arith, pair_count levels (before ++ p ∷ []) ps h.1 h.3, long_one levels p.0 h.2.key h.2.has_key, ap length h.2.bytes, length-append h.2.key h.2.value, ap length h.4, length-append h.0 h.1)

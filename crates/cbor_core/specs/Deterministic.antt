-- The core deterministic encoding (RFC 8949, section 4.2.1): shortest arguments, definite lengths, and map keys
-- in the bytewise lexicographic order of their own deterministic encodings.
use Rattle.std.specs.Prelude.{ℕ, List, [], ◌++◌, length, fold, flat_map, Bool, true, false}
use Rattle.std.specs.List.{concat}
use Rattle.std.specs.Ordering.{nat_cmp}
use Rattle.std.specs.Cmp.Lexicographic.{slice_cmp}
use Rattle.std.specs.BTreeMap.{insert_entry}
use Rattle.cbor_core.specs.declared.item.Item.{Item}
use Rattle.cbor_core.specs.declared.item.Item.TheOpen.{Item-F}
use Rattle.cbor_core.specs.declared.item.Item.TheFolds.{fold-Item}
use Rattle.cbor_core.specs.Head.{head}

-- entries by the bytewise lexicographic order of their keys; of two with equal keys the later stands
abbrev pub in_key_order : {X : Type 0} → List (List ℕ × X) → List (List ℕ × X)
in_key_order pairs = fold (λ sorted p. insert_entry (slice_cmp nat_cmp) sorted p.0 p.1) [] pairs

abbrev pub det_pairs : List (List ℕ × List ℕ) → List ℕ
det_pairs pairs = head 5 (length pairs) ++ flat_map (λ p. p.0 ++ p.1) pairs

-- one item, where each item inside it is spelled already
abbrev pub det_step : Item-F (List ℕ) → List ℕ
det_step (Item-F.Uint n) = head 0 n
det_step (Item-F.Nint n) = head 1 n
det_step (Item-F.Bytes b) = head 2 (length b) ++ b
det_step (Item-F.Text t) = head 3 (length t) ++ t
det_step (Item-F.Array xs) = head 4 (length xs) ++ concat xs
det_step (Item-F.Map ps) = det_pairs (in_key_order ps)
det_step (Item-F.Tag t x) = head 6 t ++ x
det_step (Item-F.Simple n) = head 7 n

-- the deterministic spelling of an item
abbrev pub det : Item → List ℕ
det = fold-Item (List ℕ) det_step

-- whether no item can stand inside this one
abbrev pub is_single_item : Item-F Item → Bool
is_single_item (Item-F.Array xs) = false
is_single_item (Item-F.Map ps) = false
is_single_item (Item-F.Tag t x) = false
is_single_item _ = true

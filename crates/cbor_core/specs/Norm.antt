-- Items up to the order of their maps' pairs, and the items that have a deterministic spelling.
use Rattle.std.specs.Prelude.{◌≡◌, ℕ, zero, suc, ◌^◌, ◌<◌, ◌≤◌, ◌⊎◌, List, ◌++◌, map, length, true, false, Ok}
use Rattle.std.specs.List.{AllByRecursion}
use Rattle.std.specs.Str.{is_utf8}
use Rattle.cbor_core.specs.declared.item.Item.{Item, out-Item}
use Rattle.cbor_core.specs.declared.item.Item.TheOpen.{Item-F}
use Rattle.cbor_core.specs.declared.item.Item.TheFolds.{fold-Item}
use Rattle.cbor_core.specs.declared.item.Item.TheVariants as items
use Rattle.cbor_core.specs.Deterministic.{det, in_key_order}
use Rattle.cbor_core.specs.Reading.{first_item}

-- pairs in the order that the core deterministic encoding gives them (RFC 8949, section 4.2.1)
abbrev pub in_order : List (Item × Item) → List (Item × Item)
in_order pairs = map (λ e. e.1) (in_key_order (map (λ p. (det p.0, p)) pairs))

abbrev pub norm_step : Item-F Item → Item
norm_step (Item-F.Uint n) = items.Uint n
norm_step (Item-F.Nint n) = items.Nint n
norm_step (Item-F.Bytes b) = items.Bytes b
norm_step (Item-F.Text t) = items.Text t
norm_step (Item-F.Array xs) = items.Array xs
norm_step (Item-F.Map ps) = items.Map (in_order ps)
norm_step (Item-F.Tag t x) = items.Tag t x
norm_step (Item-F.Simple n) = items.Simple n

-- the item with the pairs of each map in order
abbrev pub norm : Item → Item
norm = fold-Item Item norm_step

-- one layer of an item that has a spelling, where `fits` says so of the items inside it
abbrev pub IsFitLayer : (Item → Type 0) → Item-F Item → Type 0
IsFitLayer fits (Item-F.Uint n) = n < 2 ^ 64
IsFitLayer fits (Item-F.Nint n) = n < 2 ^ 64
IsFitLayer fits (Item-F.Bytes b) = length b < 2 ^ 64
IsFitLayer fits (Item-F.Text t) = (length t < 2 ^ 64) × (is_utf8 t ≡ true)
IsFitLayer fits (Item-F.Array xs) = (length xs < 2 ^ 64) × AllByRecursion fits xs
IsFitLayer fits (Item-F.Map ps) = (length ps < 2 ^ 64) × AllByRecursion (λ p. fits p.0 × fits p.1) ps
IsFitLayer fits (Item-F.Tag t x) = (t < 2 ^ 64) × fits x
IsFitLayer fits (Item-F.Simple n) = (n < 24) ⊎ ((32 ≤ n) × (n < 2 ^ 8))

-- within so many levels: arguments below 2 ^ 64, text in UTF-8, and no simple value of 24 to 31
unfoldable pub IsFitWithin : ℕ → Item → Type 0
IsFitWithin zero x = ⊥
IsFitWithin (suc levels) x = IsFitLayer (IsFitWithin levels) (out-Item x)

abbrev pub IsFit : Item → Type 0
IsFit x = IsFitWithin 16 x

-- what the text is read as, whatever follows it: the norm, and all of the text
abbrev pub IsReadBack : Item → List ℕ → Type 0
IsReadBack x text = (rest : List ℕ) → (first_item true (text ++ rest) ≡ Ok (norm x, length text)) × (first_item false (text ++ rest) ≡ Ok (norm x, length text))

-- Pairs of ServiceInfo as items, and the bytes that a list of them takes (FIDO Device Onboard 1.1, section 3.8.2).
use Rattle.std.specs.Prelude.{ℕ, ◌≤◌, List, [], ◌∷◌, map, length}
use Rattle.cbor_core.specs.declared.item.Item.{Item}
use Rattle.cbor_core.specs.declared.item.Item.TheVariants as items
use Rattle.cbor_core.specs.Deterministic.{det}
use Rattle.service_info.specs.declared.pair.Pair.{Pair}

-- a pair is an array of its key and the bytes of its value
abbrev pub item_of_pair : Pair → Item
item_of_pair p = items.Array (items.Text p.key ∷ items.Bytes p.value ∷ [])

abbrev pub item_of_pairs : List Pair → Item
item_of_pairs pairs = items.Array (map item_of_pair pairs)

-- how many bytes a pair takes, and a list of pairs with its head
unfoldable pub pair_length : Pair → ℕ
pair_length p = length (det (item_of_pair p))

unfoldable pub length_of : List Pair → ℕ
length_of pairs = length (det (item_of_pairs pairs))

abbrev pub Fits : ℕ → List Pair → Type 0
Fits size pairs = length_of pairs ≤ size

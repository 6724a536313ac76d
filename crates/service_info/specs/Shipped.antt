-- The devmod of a device that says no more than it has to.
use Rattle.std.specs.Prelude.{◌≡◌, ◌<◌, ◌^◌, ℕ, List, [], ◌∷◌, length, map, codes, true}
use Rattle.std.specs.Str.{is_utf8}
use Rattle.cbor_core.specs.declared.item.Item.{Item}
use Rattle.cbor_core.specs.declared.item.Item.TheVariants as items
use Rattle.cbor_core.specs.Deterministic.{det}
use Rattle.service_info.specs.declared.devmod.Devmod.{Devmod}
use Rattle.service_info.specs.declared.devmod_key.DevmodKey.{DevmodKey}
use Rattle.service_info.specs.declared.devmod_key.DevmodKey.TheVariants as key
use Rattle.service_info.specs.declared.pair.Pair.{Pair}
use Rattle.service_info.specs.DevmodKey.{key_text}

-- what the device is, where it says so of itself and names its modules
abbrev pub shipped : List ℕ → List (List ℕ) → Devmod
shipped info modules = record { os = codes "linux"; arch = codes "lab"; version = codes "1"; device = info; bin = codes "lab"; modules = modules }

-- a pair of devmod with the deterministic encoding of an item
abbrev pub pair_of : DevmodKey → Item → Pair
pair_of name item = record { key = key_text name; value = det item }

-- all names, for the places from 0 on
abbrev pub item_of_names : List (List ℕ) → Item
item_of_names names = items.Array (items.Uint 0 ∷ items.Uint (length names) ∷ map items.Text names)

-- its pairs, in the order in which a missing one is named
abbrev pub pairs_of : Devmod → List Pair
pairs_of devmod =
    pair_of key.Active (items.Simple 21)
    ∷ pair_of key.Os (items.Text devmod.os)
    ∷ pair_of key.Arch (items.Text devmod.arch)
    ∷ pair_of key.Version (items.Text devmod.version)
    ∷ pair_of key.Device (items.Text devmod.device)
    ∷ pair_of key.Bin (items.Text devmod.bin)
    ∷ pair_of key.NumModules (items.Uint (length devmod.modules))
    ∷ pair_of key.Modules (item_of_names devmod.modules)
    ∷ []

-- what holds of any text in memory
abbrev pub IsText : List ℕ → Type 0
IsText text = (length text < 2 ^ 64) × (is_utf8 text ≡ true)

-- the texts in it
abbrev pub texts_of : Devmod → List (List ℕ)
texts_of devmod = devmod.os ∷ devmod.arch ∷ devmod.version ∷ devmod.device ∷ devmod.bin ∷ devmod.modules

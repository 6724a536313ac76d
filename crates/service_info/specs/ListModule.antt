-- A module over a list, as contracts see it.
use Rattle.std.specs.Prelude.{List, reverse}
use Rattle.service_info.specs.declared.pair.Pair.{Pair}
use Rattle.service_info.specs.declared.list_module.ListModule.{ListModule}

-- the pairs still to be given, and those taken
abbrev pub pairs_left : ListModule → List Pair
pairs_left m = reverse m.reversed.items

abbrev pub pairs_taken : ListModule → List Pair
pairs_taken m = m.taken.items

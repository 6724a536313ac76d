use Rattle.std.proofs.Common.{◌≡◌, take}
use Rattle.service_info.proofs.info_pairs.InfoPairs.copy.Given as goal

abbrev pub invariant-loop-pair : goal.invariant-loop-pair
invariant-loop-pair l = l.pairs.items ≡ take l.pair-index l.all

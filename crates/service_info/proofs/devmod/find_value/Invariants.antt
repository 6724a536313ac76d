use Rattle.std.proofs.Common.{◌≡◌, drop, find}
use Rattle.service_info.specs.Devmod.{has_key}
use Rattle.service_info.specs.DevmodKey.{key_text}
use Rattle.service_info.proofs.devmod.find_value.Given as goal

abbrev pub invariant-loop-pair : goal.invariant-loop-pair
invariant-loop-pair l = find (has_key (key_text l.key)) (drop l.pair-index l.pairs) ≡ find (has_key (key_text l.key)) l.pairs

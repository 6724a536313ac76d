use Rattle.std.proofs.Common.{◌≡◌, drop}
use Rattle.service_info.specs.Devmod.{lists_in}
use Rattle.service_info.proofs.AllLaws.{with_front}
use Rattle.service_info.proofs.module_names.read_all_lists.Given as goal

abbrev pub invariant-loop-pair : goal.invariant-loop-pair
invariant-loop-pair l = with_front l.lists.items (lists_in (drop l.pair-index l.pairs)) ≡ lists_in l.pairs

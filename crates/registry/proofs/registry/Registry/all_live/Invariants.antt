use Rattle.std.proofs.Common.{◌≡◌}
use Rattle.registry.specs.Entries.{all_living}
use Rattle.registry.proofs.registry.Registry.all_live.Given as goal

abbrev pub invariant-loop-registration : goal.invariant-loop-registration
invariant-loop-registration g l = all_living l.now l.registration-iterator ≡ all_living l.now l.self

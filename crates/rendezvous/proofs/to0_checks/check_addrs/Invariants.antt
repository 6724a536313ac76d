use Rattle.std.proofs.Common.{◌≡◌}
use Rattle.std.specs.Prelude.{drop}
use Rattle.fdo_rules.specs.Rendezvous.{misplaced}
use Rattle.rendezvous.proofs.to0_checks.check_addrs.Given as goal

abbrev pub invariant-loop-addr : goal.invariant-loop-addr
invariant-loop-addr l = (l.index ≡ l.addr-index) × (misplaced l.index (drop l.index l.addrs) ≡ misplaced 0 l.addrs)

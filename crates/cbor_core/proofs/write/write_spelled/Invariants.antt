use Rattle.std.proofs.Common.{◌≡◌, ◌++◌, length, map, flat_map}
use Rattle.std.specs.Map.Iter.{deref_pair}
use Rattle.cbor_core.specs.Head.{head}
use Rattle.cbor_core.proofs.write.write_spelled.Given as goal

abbrev pub invariant-loop-key : goal.invariant-loop-key
invariant-loop-key l = l.out.items ≡ l.fn.out.items ++ (head 5 (length l.spelled.entries) ++ flat_map (λ p. p.0 ++ p.1) (map deref_pair l.yielded))

use Rattle.measures.proofs.cbor.+walk.Given as goal

abbrev pub decreases-walk : goal.decreases-walk
decreases-walk l = l.levels

abbrev pub invariant-loop-part : goal.invariant-loop-part
invariant-loop-part l = Unit {0}

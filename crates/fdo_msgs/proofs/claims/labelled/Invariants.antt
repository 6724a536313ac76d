use Rattle.std.proofs.Common.{◌≡◌, drop}
use Rattle.cbor_core.specs.Shapes.{labelled}
use Rattle.fdo_msgs.proofs.claims.labelled.Given as goal

abbrev pub invariant-loop-pair : goal.invariant-loop-pair
invariant-loop-pair l = labelled l.label (drop l.pair-index l.pairs) ≡ labelled l.label l.pairs

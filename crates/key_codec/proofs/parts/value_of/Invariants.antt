use Rattle.std.proofs.Common.{◌≡◌, drop}
use Rattle.cbor_core.specs.Shapes.{labelled}
use Rattle.key_codec.proofs.parts.value_of.Given as goal

abbrev pub invariant-loop-key : goal.invariant-loop-key
invariant-loop-key l = labelled l.label (drop l.key-index l.pairs) ≡ labelled l.label l.pairs

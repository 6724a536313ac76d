use Rattle.std.proofs.Common.{◌≡◌, take}
use Rattle.cbor_core.proofs.copy.+copy.Given as goal

abbrev pub invariant-copy_items-loop-item : goal.invariant-copy_items-loop-item
invariant-copy_items-loop-item l = l.all ≡ take l.item-index l.items

abbrev pub invariant-copy_pairs-loop-key : goal.invariant-copy_pairs-loop-key
invariant-copy_pairs-loop-key l = l.all ≡ take l.key-index l.pairs

use Rattle.std.proofs.Common.{◌≡◌, drop}
use Rattle.key_codec.specs.Parts.{all_bytes}
use Rattle.key_codec.proofs.Chains.{with_front}
use Rattle.key_codec.proofs.read.read_all.Given as goal

abbrev pub invariant-loop-item : goal.invariant-loop-item
invariant-loop-item l = with_front l.all.items (all_bytes (drop l.item-index l.items)) ≡ all_bytes l.items

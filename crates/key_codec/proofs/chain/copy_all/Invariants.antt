use Rattle.std.proofs.Common.{◌≡◌, take}
use Rattle.key_codec.proofs.chain.copy_all.Given as goal

abbrev pub invariant-loop-blob : goal.invariant-loop-blob
invariant-loop-blob l = l.all.items ≡ take l.blob-index l.blobs

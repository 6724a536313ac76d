use Rattle.std.proofs.Common.{◌≡◌, take, map}
use Rattle.cbor_core.specs.declared.item.Item.TheVariants as items
use Rattle.key_codec.proofs.write.blob_items.Given as goal

abbrev pub invariant-loop-blob : goal.invariant-loop-blob
invariant-loop-blob l = l.all ≡ map items.Bytes (take l.blob-index l.blobs)

use Rattle.std.proofs.Common.{◌≡◌, ◌+◌, ◌*◌, drop}
use Rattle.voucher_store.specs.Image.{candidates}
use Rattle.voucher_store.proofs.image.has_room.Given as goal

abbrev pub invariant-loop-entry : goal.invariant-loop-entry
invariant-loop-entry l = l.at + 24 * candidates (drop l.entry-index l.entries) ≡ l.place + 24 * candidates l.entries

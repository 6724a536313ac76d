use Rattle.std.proofs.Common.{◌≡◌, ◌≢◌, ◌/◌, ◌%◌, take}
use Rattle.suite_port.specs.LabSeal.{stream, stream_block, masked}
use Rattle.suite_port.proofs.lab_seal.combined.Given as goal

-- the bytes so far are combined, and the block is that of the byte before
abbrev pub invariant-loop-place : goal.invariant-loop-place
invariant-loop-place l = record {
  all : l.all.items ≡ masked (stream l.key l.iv) 0 (take l.place l.text);
  block : l.place % 32 ≢ 0 → l.block ≡ stream_block l.key l.iv (l.place / 32);
}

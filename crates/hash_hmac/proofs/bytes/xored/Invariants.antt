use Rattle.std.proofs.Common.{◌≡◌, length, take}
use Rattle.hash_hmac.specs.Bytes.{xor_all}
use Rattle.hash_hmac.proofs.bytes.xored.Given as goal

-- the bytes so far are combined
abbrev pub invariant-loop-i : goal.invariant-loop-i
invariant-loop-i g l = record {
  length : length l.combined ≡ g.row.N;
  combined : take l.i l.combined ≡ xor_all l.byte (take l.i l.block);
}

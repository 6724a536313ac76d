use Rattle.std.proofs.Common.{◌≡◌, ◌-◌, length, take, drop, replicate}
use Rattle.hash_hmac.proofs.bytes.padded.Given as goal

-- the bytes so far are copied, and zeros stand past them
abbrev pub invariant-loop-i : goal.invariant-loop-i
invariant-loop-i g l = record {
  length : length l.all ≡ g.row.N;
  copied : take l.i l.all ≡ take l.i l.bytes;
  zeros : drop l.i l.all ≡ replicate (g.row.N - l.i) 0;
}

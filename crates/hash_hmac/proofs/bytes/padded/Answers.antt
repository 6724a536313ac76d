use Rattle.std.proofs.Common.{arith}
use Rattle.std.proofs.lemmas.Grind.{common_steps}
use Rattle.hash_hmac.proofs.Zeros.{zeros_more}
use Rattle.hash_hmac.proofs.bytes.padded.Goals as goal

pub loop-i-preserved : goal.loop-i-preserved
loop-i-preserved g c = record {
  length = grind (arith, common_steps);
  copied = grind (arith, common_steps);
  zeros = zeros_more c.loop-i.all g.row.N c.loop-i.i _ (omega arith) c.loop-i.invariant.zeros;
}

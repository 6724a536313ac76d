use Rattle.key_codec.proofs.Chains.{chains_decided}
use Rattle.key_codec.proofs.chain.X5Chain.same.Goals as goal

pub returns : goal.returns
returns c = rw (← c.as_list.ensures.value, ← c.as_list-2.ensures.value) (chains_decided c.as_list.result.now c.as_list-2.result.now c.eq.result c.eq.ensures)

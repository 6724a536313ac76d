use Rattle.voucher_map.proofs.KeyLaws.{same_told}
use Rattle.voucher_map.proofs.keys.same_key.Goals as goal

pub returns : goal.returns
returns c = same_told c.same.result c.args.one.now c.args.other.now c.same.ensures

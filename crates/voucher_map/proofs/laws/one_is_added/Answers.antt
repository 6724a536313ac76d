use Rattle.voucher_map.proofs.EntryLaws.{adds_last}
use Rattle.voucher_map.proofs.laws.one_is_added.Goals as goal

pub returns : goal.returns
returns c = adds_last

use Rattle.voucher_map.proofs.EntryLaws.{changes_one}
use Rattle.voucher_map.proofs.laws.one_changes.Goals as goal

pub returns : goal.returns
returns c = changes_one

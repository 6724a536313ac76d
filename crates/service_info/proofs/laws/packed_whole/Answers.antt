use Rattle.service_info.proofs.PackedLaws.{whole}
use Rattle.service_info.proofs.laws.packed_whole.Goals as goal

pub returns : goal.returns
returns c = whole

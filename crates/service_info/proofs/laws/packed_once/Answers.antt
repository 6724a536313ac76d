use Rattle.service_info.proofs.PackedLaws.{once}
use Rattle.service_info.proofs.laws.packed_once.Goals as goal

pub returns : goal.returns
returns c = once

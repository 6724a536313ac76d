use Rattle.std.proofs.Common.{◌≡◌, length}
use Rattle.cbor_core.specs.Spots.{spot_parts, spots_of}
use Rattle.voucher_chain.specs.Fault.{first_fault}
use Rattle.voucher_chain.specs.RvInfo.{directive_fault}
use Rattle.voucher_chain.proofs.rv_info.directives_fault.Given as goal

abbrev pub invariant-loop-next : goal.invariant-loop-next
invariant-loop-next l = first_fault directive_fault (spots_of l.next) ≡ first_fault directive_fault (spot_parts l.part.spot)

abbrev pub decreases-loop-next : goal.decreases-loop-next
decreases-loop-next l = length (spots_of l.next)

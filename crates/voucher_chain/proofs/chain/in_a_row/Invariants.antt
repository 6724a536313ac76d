use Rattle.std.proofs.Common.{◌≡◌, flat_map, take}
use Rattle.voucher_chain.proofs.chain.in_a_row.Given as goal

abbrev pub invariant-loop-certificate : goal.invariant-loop-certificate
invariant-loop-certificate l = l.all.items ≡ flat_map (λ certificate. certificate) (take l.certificate-index l.certificates)

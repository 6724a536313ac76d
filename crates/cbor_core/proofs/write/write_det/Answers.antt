use Rattle.std.proofs.Common.{◌≡◌, rules}
use Rattle.cbor_core.specs.Deterministic.{det}
use Rattle.cbor_core.proofs.Readings.{read_back}
use Rattle.cbor_core.proofs.write.write_det.Goals as goal

pub returns-clause-back : goal.returns-clause-back
returns-clause-back c = λ fit. let e : c.new.result ≡ det c.args.item.now = search rules in read_back c.args.item.now c.new.result e fit

use Rattle.std.proofs.Common.{drop}
use Rattle.cose_envelopes.specs.Opening.{maced_value}
use Rattle.cose_envelopes.proofs.SealLaws.{written_maced}
use Rattle.cose_envelopes.proofs.sealing_etm.write_maced.Goals as goal

pub returns-clause-read : goal.returns-clause-read
returns-clause-read c =
    written_maced c.in_ok-value.value (maced_value (drop 16 c.args.key.now) c.args.payload) c.write_mac0.result c.in_ok-value.ensures.value (c.write_mac0.ensures.said c.in_ok-value.ensures.whole)

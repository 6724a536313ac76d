use Rattle.std.proofs.Common.{◌≡◌}
use Rattle.std.proofs.Math.Facts.{to_z-of_z}
use Rattle.cose_envelopes.specs.Envelope.{header_of}
use Rattle.cose_envelopes.proofs.HeaderLaws.{is_i64, written_header, names_said}
use Rattle.cose_envelopes.proofs.protected.protected.Goals as goal

pub returns-clause-names : goal.returns-clause-names
returns-clause-names c =
    let header : c.in_ok-header.header ≡ header_of c.args.alg = rw (to_z-of_z c.ranges.alg) at c.in_ok-header.ensures in
    names_said c.args.alg c.write_det.result (is_i64 c.args.alg c.ranges.alg) (written_header c.args.alg c.in_ok-header.header c.write_det.result header c.write_det.ensures.value)

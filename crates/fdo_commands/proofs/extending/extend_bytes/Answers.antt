use Rattle.fdo_commands.specs.Outside.{signing}
use Rattle.fdo_commands.proofs.ExtendEndings.{refused_extends}
use Rattle.fdo_commands.proofs.extending.extend_bytes.Goals as goal

pub returns-in-Err : goal.returns-in-Err
returns-in-Err g c =
    refused_extends (signing g.S.Verifier.verifies g.S.Signer.algorithm g.S.Signer.loads g.S.CertReader.key_in) _ _ _ _ c.in-Err.fault c.refused.result c.refused.ensures c.in-Err.ensures.refused c.in-Err.ensures.held c.in-Err.ensures.faults c.in-Err.ensures.asked

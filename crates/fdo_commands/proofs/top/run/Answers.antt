use Rattle.fdo_commands.specs.Outside.{signing}
use Rattle.fdo_commands.proofs.Outcomes.{ran_step}
use Rattle.fdo_commands.proofs.top.run.Goals as goal

pub returns-in-StepRendezvous-clause-ran : goal.returns-in-StepRendezvous-clause-ran
returns-in-StepRendezvous-clause-ran g c =
    ran_step (signing g.S.Verifier.verifies g.S.Signer.algorithm g.S.Signer.loads g.S.CertReader.key_in) c.args.command _ _ c.step_rendezvous.result c.in-StepRendezvous.is c.step_rendezvous.ensures.ends.0 c.step_rendezvous.ensures.ends.1

use Rattle.std.proofs.Common.{rules}
use Rattle.suite_port.proofs.Holding.{adds_key}
use Rattle.suite_port.proofs.lab_suite.LabSuite.hold.Goals as goal

pub returns-clause-held : goal.returns-clause-held
returns-clause-held c =
    adds_key c.args.self.now.keys.items c.push.new.self.items c.in_ok-key.key c.args.key.now (search rules) (search rules)

use Rattle.std.proofs.Common.{arith, rules, refl}
use Rattle.std.proofs.lemmas.List.{drop_all}
use Rattle.fdo_ports.proofs.Behind.{gives_rest}
use Rattle.fdo_ports.proofs.plain.PlainSourceSource.read.Goals as goal

pub returns-then-self-len-clause-bytes : goal.returns-then-self-len-clause-bytes
returns-then-self-len-clause-bytes c = (omega arith, refl, λ _. drop_all c.args.self.now.given c.args.self.now.content.items (search rules))

pub returns-clause-bytes : goal.returns-clause-bytes
returns-clause-bytes c = gives_rest c.args.self.now.content.items c.split_at.result.1.now c.args.into.now c.copy_front-count.new.into c.args.self.now.given c.copy_front-count.result (search rules) (search rules) (search rules) (search rules) (search rules)

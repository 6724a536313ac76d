use Rattle.fdo_commands.proofs.fault_line.end_with.Goals as goal

pub returns-clause-line : goal.returns-clause-line
returns-clause-line g c = (c.write_all.result, c.write_all.ensures.bytes, c.write_all.ensures.faults)

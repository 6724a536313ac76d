use Rattle.fdo_commands.proofs.texts.end_told.Goals as goal

pub returns-in-Refused-clause-told : goal.returns-in-Refused-clause-told
returns-in-Refused-clause-told g c =
    (c.as_list-in-Refused.result.now, (let is = c.in-Refused.is in let line = c.as_list-in-Refused.ensures in cc), c.end_with.ensures.line)

use Rattle.fdo_commands.proofs.CommandWords.{form_said, four_found, four_items}
use Rattle.fdo_commands.proofs.command.Command.of.Goals as goal

pub returns-in-len4-clause-keys : goal.returns-in-len4-clause-keys
returns-in-len4-clause-keys c = four_found c.one-item-then-words-lt5.result c.two-item-then-words-lt5.result c.three-item.result c.four-item.result c.of_four.result c.of_four.ensures.found

pub returns-in-len4-clause-no_memory : goal.returns-in-len4-clause-no_memory
returns-in-len4-clause-no_memory c =
    let all = four_items c.args.words.now _ _ _ _ c.in-len4.len_at_least c.in-len4.len_below c.one-item-then-words-lt5.is c.two-item-then-words-lt5.is c.three-item.is c.four-item.is in
    form_said c.args.words.now _ _ _ _ all c.of_four.result c.of_four.ensures.extend

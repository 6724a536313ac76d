use Rattle.std.proofs.Common.{◌∙◌}
use Rattle.cbor_core.proofs.KeySets.{passed}
use Rattle.cbor_core.proofs.keys.is_passed.Goals as goal

pub returns-in-Some : goal.returns-in-Some
returns-in-Some c = c.lt.ensures ∙ passed c.args.key.now c.in-Some.last.now c.args.keys.now.keys c.in-Some.ensures.all_up_to c.in-Some.ensures.member

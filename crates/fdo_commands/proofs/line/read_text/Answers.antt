use Rattle.std.proofs.Common.{subst}
use Rattle.fdo_commands.specs.Words.{ReadsHex, ReadsToken}
use Rattle.fdo_commands.proofs.LineParts.{no_body, no_kind, no_token, not_words}
use Rattle.fdo_commands.proofs.line.read_text.Goals as goal

pub returns-in_default : goal.returns-in_default
returns-in_default c = not_words c.args.line.now c.in_default.ensures.none

pub returns-in_default-read_number : goal.returns-in_default-read_number
returns-in_default-read_number c =
    let words = c.in-Some.words in
    no_kind c.args.line.now words.kind.now words.token.now words.body.now c.in-Some.ensures.some c.in_default-read_number.ensures.none

pub returns-in-Wrong : goal.returns-in-Wrong
returns-in-Wrong c =
    let words = c.in-Some.words in
    let wrong = subst (ReadsToken words.token.now) c.in-Wrong.is c.in_ok-read_token.ensures in
    no_token c.args.line.now words.kind.now words.token.now words.body.now c.in-Some.ensures.some wrong.0 wrong.1

pub returns-in_default-2 : goal.returns-in_default-2
returns-in_default-2 c =
    let words = c.in-Some.words in
    no_body c.args.line.now words.kind.now words.token.now words.body.now c.in-Some.ensures.some (subst (ReadsHex words.body.now) c.in_default-2.is c.in_ok-body.ensures)

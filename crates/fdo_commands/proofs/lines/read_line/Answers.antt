use Rattle.std.proofs.Common.{sym, ◌∙◌, subst}
use Rattle.fdo_commands.specs.Input.{ReadsText}
use Rattle.fdo_commands.proofs.LineFeeds.{has_feed, said_line}
use Rattle.fdo_commands.proofs.lines.read_line.Goals as goal

pub returns-in_default : goal.returns-in_default
returns-in_default c = λ p rest fits same. has_feed c.args.bytes.now rest p c.in_default.ensures.none same

pub returns-in-None : goal.returns-in-None
returns-in-None c = λ p rest fits same.
    let none = subst (ReadsText c.in-Some.line.now) c.in-None.is c.in_ok-packet.ensures in
    none p fits (said_line c.in-Some.line.now c.in-Some.after.now rest p c.in-Some.ensures.some.1 fits (sym c.in-Some.ensures.some.0 ∙ same))

use Rattle.std.proofs.Common.{sym}
use Rattle.fdo_msgs.proofs.Cuts.{cut_found, cut_none}
use Rattle.fdo_msgs.proofs.words.cut.Goals as goal

pub returns-in-Some-clause-some : goal.returns-in-Some-clause-some
returns-in-Some-clause-some c =
    rw (c.split_at-in-Some.ensures.back, c.split_at.ensures.back, c.split_at.ensures.front) (cut_found c.args.mark c.in-Some.at c.args.bytes.now (sym c.in-Some.ensures))

pub returns-in-None-clause-none : goal.returns-in-None-clause-none
returns-in-None-clause-none c = cut_none c.args.mark c.args.bytes.now (sym c.in-None.ensures)

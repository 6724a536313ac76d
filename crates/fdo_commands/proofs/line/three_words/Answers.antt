use Rattle.std.proofs.Common.{◌∷◌, ◌++◌, subst, ◌∙◌, sym}
use Rattle.fdo_msgs.specs.Words.{Lacks}
use Rattle.fdo_msgs.proofs.Cuts.{cut_once, not_lacking}
use Rattle.fdo_commands.proofs.line.three_words.Goals as goal

pub returns-in-None-cut-clause-none : goal.returns-in-None-cut-clause-none
returns-in-None-cut-clause-none c = λ kind token body words.
    let rest = (cut_once 32 c.in-Some.kind.now c.in-Some.rest.now kind (token ++ 32 ∷ body) c.in-Some.ensures.some.1 words.one (sym c.in-Some.ensures.some.0 ∙ words.parts)).1 in
    not_lacking 32 token body (subst (Lacks 32) rest c.in-None-cut.ensures.none)

pub returns-in-None-clause-none : goal.returns-in-None-clause-none
returns-in-None-clause-none c = λ kind token body words. not_lacking 32 kind (token ++ 32 ∷ body) (subst (Lacks 32) words.parts c.in-None.ensures.none)

use Rattle.std.proofs.Common.{◌≡◌, ◌++◌, List, ℕ, ap, ◌∙◌, subst}
use Rattle.std.specs.Prelude.{codes}
use Rattle.fdo_ports.specs.Stream.{stream}
use Rattle.fdo_commands.specs.Ending.{EndsWith, wrong_input}
use Rattle.fdo_commands.proofs.fault_line.end_with_place.Goals as goal

pub returns-clause-line : goal.returns-clause-line
returns-clause-line g c =
    let output = stream g.O.Channel in
    let same : c.as_bytes.result.now ≡ wrong_input c.args.place =
    c.as_bytes.ensures.value ∙ c.as_str.ensures.value ∙ c.wrong_input_line-line.ensures
    ∙ ap (λ (digits : List ℕ). codes "fault input " ++ digits ++ codes "\n") c.format.ensures.text in
    subst (EndsWith (output c.args.output.now) (output c.end_with.new.output)) same c.end_with.ensures.line

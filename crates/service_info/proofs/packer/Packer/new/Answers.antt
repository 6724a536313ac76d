use Rattle.std.proofs.Common.{sym, ap, ◌∙◌}
use Rattle.std.specs.List.{list_any, position}
use Rattle.service_info.proofs.CutLaws.{none_at, any_reversed}
use Rattle.service_info.specs.Packed.{is_too_wide}
use Rattle.service_info.proofs.packer.Packer.new.Goals as goal

pub invariant_of-result : goal.invariant_of-result
invariant_of-result c =
    let wide = is_too_wide c.args.size in
    ap (list_any wide) c.reversed.ensures ∙ any_reversed wide c.args.pairs.items ∙ none_at wide c.args.pairs.items (ap (position wide) (sym c.as_slice.ensures.value) ∙ sym c.find_wide.ensures ∙ c.in_default.is)

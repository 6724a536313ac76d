use Rattle.std.proofs.Common.{◌++◌, ◌+◌, length, sym, ap, ◌∙◌}
use Rattle.std.proofs.lemmas.List.{take_all}
use Rattle.std.specs.List.{flat_map}
use Rattle.cbor_core.specs.declared.item.Item.TheVariants as items
use Rattle.cbor_core.specs.Deterministic.{det}
use Rattle.cbor_core.specs.Head.{head}
use Rattle.service_info.proofs.ShippedLaws.{names_written}
use Rattle.service_info.proofs.shipped_devmod.names_value.Goals as goal

pub returns-clause-value : goal.returns-clause-value
returns-clause-value c =
    let names = c.args.names.now in
    c.loop-name.invariant.bytes
    ∙ ap (λ all. (head 4 (length names + 2) ++ head 0 0 ++ head 0 (length names)) ++ flat_map (λ name. det (items.Text name)) all) (take_all c.loop-name.name-index names c.loop-name-test.false)
    ∙ sym (names_written names)

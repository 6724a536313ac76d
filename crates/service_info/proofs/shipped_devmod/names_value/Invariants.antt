use Rattle.std.proofs.Common.{◌≡◌, ◌++◌, ◌+◌, take, length}
use Rattle.std.specs.List.{AllByRecursion, flat_map}
use Rattle.cbor_core.specs.declared.item.Item.TheVariants as items
use Rattle.cbor_core.specs.Deterministic.{det}
use Rattle.cbor_core.specs.Head.{head}
use Rattle.service_info.specs.Shipped.{IsText}
use Rattle.service_info.proofs.shipped_devmod.names_value.Given as goal

abbrev pub invariant-loop-name : goal.invariant-loop-name
invariant-loop-name l = record {
  bytes : l.value.items ≡ (head 4 (length l.names + 2) ++ head 0 0 ++ head 0 (length l.names)) ++ flat_map (λ name. det (items.Text name)) (take l.name-index l.names);
  texts : AllByRecursion IsText (take l.name-index l.names);
}

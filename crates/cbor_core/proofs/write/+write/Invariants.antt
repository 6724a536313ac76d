use Rattle.std.proofs.Common.{◌≡◌, ◌++◌, ◌≤◌, length, map, flat_map, take, drop}
use Rattle.std.specs.List.{concat}
use Rattle.cbor_core.specs.Head.{head}
use Rattle.cbor_core.specs.Deterministic.{det, in_key_order}
use Rattle.cbor_core.specs.Keys.{IsTop}
use Rattle.cbor_core.specs.Reading.{key_spellings}
use Rattle.cbor_core.proofs.Dets.{det_pair}
use Rattle.cbor_core.proofs.write.+write.Given as goal

abbrev pub invariant-write_items-loop-item : goal.invariant-write_items-loop-item
invariant-write_items-loop-item l = l.out.items ≡ l.fn.out.items ++ (head 4 (length l.items) ++ concat (map det (take l.item-index l.items)))

abbrev pub invariant-write_sorted-loop-key : goal.invariant-write_sorted-loop-key
invariant-write_sorted-loop-key l = (l.out.items ≡ l.fn.out.items) × (l.spelled.entries ≡ in_key_order (map (λ p. (det p.0, det p.1)) (take l.key-index l.pairs)))

abbrev pub invariant-write_keys-loop-key : goal.invariant-write_keys-loop-key
invariant-write_keys-loop-key l = record {
  front : take (length l.fn.out.items) l.out.items ≡ l.fn.out.items;
  within : l.mark ≤ length l.out.items;
  top : IsTop (drop l.mark l.out.items) (key_spellings (take l.key-index l.pairs));
  order : in_key_order (map det_pair (take l.key-index l.pairs)) ≡ map det_pair (take l.key-index l.pairs);
}

abbrev pub invariant-write_pairs-loop-key : goal.invariant-write_pairs-loop-key
invariant-write_pairs-loop-key l = l.out.items ≡ l.fn.out.items ++ (head 5 (length l.pairs) ++ flat_map (λ p. p.0 ++ p.1) (map det_pair (take l.key-index l.pairs)))

use Rattle.std.proofs.Common.{◌≡◌, drop}
use Rattle.service_info.specs.Devmod.{all_in, text_of}
use Rattle.service_info.proofs.AllLaws.{with_front}
use Rattle.service_info.proofs.module_names.read_texts.Given as goal

abbrev pub invariant-loop-item : goal.invariant-loop-item
invariant-loop-item l = with_front l.texts.items (all_in text_of (drop l.item-index l.items)) ≡ all_in text_of l.items

use Rattle.std.proofs.Common.{◌≡◌, ℕ, List, ◌+◌, Option, Some, take, drop, ◌∙◌, sym, ap, position}
use Rattle.std.proofs.lemmas.List.{drop-drop}
use Rattle.std.specs.Prelude.{◌&&◌}
use Rattle.service_info.specs.Key.{is_colon, is_key, is_message_byte, is_module_byte, is_name, parted}
use Rattle.service_info.proofs.key.is_key.Goals as goal

are_parts : (key same front rest last : List ℕ) (at : ℕ) (colon : Option ℕ) → same ≡ key → colon ≡ position is_colon same → colon ≡ Some at
    → front ≡ take at same → rest ≡ drop at same → last ≡ drop 1 rest → (is_name is_module_byte front && is_name is_message_byte last) ≡ is_key key
are_parts key same front rest last at colon e found is front-is rest-is last-is =
    let behind : drop 1 (drop at key) ≡ drop (at + 1) key = drop-drop 1 at key in
    ap (λ name. is_name is_module_byte name && is_name is_message_byte last) (front-is ∙ ap (take at) e)
    ∙ ap (λ name. is_name is_module_byte (take at key) && is_name is_message_byte name) (last-is ∙ ap (drop 1) (rest-is ∙ ap (drop at) e) ∙ behind)
    ∙ sym (ap (parted key) (ap (position is_colon) (sym e) ∙ sym found ∙ is))

pub returns-in-Some : goal.returns-in-Some
returns-in-Some c =
    c.are_names.ensures
    ∙ are_parts c.args.key.now c.as_bytes-key.result.now c.split_at.result.0.now c.split_at.result.1.now c.split_at-in-Some.result.1.now c.in-Some.at c.find_colon.result
    c.as_bytes-key.ensures.value c.find_colon.ensures c.in-Some.is c.split_at.ensures.front c.split_at.ensures.back c.split_at-in-Some.ensures.back

use Rattle.std.proofs.Common.{ap, sym, ◌∙◌}
use Rattle.std.specs.Str.{is_utf8}
use Rattle.std.proofs.lemmas.Str.{is_utf8-from_IsUtf8}
use Rattle.voucher_chain.proofs.header.is_text.Goals as goal

pub returns : goal.returns
returns c = ap is_utf8 (sym c.as_list-all.ensures) ∙ is_utf8-from_IsUtf8 c.as_list-all.result.now c.as_list-all.utf8

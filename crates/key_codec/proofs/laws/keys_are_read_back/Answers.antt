use Rattle.std.proofs.Common.{ap, ◌∙◌}
use Rattle.key_codec.specs.Key.{key_in}
use Rattle.key_codec.proofs.Back.{key_back}
use Rattle.key_codec.proofs.Norms.{norm_key}
use Rattle.key_codec.proofs.laws.keys_are_read_back.Goals as goal

pub returns : goal.returns
returns c = record { back = key_back; wire = λ key h. ap key_in (norm_key key) ∙ key_back key h; same = norm_key }

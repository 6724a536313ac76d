use Rattle.std.proofs.Common.{ap, ◌∙◌}
use Rattle.key_codec.specs.SigInfo.{sig_info_in}
use Rattle.key_codec.proofs.SigLaws.{sig_info_back}
use Rattle.key_codec.proofs.Norms.{norm_sig_info}
use Rattle.key_codec.proofs.laws.sig_infos_are_read_back.Goals as goal

pub returns : goal.returns
returns c = record { back = sig_info_back; wire = λ sig h. ap sig_info_in (norm_sig_info sig) ∙ sig_info_back sig h; same = norm_sig_info }

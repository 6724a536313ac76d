use Rattle.std.proofs.Common.{ap, ◌∙◌}
use Rattle.key_codec.specs.Hash.{hash_in}
use Rattle.key_codec.proofs.HashLaws.{hash_back}
use Rattle.key_codec.proofs.Fits.{hash_fits}
use Rattle.key_codec.proofs.Norms.{norm_hash}
use Rattle.key_codec.proofs.laws.hashes_are_read_back.Goals as goal

pub returns : goal.returns
returns c = record { back = hash_back; wire = λ hash all h. ap hash_in (norm_hash hash) ∙ hash_back hash all h; same = norm_hash; fit = hash_fits }

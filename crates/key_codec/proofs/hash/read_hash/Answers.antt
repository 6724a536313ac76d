use Rattle.std.proofs.Common.{sym, ◌∙◌}
use Rattle.key_codec.proofs.HashLaws.{answers_hash, hash_read, hash_steady}
use Rattle.key_codec.proofs.hash.read_hash.Goals as goal

pub returns-clause-found : goal.returns-clause-found
returns-clause-found c = answers_hash c.args.item.now c.hash_at.result c.hash_at.ensures

pub returns-clause-only : goal.returns-clause-only
returns-clause-only c hash all is e = c.hash_at.ensures ∙ hash_read c.args.item.now hash all is e

pub returns-clause-memory : goal.returns-clause-memory
returns-clause-memory c e = hash_steady c.args.item.now (sym c.hash_at.ensures ∙ e)

use Rattle.std.proofs.Common.{rules, nat_lt}
use Rattle.indexmap.proofs.CallerLemmas.{filter-RetainsPairs}
use Rattle.registry.proofs.registry.Registry.drop_ended.Goals as goal

pub returns : goal.returns
returns g c = rw (← c.self.view_is) (filter-RetainsPairs _ (λ e. nat_lt c.args.now e.1.end) _ (λ k v b w f call. search rules) _ _ c.retain.ensures.filtered)

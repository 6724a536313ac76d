use Rattle.std.proofs.Common.{refl, sym, ap, subst, reverse, ◌∙◌}
use Rattle.service_info.specs.Packed.{BeginsPacked}
use Rattle.service_info.proofs.CutLaws.{next_cut, cut_begins}
use Rattle.service_info.proofs.packer.Packer.next.Goals as goal

pub returns-clause-cut : goal.returns-clause-cut
returns-clause-cut c =
    let inside = c.self.inside in let fitting = c.count_fitting-count in let taken = c.in_ok-list.ensures in
    let cut = next_cut inside.size fitting.result inside.reversed.items c.as_slice.result.now c.args.self.now.left c.new.result c.take_end.new.reversed.items
    c.as_slice.ensures.value (ap (λ v. v.left) (sym c.self.view_is)) c.self.invariant fitting.ensures.within fitting.ensures.fits fitting.ensures.longest
    (c.new.ensures ∙ taken.list) taken.rest in
    rw (ap (λ v. v.size) (sym c.self.view_is)) cut.0

pub returns-clause-some : goal.returns-clause-some
returns-clause-some c =
    let inside = c.self.inside in let fitting = c.count_fitting-count in let taken = c.in_ok-list.ensures in
    let cut = next_cut inside.size fitting.result inside.reversed.items c.as_slice.result.now c.args.self.now.left c.new.result c.take_end.new.reversed.items
    c.as_slice.ensures.value (ap (λ v. v.left) (sym c.self.view_is)) c.self.invariant fitting.ensures.within fitting.ensures.fits fitting.ensures.longest
    (c.new.ensures ∙ taken.list) taken.rest in
    cut.1

pub returns-clause-packed : goal.returns-clause-packed
returns-clause-packed c =
    let inside = c.self.inside in let fitting = c.count_fitting-count in let taken = c.in_ok-list.ensures in
    let cut = next_cut inside.size fitting.result inside.reversed.items c.as_slice.result.now (reverse inside.reversed.items) c.new.result c.take_end.new.reversed.items
    c.as_slice.ensures.value refl c.self.invariant fitting.ensures.within fitting.ensures.fits fitting.ensures.longest
    (c.new.ensures ∙ taken.list) taken.rest in
    subst (λ v. BeginsPacked v c.new.result (record { left = reverse c.take_end.new.reversed.items; size = inside.size })) c.self.view_is
    (cut_begins inside.size (reverse inside.reversed.items) c.new.result (reverse c.take_end.new.reversed.items) cut.0)

use Rattle.std.proofs.Common.{◌≡◌, true, Some, sym, subst, ap}
use Rattle.std.specs.Prelude.{is_some}
use Rattle.fdo_ports.specs.Draw.{drawn}
use Rattle.fdo_rules.specs.Rendezvous.{rv_signs}
use Rattle.rendezvous.specs.Carrying.{Comes}
use Rattle.rendezvous.specs.RvState.{outside}
use Rattle.rendezvous.proofs.to1.begin.Goals as goal

pub returns-in_ok-leaf-in-Some-clause-judged : goal.returns-in_ok-leaf-in-Some-clause-judged
returns-in_ok-leaf-in-Some-clause-judged g c s packet clock =
    let before = outside (drawn g.N.Random c.args.random.now) clock in
    let after = outside (drawn g.N.Random c.draw.new.random) clock in
    let owned = c.args.owned.now in
    let known : is_some (g.S.Signer.algorithm owned.leaf) ≡ true = subst (λ key. is_some (g.S.Signer.algorithm key) ≡ true) c.as_list.ensures (sym (ap is_some c.in-Some.ensures)) in
    subst (λ b. Comes (rv_signs b s packet owned.leaf c.args.asked) s packet before c.draw.result after) (sym known)
    (subst (λ leaf. Comes (rv_signs true s packet leaf c.args.asked) s packet before c.draw.result after) c.in_ok-leaf-in-Some.ensures (c.draw.ensures.judged s packet clock))

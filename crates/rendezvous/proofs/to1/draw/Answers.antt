use Rattle.std.proofs.Common.{refl}
use Rattle.fdo_ports.specs.Draw.{drawn}
use Rattle.rendezvous.specs.RvState.{outside}
use Rattle.rendezvous.proofs.to1.draw.Goals as goal

pub returns-clause-judged : goal.returns-clause-judged
returns-clause-judged g c s packet clock =
    (c.draw16-nonce.result, outside (drawn g.N.Random c.draw16-nonce.new.self) clock, ((c.draw16-nonce.ensures.drawn, c.draw16-nonce.ensures.faults), refl), c.with_nonce.ensures.judged s packet clock)

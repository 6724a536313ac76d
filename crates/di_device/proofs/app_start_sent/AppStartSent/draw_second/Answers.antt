use Rattle.fdo_ports.specs.Draw.{drawn}
use Rattle.fdo_rules.specs.DeviceDi.{with_second}
use Rattle.di_device.proofs.Steps.{draws_then}
use Rattle.di_device.proofs.app_start_sent.AppStartSent.draw_second.Goals as goal

pub returns : goal.returns
returns g c =
    let after = drawn g.N.Random c.draw16-two.new.self in
    record {
      step = draws_then (λ s. s.store) (with_second c.args.packet.now c.args.header.now c.args.one) c.args.self.store (drawn g.N.Random c.args.random.now) after after c.draw16-two.result c.with_draws.result
          (c.draw16-two.ensures.drawn, c.draw16-two.ensures.faults) (c.with_draws.ensures.step after);
    }

use Rattle.di_device.proofs.Steps.{reserves, stays}
use Rattle.di_device.proofs.app_start_sent.AppStartSent.reserve.Goals as goal

pub returns-in-Ok-reserve : goal.returns-in-Ok-reserve
returns-in-Ok-reserve g c =
    let done = c.in-Ok-reserve.ensures in
    record {
      step = λ before. reserves c.args.packet.now c.args.header.now c.args.credential c.header_hmac-hmac.result c.args.self.store c.reserve.new.self before c.in-Ok.answer done.fits c.header_hmac-hmac.ensures c.in-Ok.ensures done.reserved;
    }

pub returns-in-Err-reserve : goal.returns-in-Err-reserve
returns-in-Err-reserve g c =
    let refused = c.in-Err-reserve.ensures in
    record {
      step = λ before. stays (λ s. s.store) c.args.packet.now c.args.header.now c.args.credential c.in-Err-reserve.credential c.args.self.store c.reserve.new.self before c.refuse_credential.result refused.given_back refused.refused (c.refuse_credential.ensures.step before);
    }

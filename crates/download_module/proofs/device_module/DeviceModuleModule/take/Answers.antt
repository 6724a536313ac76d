use Rattle.download_module.proofs.device_module.DeviceModuleModule.take.Goals as goal

pub returns-in-Ok-clause-taken : goal.returns-in-Ok-clause-taken
returns-in-Ok-clause-taken c = λ before took. record {
  list = c.in_ok-take.ensures.taken before took.list;
  receiver = c.in-Ok.ensures.taken before took.receiver;
}

pub returns-in-Err-clause-no_memory : goal.returns-in-Err-clause-no_memory
returns-in-Err-clause-no_memory c = λ before took. record {
  list = c.take_back.ensures.taken before c.args.pair.now (c.in_ok-take.ensures.taken before took.list);
  receiver = c.in-Err.ensures.no_memory before took.receiver;
}

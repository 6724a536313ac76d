use Rattle.std.proofs.Common.{◌≡◌, ◌-◌, ◌≤◌, length, take}
use Rattle.port_base.specs.Told.{grown}
use Rattle.fdo_ports.proofs.sink.write_all.Given as goal

-- what is done is written, and nothing else changed
abbrev pub invariant-loop-done : goal.invariant-loop-done
invariant-loop-done g l =
    let written = g.K.Channel.written in
    record {
      within : l.done ≤ length l.bytes;
      bytes : written l.sink ≡ grown (written l.fn.sink) (take l.done l.bytes);
      faults : g.K.Channel.write_faults l.sink ≡ g.K.Channel.write_faults l.fn.sink;
      left : g.K.Channel.left l.sink ≡ g.K.Channel.left l.fn.sink;
      reads : g.K.Channel.read_faults l.sink ≡ g.K.Channel.read_faults l.fn.sink;
    }

abbrev pub decreases-loop-done : goal.decreases-loop-done
decreases-loop-done g l = length l.bytes - l.done

use Rattle.std.proofs.Common.{◌≡◌, ◌-◌, vec_len}
use Rattle.fdo_commands.specs.Stream.{Took}
use Rattle.fdo_commands.proofs.input.read_input.Given as goal

-- all that was read stands there
abbrev pub invariant-loop-buffer : goal.invariant-loop-buffer
invariant-loop-buffer g l = record {
  took : Took (g.I.Channel.left l.fn.input) (g.I.Channel.left l.input) l.all.items;
  faults : g.I.Channel.read_faults l.input ≡ g.I.Channel.read_faults l.fn.input;
  written : g.I.Channel.written l.input ≡ g.I.Channel.written l.fn.input;
  write_faults : g.I.Channel.write_faults l.input ≡ g.I.Channel.write_faults l.fn.input;
}

abbrev pub decreases-loop-buffer : goal.decreases-loop-buffer
decreases-loop-buffer g l = 16777217 - vec_len l.all

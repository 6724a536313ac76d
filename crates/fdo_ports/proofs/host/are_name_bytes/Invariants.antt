use Rattle.std.proofs.Common.{◌≡◌, drop}
use Rattle.fdo_ports.specs.Host.{are_host_bytes}
use Rattle.fdo_ports.proofs.host.are_name_bytes.Given as goal

abbrev pub invariant-loop-byte : goal.invariant-loop-byte
invariant-loop-byte l = are_host_bytes (drop l.byte-index l.bytes) ≡ are_host_bytes l.bytes

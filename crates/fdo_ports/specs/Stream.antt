-- An object of bytes, as contracts see it.
use Rattle.std.specs.Prelude.{◌≡◌, ℕ, List, Option}
use Rattle.fdo_ports.specs.declared.channel.Channel.{Ghosts as Channel}

-- the bytes left to be read and those written so far, where they are told, and how many reads and writes failed
pub record Stream : Type 0 where
  pub left : Option (List ℕ)
  pub written : Option (List ℕ)
  pub read_faults : ℕ
  pub write_faults : ℕ

-- what an object of a type tells, by the type's `Channel`
abbrev pub stream : {X : Type 0} → Channel X → X → Stream
stream told object = record {
  left = told.left object;
  written = told.written object;
  read_faults = told.read_faults object;
  write_faults = told.write_faults object;
}

-- it is only read from: what was written stays
abbrev pub OnlyRead : Stream → Stream → Type 0
OnlyRead before after = (after.written ≡ before.written) × (after.write_faults ≡ before.write_faults)

-- it is only written to: what is left stays
abbrev pub OnlyWritten : Stream → Stream → Type 0
OnlyWritten before after = (after.left ≡ before.left) × (after.read_faults ≡ before.read_faults)

use Rattle.std.proofs.Common.{◌≡◌, take}
use Rattle.cbor_core.specs.Keys.{key_set}
use Rattle.cbor_core.specs.Reading.{key_spellings}
use Rattle.cbor_core.proofs.keys.spell_keys.Given as goal

abbrev pub invariant-loop-key : goal.invariant-loop-key
invariant-loop-key l = l.keys.keys ≡ key_set (key_spellings (take l.key-index l.pairs))

-- The slot that was found in an image, as what the file stands for.
use Rattle.std.specs.Prelude.{Option, None, Some}
use Rattle.disk_port.specs.Slots.{Standing}
use Rattle.disk_port.specs.declared.found.Found.{Found}

abbrev pub standing_found : Option Found → Option Standing
standing_found None = None
standing_found (Some f) = Some (record { side = f.side; generation = f.generation; body = f.body.now })

-- The ends of a session.
use Rattle.fdo_rules.specs.Channel.{Side}
use Rattle.to2_channel.specs.declared.side.Side.{Side as End}
use Rattle.to2_channel.specs.declared.side.Side.TheVariants as ends

abbrev pub side_of : End → Side
side_of ends.Owner = Side.Owner
side_of ends.Device = Side.Device

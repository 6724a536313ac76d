-- What the rules as a whole keep.
use Rattle.std.specs.Prelude.{◌≡◌, ℕ, List, Result}
use Rattle.fdo_msgs.specs.declared.cause.Cause.{Cause}
use Rattle.fdo_msgs.specs.declared.packet.Packet.{Packet}
use Rattle.fdo_rules.specs.Channel.{Side, iv_of}
use Rattle.fdo_rules.specs.DeviceDi.{credentials_row}
use Rattle.fdo_rules.specs.DeviceTo2.{HelloSent, Proved, Walk, ov_next_entry_row, prove_ov_hdr_row, setup_device_row}
use Rattle.fdo_rules.specs.Factory.{FacView, Factory, app_start_row}
use Rattle.fdo_rules.specs.OwnerHello.{Picked, entry_row, hello_row}
use Rattle.fdo_rules.specs.OwnerInfo.{Informed, info_row}
use Rattle.fdo_rules.specs.Owner.{Owner, OwnSession, OwnView}
use Rattle.fdo_rules.specs.Row.{WritesNothing}
use Rattle.fdo_rules.specs.Suite.{Suite}
use Rattle.fdo_msgs.specs.declared.mfg.MfgInfo.{MfgInfo}

-- no vector of the owner's is one of the device's
abbrev pub SidesDiffer : Type 0
SidesDiffer = (m n : ℕ) → iv_of Side.Owner m ≡ iv_of Side.Device n → ⊥

-- up to its last messages a device writes nothing: not at DI.SetCredentials, not while it walks, not at TO2.SetupDevice
abbrev pub DeviceWaits : Type 0
DeviceWaits =
    ((packet : Packet) → WritesNothing (credentials_row packet))
    × ((suite : Suite) (s : HelloSent) (packet : Packet) → WritesNothing (prove_ov_hdr_row suite s packet))
    × ((suite : Suite) (w : Walk) (packet : Packet) → WritesNothing (ov_next_entry_row suite w packet))
    × ((suite : Suite) (p : Proved) (packet : Packet) → WritesNothing (setup_device_row suite p packet))

-- an owner writes nothing at TO2.HelloDevice, TO2.GetOVNextEntry and TO2.DeviceServiceInfo, nor a factory at DI.AppStart
abbrev pub ServersWait : Type 0
ServersWait =
    ((suite : Suite) (owner : Owner) (o : OwnView) (packet : Packet) (picked : Result Picked Cause) → WritesNothing (hello_row suite owner o packet picked))
    × ((o : OwnView) (packet : Packet) (s : OwnSession) (body : Result (List ℕ) Cause) → WritesNothing (entry_row o packet s body))
    × ((o : OwnView) (packet : Packet) (s : OwnSession) (informed : Result Informed Cause) → WritesNothing (info_row o packet s informed))
    × ((suite : Suite) (factory : Factory) (s : FacView) (packet : Packet) (info : Result MfgInfo Cause) → WritesNothing (app_start_row suite factory s packet info))

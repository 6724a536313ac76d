-- Which messages leave a device's credential as it is.
use Rattle.std.specs.Prelude.{◌≡◌, List}
use Rattle.service_info.specs.declared.pair.Pair.{Pair}
use Rattle.fdo_msgs.specs.declared.packet.Packet.{Packet}
use Rattle.fdo_rules.specs.Device.{DevSession, DevView, by_state}
use Rattle.fdo_rules.specs.DeviceTo2.{HelloSent, Proved, Ready, Walk}
use Rattle.fdo_rules.specs.Row.{Always}
use Rattle.fdo_rules.specs.Suite.{Suite}
use Rattle.fdo_rules.specs.To1Client.{To1Job, To1Proved}

abbrev pub Stays : Suite → List Pair → DevView → Packet → DevSession → Type 0
Stays suite pairs d packet session = Always (λ r. r.0.cred ≡ d.cred) (by_state session suite pairs d packet)

-- all but DI.Done, the owner's ServiceInfo, and the end that follows it, whatever the outside answers
abbrev pub CredentialStays : Type 0
CredentialStays = (suite : Suite) (pairs : List Pair) (d : DevView) (packet : Packet) →
    Stays suite pairs d packet DevSession.Starting
    × ((job : To1Job) → Stays suite pairs d packet (DevSession.Asking job))
    × ((s : To1Proved) → Stays suite pairs d packet (DevSession.Locating s))
    × ((s : HelloSent) → Stays suite pairs d packet (DevSession.Greeting s))
    × ((w : Walk) → Stays suite pairs d packet (DevSession.Walking w))
    × ((p : Proved) → Stays suite pairs d packet (DevSession.Proving p))
    × ((r : Ready) → Stays suite pairs d packet (DevSession.Readying r))

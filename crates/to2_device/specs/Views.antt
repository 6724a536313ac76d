-- What the states of a device stand for in the rules.
use Rattle.std.specs.Prelude.{◌≡◌, ℕ, List, ◌++◌, Option, Some, None, Result, Ok, Err}
use Rattle.port_base.specs.Count.{Rises}
use Rattle.fdo_ports.specs.declared.failed.Failed.{Failed}
use Rattle.cose_envelopes.specs.declared.sign1.Sign1.{Sign1}
use Rattle.disk_port.specs.declared.disk.Disk.{Ghosts as Disk}
use Rattle.key_codec.specs.declared.key.PublicKey.{PublicKey}
use Rattle.fdo_rules.specs.DeviceTo2 as rules
use Rattle.fdo_rules.specs.DeviceTo2.{Self, Proved}
use Rattle.fdo_rules.specs.declared.parts.ProveOvHdr.{ProveOvHdr}
use Rattle.to2_channel.specs.View.{channel_of}
use Rattle.to2_device.specs.Credential.{credential_in}
use Rattle.to2_device.specs.declared.device_proved.DeviceProved.{DeviceProved}
use Rattle.to2_device.specs.declared.hello_sent.HelloSent.{HelloSent}
use Rattle.to2_device.specs.declared.idle.Idle.{Idle}
use Rattle.to2_device.specs.declared.proving.Agreed.{Agreed}
use Rattle.to2_device.specs.declared.session.Session.{Session}
use Rattle.to2_device.specs.declared.walk.LastEntry.{LastEntry}
use Rattle.to2_device.specs.declared.walk.Walk.{Walk}
use Rattle.to2_device.specs.declared.walked.Walked.{Walked}
use Rattle.to2_device.specs.declared.walked.Walked.TheVariants as walked

-- before the first entry stand the header and its HMAC, and before each other one the entry before
abbrev pub before_of : ProveOvHdr → Option LastEntry → List ℕ
before_of shown None = shown.payload.header.raw ++ shown.payload.hmac_raw
before_of shown (Some last) = last.raw

abbrev pub key_of : ProveOvHdr → Option LastEntry → PublicKey
key_of shown None = shown.payload.header.key
key_of shown (Some last) = last.key

abbrev pub agreed_of : Agreed → rules.Agreed
agreed_of a = record { alg = a.alg; xb = a.xb; channel = channel_of a.channel }

-- a signature is made, or the count of faults rises
abbrev pub SignsOnce : (List ℕ → List ℕ → List ℕ → Type 0) → ℕ → ℕ → List ℕ → List ℕ → Result Sign1 Failed → Type 0
SignsOnce signed before now key text (Ok proof) = signed key text proof.sig × (now ≡ before)
SignsOnce signed before now key text (Err _) = Rises before now

module _ {D : Type 0} {disk : Disk D} where
  abbrev pub self_of : Session D disk → Self
  self_of s = record { cred = credential_in s.idle.store.credential; me = s.idle.me; offer = s.offer; token = s.token }

  abbrev pub greeting : HelloSent D disk → rules.HelloSent
  greeting s = record { self = self_of s.session; nonce = s.nonce; hello = s.hello }

  abbrev pub walk_of : Walk D disk → rules.Walk
  walk_of w = record { self = self_of w.session; shown = w.shown; index = w.index; before = before_of w.shown w.last; key = key_of w.shown w.last }

  abbrev pub proving : DeviceProved D disk → Proved
  proving s = record { self = self_of s.session; shown = s.shown; setup_dv = s.setup_dv; xb = s.xb; channel = channel_of s.channel }

  abbrev pub on_the_walk : Walked D disk → rules.Walked
  on_the_walk (walked.Chain s) = rules.Walked.Asks (walk_of s.walk)
  on_the_walk (walked.Proved s) = rules.Walked.Proves (proving s)

  abbrev pub idle_walked : Walked D disk → Idle D disk
  idle_walked (walked.Chain s) = s.walk.session.idle
  idle_walked (walked.Proved s) = s.session.idle

-- The keys of devmod that every device sends (FIDO Device Onboard 1.1, section 3.8.3.1).
use Rattle.std.specs.Prelude.{ℕ, List, codes}
use Rattle.service_info.specs.declared.devmod_key.DevmodKey.{DevmodKey}
use Rattle.service_info.specs.declared.devmod_key.DevmodKey.TheVariants as key

abbrev pub key_text : DevmodKey → List ℕ
key_text key.Active = codes "devmod:active"
key_text key.Os = codes "devmod:os"
key_text key.Arch = codes "devmod:arch"
key_text key.Version = codes "devmod:version"
key_text key.Device = codes "devmod:device"
key_text key.Bin = codes "devmod:bin"
key_text key.NumModules = codes "devmod:nummodules"
key_text key.Modules = codes "devmod:modules"

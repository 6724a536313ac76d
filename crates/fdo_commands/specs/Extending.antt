-- How the command ends that gives a voucher one more entry.
use Rattle.std.specs.Prelude.{◌≡◌, ◌⊎◌, true, false, ℕ, List, [], ◌∷◌, codes}
use Rattle.key_codec.specs.declared.key.PublicKey.{PublicKey}
use Rattle.port_base.specs.Count.{Rises}
use Rattle.port_base.specs.Told.{grown}
use Rattle.fdo_ports.specs.Stream.{Stream}
use Rattle.suite_port.specs.Asked.Ask.{Loaded as AskedToLoad}
use Rattle.suite_port.specs.Held.{Adds}
use Rattle.suite_port.specs.declared.fault.SuiteFault.{SuiteFault}
use Rattle.suite_port.specs.declared.fault.SuiteFault.TheVariants as fault
use Rattle.suite_port.specs.Keys.{Keys}
use Rattle.fdo_commands.specs.Ending.{EndsWith, Lent, Unchanged, lent}
use Rattle.fdo_commands.specs.Outside.{OnlyLine, Signing}
use Rattle.fdo_commands.specs.Texts.{TextEnds, WritesNothing}
use Rattle.fdo_commands.specs.Vouchers.{extending}
use Rattle.fdo_commands.specs.declared.status.Status.{Status}
use Rattle.fdo_commands.specs.declared.status.Status.TheVariants as status

-- the private key is loaded, and from then on the suite holds it, beside those that it held
pub record Loaded (signs : Signing) (private : List ℕ) (before after : Keys) : Type 0 where
  pub known : signs.loads private ≡ true
  pub key : List ℕ
  pub adds : Adds before.held after.held key
  pub faults : after.faults ≡ before.faults
  pub asked : after.asked ≡ grown before.asked (AskedToLoad private ∷ [])

-- the voucher is read then, and gets its entry by the keys that are held
abbrev pub EntryEnds : Signing → PublicKey → List ℕ → Lent Keys → Lent Keys → Status → Type 0
EntryEnds signs next private before after ending =
    (loaded : Keys) × Loaded signs private before.stage.state loaded
    × TextEnds (extending signs next) (lent loaded before.input before.stage.output) after ending

-- what is written where the private key is not loaded, and the status of that
abbrev pub Unloaded : SuiteFault → Stream → Stream → Status → Type 0
Unloaded fault.NoAlgorithm before after ending = (ending ≡ status.Words) × EndsWith before after (codes "fault words\n")
Unloaded fault.Failed before after ending = (ending ≡ status.Outside) × EndsWith before after (codes "fault signer\n")
Unloaded fault.NoMemory before after ending = WritesNothing before after ending

-- a last line is all that is done to the streams
abbrev pub LastLine : List ℕ → Lent Keys → Lent Keys → Type 0
LastLine text before after = OnlyLine text before.input after.input before.stage.output after.stage.output

-- how it ends
abbrev pub ExtendEnds : Signing → PublicKey → List ℕ → Lent Keys → Lent Keys → Status → Type 0
-- the private bytes are no key of the suite
ExtendEnds signs next private before after status.Words =
    (signs.loads private ≡ false) × (after.stage.state ≡ before.stage.state) × LastLine (codes "fault words\n") before after
-- the signer fails as it loads the key
ExtendEnds signs next private before after status.Outside =
    (after.stage.state.held ≡ before.stage.state.held) × Rises before.stage.state.faults after.stage.state.faults
    × (after.stage.state.asked ≡ before.stage.state.asked) × LastLine (codes "fault signer\n") before after
-- memory runs out, while the key is loaded or after that
ExtendEnds signs next private before after status.NoMemory =
    Unchanged before after ⊎ EntryEnds signs next private before after status.NoMemory
ExtendEnds signs next private before after ending = EntryEnds signs next private before after ending

-- What the program does with its words over the objects of the environment.
use Rattle.std.specs.Prelude.{◌≡◌, ℕ, List, Option, None, Some, IfSome}
use Rattle.port_base.specs.Count.{Rises}
use Rattle.fdo_ports.specs.Stream.{Stream}
use Rattle.fdo_commands.specs.Answering.{CutShort}
use Rattle.fdo_commands.specs.Commands.{Unloadable, command_said}
use Rattle.fdo_commands.specs.Ending.{Wrote}
use Rattle.fdo_commands.specs.Outside.{Outside, Signing, only_streams}
use Rattle.fdo_commands.specs.Ran.{RanWords}
use Rattle.fdo_commands.specs.declared.status.Status.{Status}
use Rattle.fdo_commands.specs.declared.status.Status.TheVariants as status
use Rattle.fdo_program.specs.OwnWord.{AreOwn, own_text}
use Rattle.fdo_program.specs.declared.own_word.OwnWord.{OwnWord}

-- a text is written whole, or the output fails in it
abbrev pub WritesOwn : List ℕ → Stream → Stream → Status → Type 0
WritesOwn text before after status.Done = Wrote before after text
WritesOwn text before after status.Write = CutShort before after text × Rises before.write_faults after.write_faults
WritesOwn text before after _ = ⊥

-- an own word has its text written, and nothing is read, loaded or drawn; the top call does the rest over a suite that says
-- this of signatures, keys and certificates
abbrev pub RanOwn : Signing → Option OwnWord → List (List ℕ) → Outside → Outside → Status → Type 0
RanOwn signs (Some word) words before after ending =
    WritesOwn (own_text word) before.output after.output ending × (after.input ≡ before.input)
    × (after ≡ only_streams before after)
RanOwn signs None words before after ending =
    RanWords signs words before after ending
    × (ending ≡ status.Words → IfSome (command_said words) (Unloadable signs.loads))

-- how the program ends
abbrev pub RanProgram : Signing → List (List ℕ) → Outside → Outside → Status → Type 0
RanProgram signs words before after ending = (own : Option OwnWord) × AreOwn words own × RanOwn signs own words before after ending

-- The words of each command.
use Rattle.std.specs.Prelude.{◌≡◌, ◌&&◌, ℕ, List, [], ◌∷◌, codes, Option, Some, None, Bool, false, bytes_eq, if◌then◌else◌}
use Rattle.key_codec.specs.declared.key.PublicKey.{PublicKey}
use Rattle.key_codec.specs.Key.{IsKey}
use Rattle.fdo_commands.specs.KeyWords.{bytes_said, key_said}
use Rattle.fdo_commands.specs.declared.command.Command.{Command}
use Rattle.fdo_commands.specs.declared.command.Command.TheVariants.{StepRendezvous, VoucherShow, VoucherCheck, VoucherExtend}

-- the command that two words name
abbrev pub two_said : List ℕ → List ℕ → Option Command
two_said one two =
    if bytes_eq one (codes "step") && bytes_eq two (codes "rendezvous") then Some StepRendezvous
    else if bytes_eq one (codes "voucher") && bytes_eq two (codes "show") then Some VoucherShow
    else if bytes_eq one (codes "voucher") && bytes_eq two (codes "check") then Some VoucherCheck
    else None

-- what KEY and PRIVATE say after `voucher extend`
abbrev pub extend_with : PublicKey → Option (List ℕ) → Option Command
extend_with next (Some private) = Some (VoucherExtend next private)
extend_with next None = None

abbrev pub extend_of : Option PublicKey → Option (List ℕ) → Option Command
extend_of (Some next) private = extend_with next private
extend_of None private = None

abbrev pub extend_said : List ℕ → List ℕ → Option Command
extend_said key private = extend_of (key_said key) (bytes_said private)

-- the command that four words name
abbrev pub four_said : List ℕ → List ℕ → List ℕ → List ℕ → Option Command
four_said one two three four =
    if bytes_eq one (codes "voucher") && bytes_eq two (codes "extend") then extend_said three four else None

-- the command that the words name: one at most
abbrev pub command_said : List (List ℕ) → Option Command
command_said (one ∷ two ∷ []) = two_said one two
command_said (one ∷ two ∷ three ∷ four ∷ []) = four_said one two three four
command_said _ = None

-- the words are `voucher extend` with two words more
abbrev pub IsExtendForm : List (List ℕ) → Type 0
IsExtendForm words =
    (key : List ℕ) × (private : List ℕ) × (words ≡ codes "voucher" ∷ codes "extend" ∷ key ∷ private ∷ [])

-- a key that the words say is of the form
abbrev pub HasKeys : Option Command → Type 0
HasKeys (Some (VoucherExtend next private)) = IsKey next
HasKeys _ = Unit {0}

-- the private key of a command is none of the suite's
abbrev pub Unloadable : (List ℕ → Bool) → Command → Type 0
Unloadable loads (VoucherExtend next private) = loads private ≡ false
Unloadable loads _ = ⊥

-- What the commands on vouchers tell of their input.
use Rattle.std.specs.Prelude.{◌≡◌, ◌≢◌, ◌⊎◌, ℕ, List, [], length, Option, Some, None, Result, Ok, Err, IfOk}
use Rattle.port_base.specs.Count.{Rises}
use Rattle.suite_port.specs.Asked.{Ask}
use Rattle.key_codec.specs.declared.key.PublicKey.{PublicKey}
use Rattle.voucher_chain.specs.Chain.{Verifies, asked_before, checkings, first_break, owner_bytes}
use Rattle.voucher_chain.specs.Extended.{Counts, MaySign}
use Rattle.voucher_chain.specs.Reading.{voucher_at}
use Rattle.voucher_chain.specs.declared.fault.ChainFault.{ChainFault}
use Rattle.voucher_chain.specs.declared.fault.ChainFault.TheVariants as fault
use Rattle.voucher_chain.specs.declared.voucher.Voucher.{Voucher}
use Rattle.voucher_tool.specs.Check.{check_told}
use Rattle.voucher_tool.specs.Longer.{AsksFile, IsLonger, RefusesFile}
use Rattle.voucher_tool.specs.Refusal.{refusal_text}
use Rattle.voucher_tool.specs.Show.{show_text}
use Rattle.suite_port.specs.Keys.{Keys, asking}
use Rattle.fdo_commands.specs.Outside.{Signing}
use Rattle.fdo_commands.specs.Texts.{Telling}
use Rattle.fdo_commands.specs.declared.texts.Told.{Told}
use Rattle.fdo_commands.specs.declared.texts.Told.TheVariants as told

-- where the input is at fault; that of a voucher with too many entries is its front
abbrev pub fault_place : ChainFault → ℕ
fault_place (fault.BadShape place) = place
fault_place _ = 0

-- a voucher is shown
abbrev pub shown_as : Result Voucher ChainFault → Told
shown_as (Ok voucher) = told.Text (show_text voucher)
shown_as (Err f) = told.Wrong (fault_place f)

abbrev pub show_of : List ℕ → Told
show_of bytes = shown_as (voucher_at bytes)

-- a refusal has its line, and other bytes the place of their fault
abbrev pub line_or_place : ℕ → Option (List ℕ) → Told
line_or_place place (Some line) = told.Refused line
line_or_place place None = told.Wrong place

abbrev pub refused_as : ChainFault → Told
refused_as f = line_or_place (fault_place f) (refusal_text f)

abbrev pub told_as : Result (List ℕ) ChainFault → Told
told_as (Ok text) = told.Text text
told_as (Err f) = refused_as f

-- a voucher is checked
abbrev pub checked_as : Verifies → Result Voucher ChainFault → Told
checked_as verifies (Ok voucher) = told_as (check_told verifies voucher)
checked_as verifies (Err f) = refused_as f

abbrev pub check_of : Verifies → List ℕ → Told
check_of verifies bytes = checked_as verifies (voucher_at bytes)

-- ---- the steps of the commands: what is told of an input, and what that does to what they were lent

-- a voucher is shown
abbrev pub Shows : {S : Type 0} → S → List ℕ → Told → S → Type 0
Shows s bytes what t = (what ≡ show_of bytes) × (t ≡ s)

-- running out of memory leaves all as it was
abbrev pub Keeps : {S : Type 0} → S → List ℕ → S → Type 0
Keeps s bytes t = t ≡ s

abbrev pub showing : Telling (Unit {0})
showing = record { Tells = Shows; GivesUp = Keeps }

-- the signatures of a voucher that are asked for: those of all entries, or those before the break and of it
abbrev pub asks_until : Voucher → Option ChainFault → List Ask
asks_until v None = checkings (length v.entries) v.header.key v.entries
asks_until v (Some f) = checkings (asked_before f) v.header.key v.entries

abbrev pub check_asks : Verifies → Result Voucher ChainFault → List Ask
check_asks verifies (Ok v) = asks_until v (first_break verifies v)
check_asks verifies (Err f) = []

-- those of its first entries
abbrev pub first_asks : ℕ → Result Voucher ChainFault → List Ask
first_asks n (Ok v) = checkings n v.header.key v.entries
first_asks n (Err f) = []

-- a voucher is checked
abbrev pub Checks : Verifies → Keys → List ℕ → Told → Keys → Type 0
Checks verifies s bytes what t = (what ≡ check_of verifies bytes) × (t ≡ asking s (check_asks verifies (voucher_at bytes)))

-- where memory runs out, some of its first signatures have been asked for
abbrev pub ChecksFront : Keys → List ℕ → Keys → Type 0
ChecksFront s bytes t = (n : ℕ) × (t ≡ asking s (first_asks n (voucher_at bytes)))

abbrev pub checking : Verifies → Telling Keys
checking verifies = record { Tells = Checks verifies; GivesUp = ChecksFront }

-- a voucher gets one more entry, or is refused: how `extend_file` answers, by the keys that are held; the suite's count of
-- faults rises where the signer fails, and it is asked for the one signature
pub record Extends (signs : Signing) (next : PublicKey) (s : Keys) (bytes : List ℕ) (what : Told) (t : Keys) : Type 0 where
  pub answer : Result (List ℕ) ChainFault
  pub told : what ≡ told_as answer
  pub memory : answer ≢ Err fault.NoMemory
  pub longer : IfOk answer (IsLonger signs.verifies bytes next)
  pub refused : RefusesFile s.held signs.algorithm bytes answer
  pub held : t.held ≡ s.held
  pub counts : Counts s.faults t.faults answer
  pub asked : AsksFile signs.verifies s.asked t.asked next (voucher_at bytes) answer

-- at most one signature is asked for under the last owner's key, and none where the bytes are no voucher
abbrev pub MaySignFile : Option (List Ask) → Option (List Ask) → Result Voucher ChainFault → Type 0
MaySignFile before after (Ok v) = MaySign before after (owner_bytes v)
MaySignFile before after (Err f) = after ≡ before

-- where memory runs out, that signature may have been asked for, and the signer may have failed at it
pub record ExtendsFront (s : Keys) (bytes : List ℕ) (t : Keys) : Type 0 where
  pub held : t.held ≡ s.held
  pub counts : (t.faults ≡ s.faults) ⊎ Rises s.faults t.faults
  pub asked : MaySignFile s.asked t.asked (voucher_at bytes)

abbrev pub extending : Signing → PublicKey → Telling Keys
extending signs next = record { Tells = Extends signs next; GivesUp = ExtendsFront }

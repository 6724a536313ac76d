-- What the check of a voucher asks of a suite.
use Rattle.std.proofs.Common.{◌≡◌, ◌≢◌, ℕ, Bool, List, [], Option, None, Some, Result, Ok, Err, refl, sym, ap, ◌∙◌, append-nil}
use Rattle.std.specs.Prelude.{IfOk, MatchResult, length}
use Rattle.port_base.specs.Told.{grown}
use Rattle.suite_port.specs.Asked.{Ask}
use Rattle.voucher_chain.specs.Chain.{AsksToCheckAll, Verifies, asked_before, checkings, first_break}
use Rattle.voucher_chain.specs.Fault.{Answers}
use Rattle.voucher_chain.specs.Reading.{voucher_at}
use Rattle.voucher_chain.specs.declared.fault.ChainFault.{ChainFault}
use Rattle.voucher_chain.specs.declared.fault.ChainFault.TheVariants as fault
use Rattle.voucher_chain.specs.declared.voucher.Voucher.{Voucher}
use Rattle.voucher_tool.specs.Check.{check_told, told_of}
use Rattle.suite_port.specs.Keys.{asking}
use Rattle.fdo_commands.specs.Vouchers.{Checks, ChecksFront, Keeps, Shows, asks_until, check_asks, checked_as, first_asks, refused_as, show_of, told_as}
use Rattle.fdo_commands.specs.declared.texts.Told.{Told}
use Rattle.fdo_commands.proofs.Records.{keys_of}

-- the signatures that are asked for, by the break that is told; those of some first entries where memory runs out
abbrev pub AskedFor : Option (List Ask) → Option (List Ask) → Voucher → Option ChainFault → Result (List ℕ) ChainFault → Type 0
AskedFor before after v broken (Err fault.NoMemory) = (n : ℕ) × (after ≡ grown before (checkings n v.header.key v.entries))
AskedFor before after v broken _ = after ≡ grown before (asks_until v broken)

module _ (before after : Option (List Ask)) (v : Voucher) where
  by_break : (g f : ChainFault) → ◌≡◌ {A = Result (List ℕ) ChainFault} (Err g) (Err f) → after ≡ grown before (checkings (asked_before f) v.header.key v.entries) → after ≡ grown before (asks_until v (Some g))
  by_break g f same asked =
      let is : f ≡ g = cc same in
      asked ∙ ap (λ (x : ChainFault). grown before (checkings (asked_before x) v.header.key v.entries)) is

  asked_of : (broken : Option ChainFault) (r : Result (List ℕ) ChainFault) → Answers (told_of v broken) r → AsksToCheckAll before after v.header.key v.entries r → AskedFor before after v broken r
  asked_of None (Ok text) told asked = asked
  asked_of (Some g) (Ok text) told asked = absurd (cc told)
  asked_of broken (Err fault.NoMemory) told asked = asked
  asked_of None (Err (fault.BadShape place)) told asked = absurd (cc told)
  asked_of None (Err fault.BadCertHash) told asked = absurd (cc told)
  asked_of None (Err (fault.BadPrevHash index)) told asked = absurd (cc told)
  asked_of None (Err (fault.BadInfoHash index)) told asked = absurd (cc told)
  asked_of None (Err (fault.BadSignature index)) told asked = absurd (cc told)
  asked_of None (Err (fault.NoAlgorithm index)) told asked = absurd (cc told)
  asked_of None (Err fault.TooLong) told asked = absurd (cc told)
  asked_of None (Err fault.NoMatch) told asked = absurd (cc told)
  asked_of None (Err fault.Failed) told asked = absurd (cc told)
  asked_of (Some g) (Err (fault.BadShape place)) told asked = by_break g (fault.BadShape place) told asked
  asked_of (Some g) (Err fault.BadCertHash) told asked = by_break g fault.BadCertHash told asked
  asked_of (Some g) (Err (fault.BadPrevHash index)) told asked = by_break g (fault.BadPrevHash index) told asked
  asked_of (Some g) (Err (fault.BadInfoHash index)) told asked = by_break g (fault.BadInfoHash index) told asked
  asked_of (Some g) (Err (fault.BadSignature index)) told asked = by_break g (fault.BadSignature index) told asked
  asked_of (Some g) (Err (fault.NoAlgorithm index)) told asked = by_break g (fault.NoAlgorithm index) told asked
  asked_of (Some g) (Err fault.TooLong) told asked = by_break g fault.TooLong told asked
  asked_of (Some g) (Err fault.NoMatch) told asked = by_break g fault.NoMatch told asked
  asked_of (Some g) (Err fault.Failed) told asked = by_break g fault.Failed told asked

-- where the refusal is told in a line, memory has not run out
refused_for : (before after : Option (List Ask)) (v : Voucher) (broken : Option ChainFault) (f : ChainFault) → AskedFor before after v broken (Err f) → f ≢ fault.NoMemory → after ≡ grown before (asks_until v broken)
refused_for before after v broken fault.NoMemory asked other = absurd (other refl)
refused_for before after v broken (fault.BadShape place) asked other = asked
refused_for before after v broken fault.BadCertHash asked other = asked
refused_for before after v broken (fault.BadPrevHash index) asked other = asked
refused_for before after v broken (fault.BadInfoHash index) asked other = asked
refused_for before after v broken (fault.BadSignature index) asked other = asked
refused_for before after v broken (fault.NoAlgorithm index) asked other = asked
refused_for before after v broken fault.TooLong asked other = asked
refused_for before after v broken fault.NoMatch asked other = asked
refused_for before after v broken fault.Failed asked other = asked

some_of : (before after : Option (List Ask)) (v : Voucher) (broken : Option ChainFault) → after ≡ grown before (asks_until v broken) → (n : ℕ) × (after ≡ grown before (checkings n v.header.key v.entries))
some_of before after v None asked = (length v.entries, asked)
some_of before after v (Some f) asked = (asked_before f, asked)

some_for : (before after : Option (List Ask)) (v : Voucher) (broken : Option ChainFault) (f : ChainFault) → AskedFor before after v broken (Err f) → (n : ℕ) × (after ≡ grown before (checkings n v.header.key v.entries))
some_for before after v broken fault.NoMemory asked = asked
some_for before after v broken (fault.BadShape place) asked = some_of before after v broken asked
some_for before after v broken fault.BadCertHash asked = some_of before after v broken asked
some_for before after v broken (fault.BadPrevHash index) asked = some_of before after v broken asked
some_for before after v broken (fault.BadInfoHash index) asked = some_of before after v broken asked
some_for before after v broken (fault.BadSignature index) asked = some_of before after v broken asked
some_for before after v broken (fault.NoAlgorithm index) asked = some_of before after v broken asked
some_for before after v broken fault.TooLong asked = some_of before after v broken asked
some_for before after v broken fault.NoMatch asked = some_of before after v broken asked
some_for before after v broken fault.Failed asked = some_of before after v broken asked

module _ (verifies : Verifies) (before after : Option (List Ask)) (v : Voucher) where
  abbrev pub AskedFound : {E : Type 0} → Result Told E → Type 0
  AskedFound found = MatchResult found
      (λ _. after ≡ grown before (asks_until v (first_break verifies v)))
      (λ _. (n : ℕ) × (after ≡ grown before (checkings n v.header.key v.entries)))

  pub checked_text : (text : List ℕ) → Answers (check_told verifies v) (Ok text) → AsksToCheckAll {A = List ℕ} before after v.header.key v.entries (Ok text) → after ≡ grown before (asks_until v (first_break verifies v))
  checked_text text told asked = asked_of before after v (first_break verifies v) (Ok text) told asked

  pub checked_refused : {E : Type 0} (f : ChainFault) (found : Result Told E) → Answers (check_told verifies v) (Err f) → AsksToCheckAll {A = List ℕ} before after v.header.key v.entries (Err f) → IfOk found (λ what. (f ≢ fault.NoMemory) × (what ≡ refused_as f)) → AskedFound found
  checked_refused f (Ok what) told asked is = refused_for before after v (first_break verifies v) f (asked_of before after v (first_break verifies v) (Err f) told asked) is.0
  checked_refused f (Err _) told asked is = some_for before after v (first_break verifies v) f (asked_of before after v (first_break verifies v) (Err f) told asked)

-- ---- over the bytes of a voucher

grown_none : (told : Option (List Ask)) → grown told [] ≡ told
grown_none None = refl
grown_none (Some asks) = ap Some (append-nil asks)

nothing_first : (read : Result Voucher ChainFault) → first_asks 0 read ≡ []
nothing_first (Ok v) = refl
nothing_first (Err f) = refl

module _ (verifies : Verifies) (held held' : List ℕ → Bool) (count count' : ℕ) (before after : Option (List Ask)) (bytes : List ℕ) where
  abbrev pub ChecksFound : {E : Type 0} → Result Told E → Type 0
  ChecksFound found = MatchResult found
      (λ what. Checks verifies (keys_of held count before) bytes what (keys_of held' count' after))
      (λ _. ChecksFront (keys_of held count before) bytes (keys_of held' count' after))

  same_keys : held' ≡ held → count' ≡ count → (asks : List Ask) → after ≡ grown before asks → keys_of held' count' after ≡ asking (keys_of held count before) asks
  same_keys one two asks three = rw (one, two, three) refl

  -- a voucher is read, and checked
  pub read_checks : {E : Type 0} (v : Voucher) → voucher_at bytes ≡ Ok v → (found : Result Told E) → IfOk found (λ what. what ≡ told_as (check_told verifies v)) → AskedFound verifies before after v found → held' ≡ held → count' ≡ count → ChecksFound found
  read_checks v read (Ok what) is asked one two = (
    is ∙ ap (checked_as verifies) (sym read),
    same_keys one two (check_asks verifies (voucher_at bytes)) (asked ∙ ap (λ r. grown before (check_asks verifies r)) (sym read)),
  )
  read_checks v read (Err _) is asked one two = (
    asked.0,
    same_keys one two (first_asks asked.0 (voucher_at bytes)) (asked.1 ∙ ap (λ r. grown before (first_asks asked.0 r)) (sym read)),
  )

  not_read : (f : ChainFault) → Answers (voucher_at bytes) (Err f) → f ≢ fault.NoMemory → voucher_at bytes ≡ Err f
  not_read fault.NoMemory said other = absurd (other refl)
  not_read (fault.BadShape place) said other = said
  not_read fault.BadCertHash said other = said
  not_read (fault.BadPrevHash index) said other = said
  not_read (fault.BadInfoHash index) said other = said
  not_read (fault.BadSignature index) said other = said
  not_read (fault.NoAlgorithm index) said other = said
  not_read fault.TooLong said other = said
  not_read fault.NoMatch said other = said
  not_read fault.Failed said other = said

  -- none is read, and nothing is asked
  pub unread_checks : {E : Type 0} (f : ChainFault) → Answers (voucher_at bytes) (Err f) → (found : Result Told E) → IfOk found (λ what. (f ≢ fault.NoMemory) × (what ≡ refused_as f)) → held' ≡ held → count' ≡ count → after ≡ before → ChecksFound found
  unread_checks f said (Ok what) is one two three =
      let read = not_read f said is.0 in
      (is.1 ∙ ap (checked_as verifies) (sym read), same_keys one two (check_asks verifies (voucher_at bytes)) (three ∙ sym (grown_none before) ∙ ap (λ r. grown before (check_asks verifies r)) (sym read)))
  unread_checks f said (Err _) is one two three =
      (0, same_keys one two (first_asks 0 (voucher_at bytes)) (three ∙ sym (grown_none before) ∙ ap (grown before) (sym (nothing_first (voucher_at bytes)))))

-- ---- the text of a voucher

pub found_shown : {E : Type 0} (bytes : List ℕ) (found : Result Told E) → IfOk found (λ what. what ≡ show_of bytes) → MatchResult found (λ what. Shows {S = Unit {0}} tt bytes what tt) (λ _. Keeps {S = Unit {0}} tt bytes tt)
found_shown bytes (Ok what) is = (is, refl)
found_shown bytes (Err _) is = refl

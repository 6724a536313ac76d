-- What a command did says by its status which counts of faults rose.
use Rattle.std.proofs.Common.{◌≡◌, ◌⊎◌, inl, inr, ℕ, Bool, true, List, [], Option, Some, None, refl, sym, ap, ◌∙◌, subst}
use Rattle.std.specs.Prelude.{IfSome}
use Rattle.port_base.specs.Count.{Rises}
use Rattle.fdo_ports.specs.Stream.{OnlyRead, OnlyWritten}
use Rattle.suite_port.specs.Keys.{Keys}
use Rattle.fdo_commands.specs.Commands.{IsExtendForm, Unloadable, command_said}
use Rattle.fdo_commands.specs.Ending.{Ends}
use Rattle.fdo_rules.specs.Rendezvous.{RvView}
use Rattle.rendezvous.specs.RvState.{Suited}
use Rattle.fdo_commands.specs.Outside.{Outside, Signing, lent_of, only_streams}
use Rattle.fdo_commands.specs.Ran.{NoneFailed, Outcome, Ran, RanSaid, RanWords, checks_of, no_view, nothing_of, rendezvous, server_of, suite_of}
use Rattle.fdo_commands.specs.Vouchers.{checking, showing}
use Rattle.fdo_commands.specs.Texts.{TextEnds}
use Rattle.fdo_commands.specs.declared.command.Command.{Command}
use Rattle.fdo_commands.specs.declared.command.Command.TheVariants.{StepRendezvous, VoucherShow, VoucherCheck, VoucherExtend}
use Rattle.fdo_commands.specs.declared.status.Status.{Status}
use Rattle.fdo_commands.specs.declared.status.Status.TheVariants as status
use Rattle.fdo_commands.proofs.ExtendEndings.{extend_done, extend_held, extend_outside, extend_read, extend_words, extend_write}
use Rattle.fdo_commands.proofs.RvCounts.{ends_done, ends_no_words, ends_outside, ends_read, ends_suite, ends_write}
use Rattle.fdo_commands.proofs.TextEndings.{text_done, text_no_outside, text_no_words, text_read, text_write}
use Rattle.fdo_commands.proofs.BytesTaken.{took_nothing}

-- memory ran out before the command began
pub nothing_done : (signs : Signing) (command : Command) (o : Outside) → Ran signs command o o status.NoMemory
nothing_done signs StepRendezvous o = (no_view, ([], took_nothing o.input.left, refl, inl (refl, refl, refl)), refl, λ is. absurd (cc is))
nothing_done signs VoucherShow o = (([], took_nothing o.input.left, refl, refl, refl, inl refl), refl)
nothing_done signs VoucherCheck o = (([], took_nothing o.input.left, refl, refl, refl, inl refl), refl)
nothing_done signs (VoucherExtend next private) o = (inl ((refl, refl, refl), refl, refl), refl)

-- or while its words were read
pub nothing_said : (signs : Signing) (said : Option Command) (words : List (List ℕ)) (o : Outside) → IsExtendForm words → RanSaid signs said words o o status.NoMemory
nothing_said signs (Some command) words o form = nothing_done signs command o
nothing_said signs None words o form = (form, refl)

-- the server's messages were answered
pub ran_step : (signs : Signing) (command : Command) (before after : Outside) (ending : Status) → command ≡ StepRendezvous → (view : RvView) → Ends (rendezvous (checks_of signs)) (lent_of (server_of no_view) before) (lent_of (server_of view) after) ending → Ran signs command before after ending
ran_step signs command before after ending is view ends =
    let server_before = lent_of (server_of no_view) before in
    let server_after = lent_of (server_of view) after in
    subst (λ c. Ran signs c before after ending) (sym is)
    (view, ends, ends_suite (checks_of signs) server_before server_after ending ends, ends_outside (checks_of signs) server_before server_after ending ends)

module _ (signs : Signing) (before after : Outside) (ending : Status) where
  -- a check leaves the keys that are held, and the count
  check_held : TextEnds (checking signs.verifies) (lent_of suite_of before) (lent_of suite_of after) ending → after.suite.held ≡ before.suite.held
  check_held ends = by ending ends where
    by : (e : Status) → TextEnds (checking signs.verifies) (lent_of suite_of before) (lent_of suite_of after) e → after.suite.held ≡ before.suite.held
    by status.Done ends = ap (λ (k : Keys). k.held) ends.4.1
    by status.Words ends = absurd ends.5
    by status.Input ends = ap (λ (k : Keys). k.held) ends.4.1
    by status.Read ends = ap (λ (k : Keys). k.held) ends.4
    by status.Write ends = ap (λ (k : Keys). k.held) ends.4.1
    by status.NoMemory ends = elim ends.5 [ inl same ↦ ap (λ (k : Keys). k.held) same | inr front ↦ ap (λ (k : Keys). k.held) front.1.1 ]
    by status.Limit ends = ap (λ (k : Keys). k.held) ends.4
    by status.Refused ends = ap (λ (k : Keys). k.held) ends.4.1
    by status.Outside ends = absurd ends.5

  pub ran_words : (command : Command) → Ran signs command before after ending → ending ≡ status.Words → Unloadable signs.loads command
  ran_words StepRendezvous ran is = ends_no_words (checks_of signs) (lent_of (server_of no_view) before) (lent_of (server_of ran.0) after) ending ran.1 is
  ran_words VoucherShow ran is = text_no_words showing (lent_of nothing_of before) (lent_of nothing_of after) ending ran.0 is
  ran_words VoucherCheck ran is = text_no_words (checking signs.verifies) (lent_of suite_of before) (lent_of suite_of after) ending ran.0 is
  ran_words (VoucherExtend next private) ran is = extend_words signs next private (lent_of suite_of before) (lent_of suite_of after) ending ran.0 is

  ran_done : (command : Command) → Ran signs command before after ending → ending ≡ status.Done → NoneFailed before after
  ran_done StepRendezvous ran is =
      let done = ends_done (checks_of signs) (lent_of (server_of no_view) before) (lent_of (server_of ran.0) after) ending ran.1 is in
      record { random = done.0.0; clock = done.0.1; suite = ap (λ (s : Suited). s.faults) ran.2; input = done.1.0; output = done.1.1 }
  ran_done VoucherShow ran is =
      let done = text_done showing (lent_of nothing_of before) (lent_of nothing_of after) ending ran.0 is in
      record { random = ap (λ (o : Outside). o.random.faults) ran.1; clock = ap (λ (o : Outside). o.clock.faults) ran.1; suite = ap (λ (o : Outside). o.suite.faults) ran.1; input = done.0; output = done.1 }
  ran_done VoucherCheck ran is =
      let done = text_done (checking signs.verifies) (lent_of suite_of before) (lent_of suite_of after) ending ran.0 is in
      let whole = subst (TextEnds (checking signs.verifies) (lent_of suite_of before) (lent_of suite_of after)) is ran.0 in
      record { random = ap (λ (o : Outside). o.random.faults) ran.1; clock = ap (λ (o : Outside). o.clock.faults) ran.1; suite = ap (λ (k : Keys). k.faults) whole.4.1; input = done.0; output = done.1 }
  ran_done (VoucherExtend next private) ran is =
      let done = extend_done signs next private (lent_of suite_of before) (lent_of suite_of after) ending ran.0 is in
      record { random = ap (λ (o : Outside). o.random.faults) ran.1; clock = ap (λ (o : Outside). o.clock.faults) ran.1; suite = done.0; input = done.1; output = done.2 }

  ran_read : (command : Command) → Ran signs command before after ending → ending ≡ status.Read → Rises before.input.read_faults after.input.read_faults
  ran_read StepRendezvous ran is = ends_read (checks_of signs) (lent_of (server_of no_view) before) (lent_of (server_of ran.0) after) ending ran.1 is
  ran_read VoucherShow ran is = text_read showing (lent_of nothing_of before) (lent_of nothing_of after) ending ran.0 is
  ran_read VoucherCheck ran is = text_read (checking signs.verifies) (lent_of suite_of before) (lent_of suite_of after) ending ran.0 is
  ran_read (VoucherExtend next private) ran is = extend_read signs next private (lent_of suite_of before) (lent_of suite_of after) ending ran.0 is

  ran_write : (command : Command) → Ran signs command before after ending → ending ≡ status.Write → Rises before.output.write_faults after.output.write_faults
  ran_write StepRendezvous ran is = ends_write (checks_of signs) (lent_of (server_of no_view) before) (lent_of (server_of ran.0) after) ending ran.1 is
  ran_write VoucherShow ran is = text_write showing (lent_of nothing_of before) (lent_of nothing_of after) ending ran.0 is
  ran_write VoucherCheck ran is = text_write (checking signs.verifies) (lent_of suite_of before) (lent_of suite_of after) ending ran.0 is
  ran_write (VoucherExtend next private) ran is = extend_write signs next private (lent_of suite_of before) (lent_of suite_of after) ending ran.0 is

  ran_outside : (command : Command) → Ran signs command before after ending → ending ≡ status.Outside → Rises before.random.faults after.random.faults ⊎ (Rises before.clock.faults after.clock.faults ⊎ Rises before.suite.faults after.suite.faults)
  ran_outside StepRendezvous ran is = elim (ran.3 is) [ inl random ↦ inl random | inr clock ↦ inr (inl clock) ]
  ran_outside VoucherShow ran is = absurd (text_no_outside showing (lent_of nothing_of before) (lent_of nothing_of after) ending ran.0 is)
  ran_outside VoucherCheck ran is = absurd (text_no_outside (checking signs.verifies) (lent_of suite_of before) (lent_of suite_of after) ending ran.0 is)
  ran_outside (VoucherExtend next private) ran is = inr (inr (extend_outside signs next private (lent_of suite_of before) (lent_of suite_of after) ending ran.0 is))

  ran_held : (command : Command) → Ran signs command before after ending → (key : List ℕ) → before.suite.held key ≡ true → after.suite.held key ≡ true
  ran_held StepRendezvous ran key is = ap (λ (s : Suited). s.held key) ran.2 ∙ is
  ran_held VoucherShow ran key is = ap (λ (o : Outside). o.suite.held key) ran.1 ∙ is
  ran_held VoucherCheck ran key is = ap (λ (held : List ℕ → Bool). held key) (check_held ran.0) ∙ is
  ran_held (VoucherExtend next private) ran key is = extend_held signs next private (lent_of suite_of before) (lent_of suite_of after) key is ending ran.0

  pub ran_outcome : (command : Command) → Ran signs command before after ending → OnlyRead before.input after.input → OnlyWritten before.output after.output → Outcome before after ending
  ran_outcome command ran input output = record {
    done = ran_done command ran;
    read = ran_read command ran;
    write = ran_write command ran;
    outside = ran_outside command ran;
    held = ran_held command ran;
    input = input;
    output = output;
  }

-- no command ran, and a last line says so
pub unnamed_outcome : (before after : Outside) → after ≡ only_streams before after → OnlyRead before.input after.input → OnlyWritten before.output after.output → Outcome before after status.Words
unnamed_outcome before after same input output = record {
  done = λ is. absurd (cc is);
  read = λ is. absurd (cc is);
  write = λ is. absurd (cc is);
  outside = λ is. absurd (cc is);
  held = λ key is. ap (λ (o : Outside). o.suite.held key) same ∙ is;
  input = input;
  output = output;
}

-- memory ran out before any did
pub still_outcome : (o : Outside) → Outcome o o status.NoMemory
still_outcome o = record {
  done = λ is. absurd (cc is);
  read = λ is. absurd (cc is);
  write = λ is. absurd (cc is);
  outside = λ is. absurd (cc is);
  held = λ key is. is;
  input = (refl, refl);
  output = (refl, refl);
}

-- the command that ran is the one that the words name
module _ (signs : Signing) (words : List (List ℕ)) (command : Command) (named : Some command ≡ command_said words) (before after : Outside) (ending : Status) (ran : Ran signs command before after ending) where
  pub ran_named : RanWords signs words before after ending
  ran_named = subst (λ said. RanSaid signs said words before after ending) named ran

  pub named_words : ending ≡ status.Words → IfSome (command_said words) (Unloadable signs.loads)
  named_words is = subst (λ said. IfSome said (Unloadable signs.loads)) named (ran_words signs before after ending command ran is)

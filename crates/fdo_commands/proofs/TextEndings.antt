-- How a command ends that writes one text for its whole input.
use Rattle.std.proofs.Common.{◌≡◌, ◌≢◌, inl, inr, ℕ, List, Result, Ok, Err, sym, subst}
use Rattle.std.specs.Prelude.{MatchResult}
use Rattle.port_base.specs.Count.{Rises}
use Rattle.fdo_commands.specs.Ending.{Lent}
use Rattle.fdo_commands.specs.Stream.{InputCounts, ReadsInput, TookAll}
use Rattle.fdo_commands.specs.Texts.{InputFails, Telling, TextEnds, WritesFound, WritesTold}
use Rattle.fdo_commands.specs.declared.input.InputFault.{InputFault}
use Rattle.fdo_commands.specs.declared.input.InputFault.TheVariants as faults
use Rattle.fdo_commands.specs.declared.status.Status.{Status}
use Rattle.fdo_commands.specs.declared.status.Status.TheVariants as status
use Rattle.fdo_commands.specs.declared.texts.Told.{Told}

module _ {S : Type 0} (telling : Telling S) (before after : Lent S) where
  -- the input is read to its end
  whole : (bytes : List ℕ) → TookAll before.input.left after.input.left bytes → after.input.read_faults ≡ before.input.read_faults → (what : Told) → telling.Tells before.stage.state bytes what after.stage.state → (ending : Status) → WritesTold what before.stage.output after.stage.output ending → TextEnds telling before after ending
  whole bytes took same what is status.Done writes = (bytes, took, same, what, is, writes)
  whole bytes took same what is status.Words writes = absurd writes
  whole bytes took same what is status.Input writes = (bytes, took, same, what, is, writes)
  whole bytes took same what is status.Read writes = absurd writes
  whole bytes took same what is status.Write writes = (bytes, took, same, what, is, writes)
  whole bytes took same what is status.NoMemory writes = absurd writes
  whole bytes took same what is status.Limit writes = absurd writes
  whole bytes took same what is status.Refused writes = (bytes, took, same, what, is, writes)
  whole bytes took same what is status.Outside writes = absurd writes

  pub found_ends : {E : Type 0} (bytes : List ℕ) → TookAll before.input.left after.input.left bytes → after.input.read_faults ≡ before.input.read_faults → (found : Result Told E) → MatchResult found (λ what. telling.Tells before.stage.state bytes what after.stage.state) (λ _. telling.GivesUp before.stage.state bytes after.stage.state) → (ending : Status) → WritesFound found before.stage.output after.stage.output ending → TextEnds telling before after ending
  found_ends bytes took same (Ok what) is ending writes = whole bytes took same what is ending writes
  found_ends bytes took same (Err _) leaves ending writes =
      subst (TextEnds telling before after) (sym writes.0) (bytes, took.took, same, writes.1, writes.2, inr (took, leaves))

  -- it is not
  pub unread_ends : after.stage.state ≡ before.stage.state → (fault : InputFault) → ReadsInput before.input.left after.input.left (Err fault) → InputCounts before.input.read_faults after.input.read_faults (Err fault) → (ending : Status) → InputFails fault before.stage.output after.stage.output ending → TextEnds telling before after ending
  unread_ends still faults.Read read counts ending fails = subst (TextEnds telling before after) (sym fails.0) (read.0, read.1, read.2, counts, still, fails.1)
  unread_ends still faults.Limit read counts ending fails = subst (TextEnds telling before after) (sym fails.0) (read.0, read.1, read.2, counts, still, fails.1)
  unread_ends still faults.NoMemory read counts ending fails = subst (TextEnds telling before after) (sym fails.0) (read.0, read.1, counts, fails.1, fails.2, inl still)

  module _ (ending : Status) (ends : TextEnds telling before after ending) where
    at : (e : Status) → ending ≡ e → TextEnds telling before after e
    at e is = subst (TextEnds telling before after) is ends

    pub text_done : ending ≡ status.Done → (after.input.read_faults ≡ before.input.read_faults) × (after.stage.output.write_faults ≡ before.stage.output.write_faults)
    text_done is = let done = at status.Done is in (done.2, done.5.2.1)

    pub text_read : ending ≡ status.Read → Rises before.input.read_faults after.input.read_faults
    text_read is = (at status.Read is).3

    pub text_write : ending ≡ status.Write → Rises before.stage.output.write_faults after.stage.output.write_faults
    text_write is = (at status.Write is).5.3

    pub text_no_words : ending ≢ status.Words
    text_no_words is = (at status.Words is).5

    pub text_no_outside : ending ≢ status.Outside
    text_no_outside is = (at status.Outside is).5

-- The counts of failed calls over a run of the rendezvous server, and its suite.
use Rattle.std.proofs.Common.{◌≡◌, ◌≢◌, ◌⊎◌, inl, inr, ℕ, ◌≤◌, Bool, true, false, List, [], ◌∷◌, Option, None, Some, Result, Ok, Err, refl, sym, ap, ◌∙◌, subst, arith}
use Rattle.std.specs.Prelude.{if◌then◌else◌, nat_lt}
use Rattle.port_base.specs.Count.{Rises}
use Rattle.fdo_ports.specs.Draw.{Drawn}
use Rattle.fdo_ports.specs.declared.failed.Failed.{Failed}
use Rattle.fdo_msgs.specs.Run.{Runs}
use Rattle.fdo_msgs.specs.declared.answer.Answer.{Answer}
use Rattle.fdo_msgs.specs.declared.cause.Object.{Object}
use Rattle.fdo_msgs.specs.declared.cause.Object.TheVariants as object
use Rattle.fdo_msgs.specs.declared.packet.Packet.{Packet}
use Rattle.fdo_rules.specs.Rendezvous.{RvRow, RvView, rendezvous_row}
use Rattle.fdo_rules.specs.Row.{Row}
use Rattle.fdo_rules.specs.Suite.{Checking}
use Rattle.rendezvous.specs.RvState.{Clocked, RvComes, RvDraws, RvGivesUp, RvOutside, RvReads, RvState, RvStep, Suited}
use Rattle.fdo_commands.specs.Answering.{Leaves, Role, blamed, first_blamed, rank, sooner}
use Rattle.fdo_commands.specs.Ending.{Ends, Lent}
use Rattle.fdo_commands.specs.Ran.{rendezvous}
use Rattle.fdo_commands.specs.declared.status.Status.{Status}
use Rattle.fdo_commands.specs.declared.status.Status.TheVariants as status
use Rattle.fdo_commands.proofs.RvBlames.{Blames, Ended, row_blames}

-- the count of the object that is blamed rose, and no other fell; where none is blamed, both stay
abbrev Faulted : Option Object → RvOutside → RvOutside → Type 0
Faulted None s t = (t.random.faults ≡ s.random.faults) × (t.clock.faults ≡ s.clock.faults)
Faulted (Some object.Random) s t = Rises s.random.faults t.random.faults × (s.clock.faults ≤ t.clock.faults)
Faulted (Some object.Clock) s t = Rises s.clock.faults t.clock.faults × (s.random.faults ≤ t.random.faults)
Faulted (Some object.Signer) s t = ⊥
Faulted (Some object.Disk) s t = ⊥
Faulted (Some object.Shut) s t = ⊥

same_then : (before between after : ℕ) → between ≡ before → Rises between after → Rises before after
same_then before between after same rises = subst (λ n. Rises n after) same rises

then_same : (before between after : ℕ) → Rises before between → after ≡ between → Rises before after
then_same before between after rises same = subst (Rises before) (sym same) rises

then_later : (before between after : ℕ) → Rises before between → between ≤ after → Rises before after
then_later before between after rises later = record { rose = omega (arith, rises.rose, later); later = omega (arith, rises.later, later) }

earlier_then : (before between after : ℕ) → before ≤ between → Rises between after → Rises before after
earlier_then before between after early rises = record { rose = omega (arith, rises.rose, early); later = omega (arith, rises.later, early) }

no_less : (n m : ℕ) → m ≡ n → n ≤ m
no_less n m same = omega (arith, same)

at_most : (a b c : ℕ) → a ≤ b → b ≤ c → a ≤ c
at_most a b c one other = omega (arith, one, other)

-- neither falls
pub grows : (o : Option Object) (s t : RvOutside) → Faulted o s t → (s.random.faults ≤ t.random.faults) × (s.clock.faults ≤ t.clock.faults)
grows None s t f = (no_less s.random.faults t.random.faults f.0, no_less s.clock.faults t.clock.faults f.1)
grows (Some object.Random) s t f = (f.0.later, f.1)
grows (Some object.Clock) s t f = (f.1, f.0.later)
grows (Some object.Signer) s t f = absurd f
grows (Some object.Disk) s t f = absurd f
grows (Some object.Shut) s t f = absurd f

module _ (s u t : RvOutside) where
  -- nothing failed before
  after_none : (o : Option Object) → Faulted None s u → Faulted o u t → Faulted o s t
  after_none None first second = (second.0 ∙ first.0, second.1 ∙ first.1)
  after_none (Some object.Random) first second =
      (same_then s.random.faults u.random.faults t.random.faults first.0 second.0, at_most s.clock.faults u.clock.faults t.clock.faults (no_less s.clock.faults u.clock.faults first.1) second.1)
  after_none (Some object.Clock) first second =
      (same_then s.clock.faults u.clock.faults t.clock.faults first.1 second.0, at_most s.random.faults u.random.faults t.random.faults (no_less s.random.faults u.random.faults first.0) second.1)
  after_none (Some object.Signer) first second = second
  after_none (Some object.Disk) first second = second
  after_none (Some object.Shut) first second = second

  -- what is blamed before, whatever is after
  first_stands : (o : Object) (later : Option Object) → Faulted (Some o) s u → Faulted later u t → Faulted (Some o) s t
  first_stands object.Random later first second =
      let more = grows later u t second in
      (then_later s.random.faults u.random.faults t.random.faults first.0 more.0, at_most s.clock.faults u.clock.faults t.clock.faults first.1 more.1)
  first_stands object.Clock later first second =
      let more = grows later u t second in
      (then_later s.clock.faults u.clock.faults t.clock.faults first.0 more.1, at_most s.random.faults u.random.faults t.random.faults first.1 more.0)
  first_stands object.Signer later first second = first
  first_stands object.Disk later first second = first
  first_stands object.Shut later first second = first

  -- what is blamed after, whatever was before
  second_stands : (earlier : Option Object) (o : Object) → Faulted earlier s u → Faulted (Some o) u t → Faulted (Some o) s t
  second_stands earlier object.Random first second =
      let more = grows earlier s u first in
      (earlier_then s.random.faults u.random.faults t.random.faults more.0 second.0, at_most s.clock.faults u.clock.faults t.clock.faults more.1 second.1)
  second_stands earlier object.Clock first second =
      let more = grows earlier s u first in
      (earlier_then s.clock.faults u.clock.faults t.clock.faults more.1 second.0, at_most s.random.faults u.random.faults t.random.faults more.0 second.1)
  second_stands earlier object.Signer first second = second
  second_stands earlier object.Disk first second = second
  second_stands earlier object.Shut first second = second

  both : (one other : Option Object) → Faulted one s u → Faulted other u t → Faulted (sooner one other) s t
  both None other first second = after_none other first second
  both (Some one) None first second = first_stands one None first second
  both (Some one) (Some other) first second = go (nat_lt (rank other) (rank one)) where
    go : (b : Bool) → Faulted (if b then Some other else Some one) s t
    go true = second_stands (Some one) other first second
    go false = first_stands one (Some other) first second

-- ---- a row

ended_at : (o : Object) (row : RvRow) (s : RvOutside) (r : RvView × Answer) (t : RvOutside) → Ended o row → RvComes row s r t → (blamed r.1 ≡ Some o) × (t ≡ s)
ended_at o (Row.Ends end) s r t ended comes = (ap (λ (x : RvView × Answer). blamed x.1) comes.0 ∙ ended, comes.1)
ended_at o (Row.Draws next) s r t ended comes = absurd ended
ended_at o (Row.Reads next) s r t ended comes = absurd ended
ended_at o (Row.Signs key text next) s r t ended comes = absurd ended
ended_at o (Row.Issues key next) s r t ended comes = absurd ended
ended_at o (Row.Stores content next) s r t ended comes = absurd ended

clock_stays : (s u : RvOutside) → u.clock ≡ s.clock → u.clock.faults ≡ s.clock.faults
clock_stays s u same = ap (λ (c : Clocked). c.faults) same

random_stays : (s u : RvOutside) → u.random ≡ s.random → u.random.faults ≡ s.random.faults
random_stays s u same = ap (λ (d : Drawn). d.faults) same

module _ (s u t : RvOutside) (r : RvView × Answer) where
  drawn_faults : (next : Result (List ℕ) Failed → RvRow) → ((f : Failed) → Ended object.Random (next (Err f))) → ((draw : List ℕ) → RvComes (next (Ok draw)) u r t → Faulted (blamed r.1) u t) → (draw : Result (List ℕ) Failed) → RvDraws s draw u → RvComes (next draw) u r t → Faulted (blamed r.1) s t
  drawn_faults next ends later (Ok draw) draws rest = after_none s u t (blamed r.1) (draws.0.1, clock_stays s u draws.1) (later draw rest)
  drawn_faults next ends later (Err f) draws rest =
      let end = ended_at object.Random (next (Err f)) u r t (ends f) rest in
      subst (λ o. Faulted o s t) (sym end.0)
      (subst (λ (x : RvOutside). Faulted (Some object.Random) s x) (sym end.1) (draws.0.1, no_less s.clock.faults u.clock.faults (clock_stays s u draws.1)))

  read_faults : (next : Result ℕ Failed → RvRow) → ((f : Failed) → Ended object.Clock (next (Err f))) → ((second : ℕ) → RvComes (next (Ok second)) u r t → Faulted (blamed r.1) u t) → (second : Result ℕ Failed) → RvReads s second u → RvComes (next second) u r t → Faulted (blamed r.1) s t
  read_faults next ends later (Ok second) reads rest = after_none s u t (blamed r.1) (random_stays s u reads.2, reads.1) (later second rest)
  read_faults next ends later (Err f) reads rest =
      let end = ended_at object.Clock (next (Err f)) u r t (ends f) rest in
      subst (λ o. Faulted o s t) (sym end.0)
      (subst (λ (x : RvOutside). Faulted (Some object.Clock) s x) (sym end.1) (reads.1, no_less s.random.faults u.random.faults (random_stays s u reads.2)))

row_faults : (row : RvRow) (s : RvOutside) (r : RvView × Answer) (t : RvOutside) → Blames row → RvComes row s r t → Faulted (blamed r.1) s t
row_faults (Row.Ends end) s r t blames comes =
    let none = ap (λ (x : RvView × Answer). blamed x.1) comes.0 ∙ blames in
    subst (λ o. Faulted o s t) (sym none) (ap (λ (u : RvOutside). u.random.faults) comes.1, ap (λ (u : RvOutside). u.clock.faults) comes.1)
row_faults (Row.Draws next) s r t blames comes = drawn_faults s comes.1 t r next (blames.1) (λ draw. row_faults (next (Ok draw)) comes.1 r t (blames.0 draw)) comes.0 comes.2 comes.3
row_faults (Row.Reads next) s r t blames comes = read_faults s comes.1 t r next (blames.1) (λ second. row_faults (next (Ok second)) comes.1 r t (blames.0 second)) comes.0 comes.2 comes.3
row_faults (Row.Signs key text next) s r t blames comes = absurd comes.2
row_faults (Row.Issues key next) s r t blames comes = absurd comes.2
row_faults (Row.Stores content next) s r t blames comes = absurd comes.2

-- ---- a run

module _ (suite : Checking) where
  step_faults : (s : RvState) (packet : Packet) (answer : Answer) (t : RvState) → RvStep suite s packet answer t → Faulted (blamed answer) s.outside t.outside
  step_faults s packet answer t step = row_faults (rendezvous_row suite s.view packet) s.outside (t.view, answer) t.outside (row_blames suite s.view packet) step.0

  run_faults : (s : RvState) (packets : List Packet) (answers : List Answer) (t : RvState) → Runs (RvStep suite) s packets answers t → Faulted (first_blamed answers) s.outside t.outside
  run_faults s [] [] t run = (ap (λ (u : RvState). u.outside.random.faults) run, ap (λ (u : RvState). u.outside.clock.faults) run)
  run_faults s [] (_ ∷ _) t run = absurd run
  run_faults s (_ ∷ _) [] t run = absurd run
  run_faults s (packet ∷ packets) (answer ∷ answers) t run =
      both s.outside run.0.outside t.outside (blamed answer) (first_blamed answers) (step_faults s packet answer run.0 run.1) (run_faults run.0 packets answers t run.2)

  run_suite : (s : RvState) (packets : List Packet) (answers : List Answer) (t : RvState) → Runs (RvStep suite) s packets answers t → t.suite ≡ s.suite
  run_suite s [] [] t run = ap (λ (u : RvState). u.suite) run
  run_suite s [] (_ ∷ _) t run = absurd run
  run_suite s (_ ∷ _) [] t run = absurd run
  run_suite s (packet ∷ packets) (answer ∷ answers) t run = run_suite run.0 packets answers t run.2 ∙ run.1.1

  leaves_suite : (s : RvState) (packet : Packet) (t : RvState) → Leaves (rendezvous suite) s packet t → t.suite ≡ s.suite
  leaves_suite s packet t (inl gave_up) = gave_up.2
  leaves_suite s packet t (inr (answer, step)) = step.1

  module _ (before after : Lent RvState) (ending : Status) (ends : Ends (rendezvous suite) before after ending) where
    at : (e : Status) → ending ≡ e → Ends (rendezvous suite) before after e
    at e is = subst (Ends (rendezvous suite) before after) is ends

    faulted : (packets : List Packet) (answers : List Answer) (o : Option Object) → Runs (RvStep suite) before.stage.state packets answers after.stage.state → first_blamed answers ≡ o → Faulted o before.stage.state.outside after.stage.state.outside
    faulted packets answers o run is =
        subst (λ b. Faulted b before.stage.state.outside after.stage.state.outside) is (run_faults before.stage.state packets answers after.stage.state run)

    pub ends_done : ending ≡ status.Done → Faulted None before.stage.state.outside after.stage.state.outside × ((after.input.read_faults ≡ before.input.read_faults) × (after.stage.output.write_faults ≡ before.stage.output.write_faults))
    ends_done is = let done = at status.Done is in (faulted done.3.0 done.3.1 None done.3.2.1 done.3.3, (done.2, done.3.4.1))

    pub ends_read : ending ≡ status.Read → Rises before.input.read_faults after.input.read_faults
    ends_read is = (at status.Read is).3

    pub ends_write : ending ≡ status.Write → Rises before.stage.output.write_faults after.stage.output.write_faults
    ends_write is = let failed = at status.Write is in failed.3.6

    rose : (o : Object) → Faulted (Some o) before.stage.state.outside after.stage.state.outside → Rises before.stage.state.outside.random.faults after.stage.state.outside.random.faults ⊎ Rises before.stage.state.outside.clock.faults after.stage.state.outside.clock.faults
    rose object.Random f = inl f.0
    rose object.Clock f = inr f.0
    rose object.Signer f = absurd f
    rose object.Disk f = absurd f
    rose object.Shut f = absurd f

    pub ends_outside : ending ≡ status.Outside → Rises before.stage.state.outside.random.faults after.stage.state.outside.random.faults ⊎ Rises before.stage.state.outside.clock.faults after.stage.state.outside.clock.faults
    ends_outside is = let failed = at status.Outside is in rose failed.3.3 (faulted failed.3.0 failed.3.1 (Some failed.3.3) failed.3.2.1 failed.3.4)

    pub ends_no_words : ending ≢ status.Words
    ends_no_words is = (at status.Words is).3

    pub ends_suite : after.stage.state.suite ≡ before.stage.state.suite
    ends_suite = by ending ends where
      same : after.stage.state ≡ before.stage.state → after.stage.state.suite ≡ before.stage.state.suite
      same is = ap (λ (u : RvState). u.suite) is

      by : (e : Status) → Ends (rendezvous suite) before after e → after.stage.state.suite ≡ before.stage.state.suite
      by status.Done ends = run_suite before.stage.state ends.3.0 ends.3.1 after.stage.state ends.3.2.1
      by status.Words ends = absurd ends.3
      by status.Input ends = same ends.3.2
      by status.Read ends = same ends.4
      by status.Write ends = run_suite before.stage.state ends.3.0 ends.3.2 after.stage.state ends.3.4
      by status.NoMemory ends = elim ends.3 [ inl untouched ↦ same untouched.0 | inr front ↦ leaves_suite front.1.4 front.1.2 after.stage.state front.1.7 ∙ run_suite before.stage.state front.1.0 front.1.3 front.1.4 front.1.6 ]
      by status.Limit ends = same ends.4
      by status.Refused ends = absurd ends.3
      by status.Outside ends = run_suite before.stage.state ends.3.0 ends.3.1 after.stage.state ends.3.2.1

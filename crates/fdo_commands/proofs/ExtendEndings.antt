-- How the command ends that gives a voucher one more entry.
use Rattle.std.proofs.Common.{◌≡◌, ◌≢◌, ◌⊎◌, inl, inr, ℕ, true, false, Bool, List, [], ◌∷◌, Option, Result, Ok, Err, refl, sym, ap, ◌∙◌, subst}
use Rattle.std.specs.Prelude.{IfOk, MatchResult, codes}
use Rattle.port_base.specs.Count.{Rises}
use Rattle.port_base.specs.Told.{grown}
use Rattle.key_codec.specs.declared.key.PublicKey.{PublicKey}
use Rattle.suite_port.specs.Answer.{Decides, Counts as SuiteCounts}
use Rattle.suite_port.specs.Asked.{Ask}
use Rattle.suite_port.specs.Asked.Ask.{Loaded as AskedToLoad}
use Rattle.suite_port.specs.Held.{Adds}
use Rattle.suite_port.specs.declared.fault.SuiteFault.{SuiteFault}
use Rattle.suite_port.specs.declared.fault.SuiteFault.TheVariants as suite
use Rattle.voucher_chain.specs.Chain.{Verifies}
use Rattle.voucher_chain.specs.Extended.{Counts}
use Rattle.voucher_chain.specs.Reading.{voucher_at}
use Rattle.voucher_chain.specs.declared.fault.ChainFault.{ChainFault}
use Rattle.voucher_chain.specs.declared.fault.ChainFault.TheVariants as fault
use Rattle.voucher_chain.specs.declared.voucher.Voucher.{Voucher}
use Rattle.voucher_tool.specs.Longer.{AsksFile, RefusesFile}
use Rattle.voucher_tool.specs.Refusal.{refused}
use Rattle.suite_port.specs.Keys.{Keys}
use Rattle.fdo_ports.specs.Stream.{Stream}
use Rattle.fdo_commands.specs.Ending.{Lent, lent}
use Rattle.fdo_commands.specs.Extending.{EntryEnds, ExtendEnds, Loaded, Unloaded}
use Rattle.fdo_commands.specs.Outside.{Signing}
use Rattle.fdo_commands.specs.Texts.{TextEnds}
use Rattle.fdo_commands.specs.Vouchers.{Extends, ExtendsFront, MaySignFile, extending, refused_as, told_as}
use Rattle.fdo_commands.specs.declared.status.Status.{Status}
use Rattle.fdo_commands.specs.declared.status.Status.TheVariants as status
use Rattle.fdo_commands.specs.declared.texts.Told.{Told}
use Rattle.fdo_commands.specs.declared.texts.Told.TheVariants as told
use Rattle.fdo_commands.proofs.Records.{keys_of}
use Rattle.fdo_commands.proofs.TextEndings.{text_done, text_read, text_write}

-- the suite's count of faults stays, or rises where the signer fails
may_rise : (before now : ℕ) (f : ChainFault) → Counts {A = List ℕ} before now (Err f) → (now ≡ before) ⊎ Rises before now
may_rise before now (fault.BadShape place) counts = inl counts
may_rise before now fault.BadCertHash counts = inl counts
may_rise before now (fault.BadPrevHash index) counts = inl counts
may_rise before now (fault.BadInfoHash index) counts = inl counts
may_rise before now (fault.BadSignature index) counts = inl counts
may_rise before now (fault.NoAlgorithm index) counts = inl counts
may_rise before now fault.TooLong counts = inl counts
may_rise before now fault.NoMatch counts = inl counts
may_rise before now fault.Failed counts = inr counts
may_rise before now fault.NoMemory counts = inl counts

-- and so does what it was asked
may_sign : (verifies : Verifies) (before after : Option (List Ask)) (next : PublicKey) (read : Result Voucher ChainFault) (f : ChainFault) → AsksFile verifies before after next read (Err f) → MaySignFile before after read
may_sign verifies before after next (Err g) f asked = asked
may_sign verifies before after next (Ok v) fault.NoMemory asked = asked
may_sign verifies before after next (Ok v) (fault.BadShape place) asked = inl asked
may_sign verifies before after next (Ok v) fault.BadCertHash asked = inl asked
may_sign verifies before after next (Ok v) (fault.BadPrevHash index) asked = inl asked
may_sign verifies before after next (Ok v) (fault.BadInfoHash index) asked = inl asked
may_sign verifies before after next (Ok v) (fault.BadSignature index) asked = inl asked
may_sign verifies before after next (Ok v) (fault.NoAlgorithm index) asked = inl asked
may_sign verifies before after next (Ok v) fault.TooLong asked = inl asked
may_sign verifies before after next (Ok v) fault.NoMatch asked = inl asked
may_sign verifies before after next (Ok v) fault.Failed asked = inl asked

-- a voucher is refused
pub refused_extends : {E : Type 0} (signs : Signing) (next : PublicKey) (s t : Keys) (bytes : List ℕ) (f : ChainFault) (found : Result Told E) → IfOk found (λ what. (f ≢ fault.NoMemory) × (what ≡ refused_as f)) → RefusesFile {A = List ℕ} s.held signs.algorithm bytes (Err f) → t.held ≡ s.held → Counts {A = List ℕ} s.faults t.faults (Err f) → AsksFile signs.verifies s.asked t.asked next (voucher_at bytes) (Err f) → MatchResult found (λ what. Extends signs next s bytes what t) (λ _. ExtendsFront s bytes t)
refused_extends signs next s t bytes f (Ok what) is refuses held counts asked =
    record { answer = Err f; told = is.1; memory = λ same. is.0 (cc same); longer = tt; refused = refuses; held = held; counts = counts; asked = asked }
refused_extends signs next s t bytes f (Err e) is refuses held counts asked =
    record { held = held; counts = may_rise s.faults t.faults f counts; asked = may_sign signs.verifies s.asked t.asked next (voucher_at bytes) f asked }

-- the count stays where no refusal is told
quiet : (before now : ℕ) (what : Told) (answer : Result (List ℕ) ChainFault) → Counts before now answer → what ≡ told_as answer → ((line : List ℕ) → what ≢ told.Refused line) → now ≡ before
quiet before now what (Ok text) counts is other = counts
quiet before now what (Err (fault.BadShape place)) counts is other = counts
quiet before now what (Err fault.BadCertHash) counts is other = counts
quiet before now what (Err (fault.BadPrevHash index)) counts is other = counts
quiet before now what (Err (fault.BadInfoHash index)) counts is other = counts
quiet before now what (Err (fault.BadSignature index)) counts is other = counts
quiet before now what (Err (fault.NoAlgorithm index)) counts is other = counts
quiet before now what (Err fault.TooLong) counts is other = counts
quiet before now what (Err fault.NoMatch) counts is other = counts
quiet before now what (Err fault.Failed) counts is other = absurd (other (refused (codes "failed")) is)
quiet before now what (Err fault.NoMemory) counts is other = counts

module _ (signs : Signing) (next : PublicKey) (private : List ℕ) (before after : Lent Keys) where
  -- after a key that is loaded
  loaded_ends : (ending : Status) → EntryEnds signs next private before after ending → ExtendEnds signs next private before after ending
  loaded_ends status.Done ends = ends
  loaded_ends status.Words ends = absurd ends.2.5
  loaded_ends status.Input ends = ends
  loaded_ends status.Read ends = ends
  loaded_ends status.Write ends = ends
  loaded_ends status.NoMemory ends = inr ends
  loaded_ends status.Limit ends = ends
  loaded_ends status.Refused ends = ends
  loaded_ends status.Outside ends = absurd ends.2.5

  -- the private key is loaded, and the voucher is read then
  pub after_load : (loaded : Keys) → signs.loads private ≡ true → (key : List ℕ) → Adds before.stage.state.held loaded.held key → loaded.faults ≡ before.stage.state.faults → loaded.asked ≡ grown before.stage.state.asked (AskedToLoad private ∷ []) → (ending : Status) → TextEnds (extending signs next) (lent loaded before.input before.stage.output) after ending → ExtendEnds signs next private before after ending
  after_load loaded known key adds still asked ending ends =
      loaded_ends ending (loaded, record { known = known; key = key; adds = adds; faults = still; asked = asked }, ends)

  module _ (ending : Status) (ends : ExtendEnds signs next private before after ending) where
    at : (e : Status) → ending ≡ e → ExtendEnds signs next private before after e
    at e is = subst (ExtendEnds signs next private before after) is ends

    pub extend_words : ending ≡ status.Words → signs.loads private ≡ false
    extend_words is = (at status.Words is).0

    pub extend_done : ending ≡ status.Done → (after.stage.state.faults ≡ before.stage.state.faults) × (after.input.read_faults ≡ before.input.read_faults) × (after.stage.output.write_faults ≡ before.stage.output.write_faults)
    extend_done is =
        let done = at status.Done is in
        let text = text_done (extending signs next) (lent done.0 before.input before.stage.output) after status.Done done.2 refl in
        (quiet done.0.faults after.stage.state.faults done.2.3 done.2.4.answer done.2.4.counts done.2.4.told (λ line other. cc (done.2.5.1, other)) ∙ done.1.faults, text.0, text.1)

    pub extend_read : ending ≡ status.Read → Rises before.input.read_faults after.input.read_faults
    extend_read is = let ends = at status.Read is in text_read (extending signs next) (lent ends.0 before.input before.stage.output) after status.Read ends.2 refl

    pub extend_write : ending ≡ status.Write → Rises before.stage.output.write_faults after.stage.output.write_faults
    extend_write is = let ends = at status.Write is in text_write (extending signs next) (lent ends.0 before.input before.stage.output) after status.Write ends.2 refl

    pub extend_outside : ending ≡ status.Outside → Rises before.stage.state.faults after.stage.state.faults
    extend_outside is = (at status.Outside is).1

-- the keys that were held are held still
module _ (signs : Signing) (next : PublicKey) (private : List ℕ) (before after : Lent Keys) (key : List ℕ) (is : before.stage.state.held key ≡ true) where
  same_held : after.stage.state.held ≡ before.stage.state.held → after.stage.state.held key ≡ true
  same_held same = ap (λ (held : List ℕ → Bool). held key) same ∙ is

  kept : (loaded : Keys) → Loaded signs private before.stage.state loaded → after.stage.state.held ≡ loaded.held → after.stage.state.held key ≡ true
  kept loaded from same = ap (λ (held : List ℕ → Bool). held key) same ∙ from.adds.kept key is

  stayed : (loaded : Keys) → Loaded signs private before.stage.state loaded → after.stage.state ≡ loaded → after.stage.state.held key ≡ true
  stayed loaded from same = kept loaded from (ap (λ (k : Keys). k.held) same)

  pub extend_held : (ending : Status) → ExtendEnds signs next private before after ending → after.stage.state.held key ≡ true
  extend_held status.Done ends = kept ends.0 ends.1 ends.2.4.held
  extend_held status.Words ends = same_held (ap (λ (k : Keys). k.held) ends.1)
  extend_held status.Input ends = kept ends.0 ends.1 ends.2.4.held
  extend_held status.Read ends = stayed ends.0 ends.1 ends.2.4
  extend_held status.Write ends = kept ends.0 ends.1 ends.2.4.held
  extend_held status.NoMemory ends = elim ends [ inl same ↦ same_held (ap (λ (k : Keys). k.held) same.0.0) | inr more ↦ elim more.2.5 [ inl same ↦ stayed more.0 more.1 same | inr front ↦ kept more.0 more.1 front.1.held ] ]
  extend_held status.Limit ends = stayed ends.0 ends.1 ends.2.4
  extend_held status.Refused ends = kept ends.0 ends.1 ends.2.4.held
  extend_held status.Outside ends = same_held ends.0

-- the private key is not loaded, and nothing is read
module _ (T : Type 0) (signs : Signing) (next : PublicKey) (private : List ℕ) (held held' : List ℕ → Bool) (count count' : ℕ) (asked asked' : Option (List Ask)) (input input' output output' : Stream) where
  abbrev UnloadedEnds : Status → Type 0
  UnloadedEnds = ExtendEnds signs next private (lent (keys_of held count asked) input output) (lent (keys_of held' count' asked') input' output')

  pub unloaded_ends : (f : SuiteFault) → Decides {T = T} (signs.loads private) (Err f) → held' ≡ held → SuiteCounts {T = T} count count' (Err f) → asked' ≡ asked → input'.left ≡ input.left → input'.read_faults ≡ input.read_faults → (ending : Status) → Unloaded f output output' ending → UnloadedEnds ending
  unloaded_ends suite.NoAlgorithm known same counts quietly one two ending ends =
      subst UnloadedEnds (sym ends.0) (known, rw (same, counts, quietly) refl, record { line = ends.1; left = one; read_faults = two })
  unloaded_ends suite.Failed known same counts quietly one two ending ends =
      subst UnloadedEnds (sym ends.0) (same, counts, quietly, record { line = ends.1; left = one; read_faults = two })
  unloaded_ends suite.NoMemory known same counts quietly one two ending ends =
      subst UnloadedEnds (sym ends.0) (inl ((rw (same, counts, quietly) refl, ends.1, ends.2), one, two))

-- What an envelope that was read is opened as.
use Rattle.std.proofs.Common.{◌≡◌, ℕ, ℤ, List, Option, Result, Ok, Err, refl, sym, ap, subst}
use Rattle.suite_port.specs.Asked.{Ask}
use Rattle.cose_envelopes.specs.declared.encrypt0.Encrypt0.{Encrypt0}
use Rattle.cose_envelopes.specs.declared.mac0.Mac0.{Mac0}
use Rattle.cose_envelopes.specs.declared.fault.CoseFault.{CoseFault}
use Rattle.cose_envelopes.specs.declared.fault.CoseFault.TheVariants as fault
use Rattle.cose_envelopes.specs.Asking.{AsksToOpen, also, asked_to_open, asked_to_open_etm, opening_of, opening_of_mac, where_read}
use Rattle.cose_envelopes.specs.Fault.{Reads, Fails, Answers}
use Rattle.cose_envelopes.specs.Opening.{encrypt0_at, mac0_at, of_shape, opened_by, opening, opened_mac, opening_etm}

abbrev Both : Type 0
Both = List ℕ × List ℕ

fails_as : {A : Type 0} (told : Result A ℕ) (next : A → Result Both CoseFault) (f : CoseFault) → Reads told (Err f) → Fails (of_shape told next) f
fails_as told next (fault.BadShape place) e = ap (λ r. of_shape r next) e
fails_as told next fault.NoMemory e = tt
fails_as told next fault.NotVerified e = absurd e
fails_as told next fault.NotOpened e = absurd e
fails_as told next (fault.NoAlgorithm n) e = absurd e
fails_as told next fault.Failed e = absurd e

asks_nothing : {A : Type 0} (told : Result A ℕ) (next : A → Option Ask) (before : Option (List Ask)) (f : CoseFault) → Reads told (Err f) → AsksToOpen {A = Both} before before (where_read told next) (Err f)
asks_nothing told next before (fault.BadShape place) e = subst (λ r. before ≡ also before (where_read r next)) (sym e) refl
asks_nothing told next before fault.NoMemory e = refl
asks_nothing told next before fault.NotVerified e = absurd e
asks_nothing told next before fault.NotOpened e = absurd e
asks_nothing told next before (fault.NoAlgorithm n) e = absurd e
asks_nothing told next before fault.Failed e = absurd e

module _ (bits : ℤ → Option ℕ) (opens : ℤ → List ℕ → List ℕ → List ℕ → List ℕ → Option (List ℕ)) (alg : ℤ) (key bytes : List ℕ) where
  pub opening_read : (value : Encrypt0) (r : Result Both CoseFault) → Reads (encrypt0_at bytes) (Ok value) → Answers (opened_by opens alg key value (bits alg)) r → Answers (opening bits opens alg key bytes) r
  unfolding opening
  opening_read value r e h = subst (λ (told : Result Encrypt0 ℕ). Answers (of_shape told (λ value. opened_by opens alg key value (bits alg))) r) (sym e) h

  pub opening_fails : (f : CoseFault) → Reads (encrypt0_at bytes) (Err f) → Answers (opening bits opens alg key bytes) (Err f)
  unfolding opening
  opening_fails f e = fails_as (encrypt0_at bytes) (λ value. opened_by opens alg key value (bits alg)) f e

  pub opening_mac_read : (value : Mac0) (r : Result Both CoseFault) → Reads (mac0_at bytes) (Ok value) → Answers (opened_mac bits opens alg key value) r → Answers (opening_etm bits opens alg key bytes) r
  unfolding opening_etm
  opening_mac_read value r e h = subst (λ (told : Result Mac0 ℕ). Answers (of_shape told (opened_mac bits opens alg key)) r) (sym e) h

  pub opening_mac_fails : (f : CoseFault) → Reads (mac0_at bytes) (Err f) → Answers (opening_etm bits opens alg key bytes) (Err f)
  unfolding opening_etm
  opening_mac_fails f e = fails_as (mac0_at bytes) (opened_mac bits opens alg key) f e

module _ (bits : ℤ → Option ℕ) (alg : ℤ) (key bytes : List ℕ) where
  pub asks_read : (before after : Option (List Ask)) (value : Encrypt0) (r : Result Both CoseFault) → Reads (encrypt0_at bytes) (Ok value) → AsksToOpen before after (opening_of alg key value (bits alg)) r → AsksToOpen before after (asked_to_open bits alg key bytes) r
  unfolding asked_to_open
  asks_read before after value r e h = subst (λ (told : Result Encrypt0 ℕ). AsksToOpen before after (where_read told (λ value. opening_of alg key value (bits alg))) r) (sym e) h

  pub asks_fails : (before : Option (List Ask)) (f : CoseFault) → Reads (encrypt0_at bytes) (Err f) → AsksToOpen {A = Both} before before (asked_to_open bits alg key bytes) (Err f)
  unfolding asked_to_open
  asks_fails before f e = asks_nothing (encrypt0_at bytes) (λ value. opening_of alg key value (bits alg)) before f e

  pub asks_mac_read : (before after : Option (List Ask)) (value : Mac0) (r : Result Both CoseFault) → Reads (mac0_at bytes) (Ok value) → AsksToOpen before after (opening_of_mac bits alg key value) r → AsksToOpen before after (asked_to_open_etm bits alg key bytes) r
  unfolding asked_to_open_etm
  asks_mac_read before after value r e h = subst (λ (told : Result Mac0 ℕ). AsksToOpen before after (where_read told (opening_of_mac bits alg key)) r) (sym e) h

  pub asks_mac_fails : (before : Option (List Ask)) (f : CoseFault) → Reads (mac0_at bytes) (Err f) → AsksToOpen {A = Both} before before (asked_to_open_etm bits alg key bytes) (Err f)
  unfolding asked_to_open_etm
  asks_mac_fails before f e = asks_nothing (mac0_at bytes) (opening_of_mac bits alg key) before f e

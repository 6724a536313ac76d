-- Opening and sealing, by the kind of the cipher.
use Rattle.std.proofs.Common.{◌≡◌, ℕ, ℤ, List, Bool, Result, ok_or, option_map, sym, subst}
use Rattle.fdo_msgs.specs.declared.cause.Cause.TheVariants as cause
use Rattle.fdo_rules.specs.Channel.{by_opening, is_etm, opened_under, opening_by, sealed_under, sealed_with}
use Rattle.fdo_rules.specs.Suite.{Sealing}
use Rattle.fdo_rules.specs.Unfit.{Checks}
use Rattle.fdo_rules.specs.declared.unfit.Unfit.{Unfit}

module _ (suite : Sealing) (cipher : ℤ) (key : List ℕ) where
  pub opened_as : (etm : Bool) (body : List ℕ) (r : Result (List ℕ × List ℕ) Unfit) → is_etm cipher ≡ etm → Checks (by_opening (opening_by etm suite cipher key body)) r → Checks (opened_under suite cipher key body) r
  unfolding opened_under
  opened_as etm body r is h = subst (λ (b : Bool). Checks (by_opening (opening_by b suite cipher key body)) r) (sym is) h

  pub sealed_as : (etm : Bool) (iv plain : List ℕ) (r : Result (List ℕ) Unfit) → is_etm cipher ≡ etm → Checks (ok_or (option_map (λ bits. sealed_with etm bits suite cipher key iv plain) (suite.bits cipher)) (cause.NoAlgorithm cipher)) r → Checks (sealed_under suite cipher key iv plain) r
  unfolding sealed_under
  sealed_as etm iv plain r is h =
      subst (λ (b : Bool). Checks (ok_or (option_map (λ bits. sealed_with b bits suite cipher key iv plain) (suite.bits cipher)) (cause.NoAlgorithm cipher)) r) (sym is) h

-- What is read is what the bytes say.
use Rattle.std.proofs.Common.{ℕ, List, Option, Result, Ok, Err, IfOk, subst}
use Rattle.cbor_core.specs.declared.item.Item.{Item}
use Rattle.cbor_core.specs.Spots.{Spot}
use Rattle.cbor_core.specs.Whole.{said_at, Says}
use Rattle.cbor_core.proofs.Bytes.{IsBytes}
use Rattle.cbor_core.proofs.WholeLaws.{says_found, says_again}
use Rattle.cose_envelopes.specs.declared.fault.CoseFault.{CoseFault}
use Rattle.cose_envelopes.specs.Fault.{Reads}

module _ {A : Type 0} (said : Item → Option A) (place : Spot → ℕ) (bytes : List ℕ) where
  pub reads_found : (r : Result A CoseFault) → IsBytes bytes → Reads (said_at said place bytes) r → IfOk r (Says said bytes)
  reads_found (Ok value) fits e = says_found said place bytes value fits e
  reads_found (Err f) fits e = tt

  pub reads_only : (r : Result A CoseFault) → Reads (said_at said place bytes) r → (value : A) → Says said bytes value → Reads (Ok value) r
  reads_only r e value h = subst (λ (told : Result A ℕ). Reads told r) (says_again said place bytes value h) e

-- What the body of a snapshot or a record says.
use Rattle.std.proofs.Common.{◌≡◌, ℕ, List, length, true, false, Result, Ok, Err, refl, sym, ap, ◌∙◌}
use Rattle.std.specs.Prelude.{◌==◌}
use Rattle.std.proofs.lemmas.Bool.{eq-eqb}
use Rattle.cbor_core.specs.declared.fault.CborFault.{CborFault}
use Rattle.cbor_core.specs.declared.fault.CborFault.TheVariants as cbor
use Rattle.cbor_core.specs.Reading.{first_item, Fails}
use Rattle.cbor_core.specs.Spots.{Spot, Standing}
use Rattle.voucher_store.specs.Read.{◌>>=◌, Blames, at_end, det_of, det_at, IsOpened, IsAt, IsCut}
use Rattle.voucher_store.specs.declared.fault.ImageFault.{ImageFault}
use Rattle.voucher_store.specs.declared.fault.ImageFault.TheVariants as image

pub cut_at : (body : List ℕ) (fault : CborFault) (found : ImageFault) → Fails fault (first_item true body) → IsAt fault found → IsCut body found
cut_at body cbor.NoMemory image.NoMemory fails is = tt
cut_at body cbor.NoMemory (image.Foreign place) fails is = absurd (cc is)
cut_at body (cbor.Truncated p) image.NoMemory fails is = tt
cut_at body (cbor.Truncated p) (image.Foreign place) fails is = (cbor.Truncated p, fails, cc is)
cut_at body (cbor.Malformed p) image.NoMemory fails is = tt
cut_at body (cbor.Malformed p) (image.Foreign place) fails is = (cbor.Malformed p, fails, cc is)
cut_at body (cbor.TooDeep p) image.NoMemory fails is = tt
cut_at body (cbor.TooDeep p) (image.Foreign place) fails is = (cbor.TooDeep p, fails, cc is)
cut_at body (cbor.Duplicate p) image.NoMemory fails is = tt
cut_at body (cbor.Duplicate p) (image.Foreign place) fails is = (cbor.Duplicate p, fails, cc is)
cut_at body (cbor.Float p) image.NoMemory fails is = tt
cut_at body (cbor.Float p) (image.Foreign place) fails is = (cbor.Float p, fails, cc is)
cut_at body (cbor.NotDeterministic p) image.NoMemory fails is = tt
cut_at body (cbor.NotDeterministic p) (image.Foreign place) fails is = (cbor.NotDeterministic p, fails, cc is)

module _ {A : Type 0} (seen : Spot → Result A ℕ) (body : List ℕ) where
  det_is : (read : ℕ) (part : Standing) (r : Result A ℕ) → IsOpened body read part → seen part.spot ≡ r → det_at seen body ≡ (r >>= at_end (length body) read)
  det_is read part r opened says =
      ap (det_of seen body) opened.taken ∙ ap (λ (t : Result A ℕ). t >>= at_end (length body) read) (ap seen (sym opened.part_is) ∙ says)

  pub said_opened : (read : ℕ) (part : Standing) (value : A) → IsOpened body read part → seen part.spot ≡ Ok value → read ≡ length body → det_at seen body ≡ Ok value
  said_opened read part value opened says all = det_is read part (Ok value) opened says ∙ (rw (eq-eqb read (length body) all) refl)

  pub over_opened : (read : ℕ) (part : Standing) (value : A) → IsOpened body read part → seen part.spot ≡ Ok value → (read == length body) ≡ false → det_at seen body ≡ Err read
  over_opened read part value opened says less = det_is read part (Ok value) opened says ∙ (rw less refl)

  pub blamed_opened : (read : ℕ) (part : Standing) (fault : ImageFault) → IsOpened body read part → Blames (seen part.spot) fault → Blames (det_at seen body) fault
  blamed_opened read part image.NoMemory opened says = tt
  blamed_opened read part (image.Foreign place) opened says = det_is read part (Err place) opened says

  pub blamed_cut : (fault : ImageFault) → IsCut body fault → Blames (det_at seen body) fault
  blamed_cut image.NoMemory cut = tt
  blamed_cut (image.Foreign place) cut = ap (det_of seen body) cut.1 ∙ ap Err (sym cut.2)

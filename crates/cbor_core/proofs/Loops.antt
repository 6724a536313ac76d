-- A loop over a row: what is still read from here gives what the whole row gives.
use Rattle.std.proofs.Common.{◌≡◌, ℕ, suc, ◌-◌, ◌+◌, ◌<◌, ◌≤◌, true, false, List, drop, Ok, Err, refl, sym, ◌∙◌, arith}
use Rattle.cbor_core.specs.declared.fault.CborFault.{CborFault}
use Rattle.cbor_core.specs.declared.fault.CborFault.TheVariants as fault
use Rattle.cbor_core.specs.Reading.{Read, Fails, row_at, open_at, breaks}

module _ {B : Type 0} (step : B → List ℕ → Read B) where
  pub row_more : (n turn : ℕ) (front next : B) (bytes rest : List ℕ) (whole : Read B) → turn < n → step front bytes ≡ Ok (next, rest)
      → row_at step (n - turn) front bytes ≡ whole → row_at step (n - (turn + 1)) next rest ≡ whole
  unfolding row_at
  row_more n turn front next bytes rest whole h e was =
      let left : n - turn ≡ suc (n - (turn + 1)) = omega arith in
      rw (left, e) at was

  pub row_ends : (n turn : ℕ) (front : B) (bytes : List ℕ) (whole : Read B) → n ≤ turn → row_at step (n - turn) front bytes ≡ whole → whole ≡ Ok (front, bytes)
  unfolding row_at
  row_ends n turn front bytes whole h was =
      let left : n - turn ≡ 0 = omega arith in
      sym (rw left at was)

  open_one : (total n turn : ℕ) (front next : B) (bytes rest : List ℕ) → turn < n → breaks bytes ≡ false → step front bytes ≡ Ok (next, rest)
      → open_at step total (n - turn) front bytes ≡ open_at step total (n - (turn + 1)) next rest
  unfolding open_at
  open_one total n turn front next bytes rest h goes e =
      let left : n - turn ≡ suc (n - (turn + 1)) = omega arith in
      rw (left, goes, e) refl

  pub open_more : (total n turn : ℕ) (front next : B) (bytes rest : List ℕ) (whole : Read B) → turn < n → breaks bytes ≡ false → step front bytes ≡ Ok (next, rest)
      → open_at step total (n - turn) front bytes ≡ whole → open_at step total (n - (turn + 1)) next rest ≡ whole
  open_more total n turn front next bytes rest whole h goes e was = sym (open_one total n turn front next bytes rest h goes e) ∙ was

  pub open_ends : (total n turn : ℕ) (front : B) (bytes : List ℕ) (whole : Read B) → turn < n → breaks bytes ≡ true
      → open_at step total (n - turn) front bytes ≡ whole → whole ≡ Ok (front, drop 1 bytes)
  unfolding open_at
  open_ends total n turn front bytes whole h stops was =
      let left : n - turn ≡ suc (n - (turn + 1)) = omega arith in
      sym (rw (left, stops) at was)

  pub open_over : (total n turn : ℕ) (front : B) (bytes : List ℕ) (whole : Read B) → n ≤ turn
      → open_at step total (n - turn) front bytes ≡ whole → whole ≡ Err (fault.Truncated total)
  unfolding open_at
  open_over total n turn front bytes whole h was =
      let left : n - turn ≡ 0 = omega arith in
      sym (rw left at was)

  row_stops : (n turn : ℕ) (front : B) (bytes : List ℕ) (f : CborFault) → turn < n → step front bytes ≡ Err f → row_at step (n - turn) front bytes ≡ Err f
  unfolding row_at
  row_stops n turn front bytes f h e =
      let left : n - turn ≡ suc (n - (turn + 1)) = omega arith in
      rw (left, e) refl

  open_stops : (total n turn : ℕ) (front : B) (bytes : List ℕ) (f : CborFault) → turn < n → breaks bytes ≡ false → step front bytes ≡ Err f → open_at step total (n - turn) front bytes ≡ Err f
  unfolding open_at
  open_stops total n turn front bytes f h goes e =
      let left : n - turn ≡ suc (n - (turn + 1)) = omega arith in
      rw (left, goes, e) refl

  -- a failed step fails the row as it fails itself
  carries : (f : CborFault) (read whole : Read B) → ((g : CborFault) → read ≡ Err g → whole ≡ Err g) → Fails f read → Fails f whole
  carries (fault.Truncated p) read whole h e = h (fault.Truncated p) e
  carries (fault.Malformed p) read whole h e = h (fault.Malformed p) e
  carries (fault.TooDeep p) read whole h e = h (fault.TooDeep p) e
  carries (fault.Duplicate p) read whole h e = h (fault.Duplicate p) e
  carries (fault.Float p) read whole h e = h (fault.Float p) e
  carries (fault.NotDeterministic p) read whole h e = h (fault.NotDeterministic p) e
  carries fault.NoMemory read whole h e = tt

  pub row_fails : (f : CborFault) (n turn : ℕ) (front : B) (bytes : List ℕ) (whole : Read B) → turn < n → Fails f (step front bytes)
      → row_at step (n - turn) front bytes ≡ whole → Fails f whole
  row_fails f n turn front bytes whole h e was = carries f (step front bytes) whole (λ g e. sym was ∙ row_stops n turn front bytes g h e) e

  pub open_fails : (f : CborFault) (total n turn : ℕ) (front : B) (bytes : List ℕ) (whole : Read B) → turn < n → breaks bytes ≡ false → Fails f (step front bytes)
      → open_at step total (n - turn) front bytes ≡ whole → Fails f whole
  open_fails f total n turn front bytes whole h goes e was = carries f (step front bytes) whole (λ g e. sym was ∙ open_stops total n turn front bytes g h goes e) e

  pub row_refuses : (f : CborFault) (n turn : ℕ) (front : B) (bytes : List ℕ) (whole : Read B) → turn < n → step front bytes ≡ Err f
      → row_at step (n - turn) front bytes ≡ whole → whole ≡ Err f
  row_refuses f n turn front bytes whole h e was = sym was ∙ row_stops n turn front bytes f h e

  pub open_refuses : (f : CborFault) (total n turn : ℕ) (front : B) (bytes : List ℕ) (whole : Read B) → turn < n → breaks bytes ≡ false → step front bytes ≡ Err f
      → open_at step total (n - turn) front bytes ≡ whole → whole ≡ Err f
  open_refuses f total n turn front bytes whole h goes e was = sym was ∙ open_stops total n turn front bytes f h goes e

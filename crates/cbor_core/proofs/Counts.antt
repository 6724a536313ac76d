-- Counting up to a break.
use Rattle.std.proofs.Common.{◌≡◌, ℕ, ◌-◌, ◌+◌, ◌<◌, ◌≤◌, true, false, List, drop, Option, Some, Ok, Err, refl, sym, ap, ◌∙◌}
use Rattle.cbor_core.specs.declared.fault.CborFault.{CborFault}
use Rattle.cbor_core.specs.Counting.{count_step}
use Rattle.cbor_core.specs.Reading.{Read, breaks, open_at}
use Rattle.cbor_core.proofs.Bytes.{ok_is}
use Rattle.cbor_core.proofs.Loops.{open_more, open_ends, open_over, open_refuses}
use Rattle.cbor_core.proofs.Again.{err_not_ok}

module _ (pass : List ℕ → Read (Unit {0})) (total : ℕ) where
  abbrev counts : ℕ → ℕ → List ℕ → Read ℕ
  counts left n bytes = open_at (count_step pass) total left n bytes

  pub counted_more : (n turn : ℕ) (bytes rest : List ℕ) (whole : Read ℕ) → turn < n → breaks bytes ≡ false → pass bytes ≡ Ok (tt, rest) → counts (n - turn) turn bytes ≡ whole → counts (n - (turn + 1)) (turn + 1) rest ≡ whole
  counted_more n turn bytes rest whole lt goes e was = open_more (count_step pass) total n turn turn (turn + 1) bytes rest whole lt goes (rw e refl) was

  pub counted_ends : (n turn : ℕ) (bytes : List ℕ) (whole : Read ℕ) → turn < n → breaks bytes ≡ true → counts (n - turn) turn bytes ≡ whole → (m : ℕ) (after : List ℕ) → whole ≡ Ok (m, after) → Some turn ≡ Some m
  counted_ends n turn bytes whole lt stops was m after e =
      ap (λ (p : ℕ × List ℕ). Some p.0) (ok_is (turn, drop 1 bytes) (m, after) (sym (open_ends (count_step pass) total n turn turn bytes whole lt stops was) ∙ e))

  pub counted_fails : (f : CborFault) (n turn : ℕ) (bytes : List ℕ) (whole : Read ℕ) (o : Option ℕ) → turn < n → breaks bytes ≡ false → pass bytes ≡ Err f → counts (n - turn) turn bytes ≡ whole → (m : ℕ) (after : List ℕ) → whole ≡ Ok (m, after) → o ≡ Some m
  counted_fails f n turn bytes whole o lt goes e was m after is =
      absurd (err_not_ok whole f (m, after) (open_refuses (count_step pass) f total n turn turn bytes whole lt goes (rw e refl) was) is)

  pub counted_over : (n turn : ℕ) (bytes : List ℕ) (whole : Read ℕ) (o : Option ℕ) → n ≤ turn → counts (n - turn) turn bytes ≡ whole → (m : ℕ) (after : List ℕ) → whole ≡ Ok (m, after) → o ≡ Some m
  counted_over n turn bytes whole o le was m after is = absurd (err_not_ok whole _ (m, after) (open_over (count_step pass) total n turn turn bytes whole le was) is)

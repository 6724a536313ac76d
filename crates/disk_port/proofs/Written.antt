-- A write that is done, as one of those that are cut short.
use Rattle.std.proofs.Common.{◌≡◌, inl, inr, ℕ, ◌+◌, ◌-◌, ◌≤◌, ◌<◌, List, ◌++◌, length, take, drop, replicate, min, max, refl, ap, sym, ◌∙◌, append_assoc, arith, length-append, length-drop}
use Rattle.std.proofs.lemmas.List.{append-nil, take-take, drop-drop, drop_all, drop_at, take-append-le, length-take-le, length-replicate}
use Rattle.std.proofs.lemmas.Bool.{cases_lt}
use Rattle.disk_port.specs.Story.{widened, put}
use Rattle.disk_port.specs.Crash.{Torn}

length_widened : (n : ℕ) (old : List ℕ) → length (widened n old) ≡ max n (length old)
length_widened n old = omega (arith, length-append old (replicate (n - length old) 0), length-replicate {A = ℕ} (n - length old) 0)

behind_widened : (n : ℕ) (old : List ℕ) → drop n (widened n old) ≡ drop n old
behind_widened n old = elim (cases_lt n (length old)) [
  | inl within ↦ ap (λ k. drop n (old ++ replicate k 0)) (none within) ∙ ap (drop n) (append-nil old)
  | inr past ↦ drop_all n (widened n old) (omega (arith, length_widened n old)) ∙ sym (drop_all n old past)
]
  where
    none : n < length old → n - length old ≡ 0
    none within = omega arith

front_widened : (k n : ℕ) (old : List ℕ) → k ≤ length old → take k (widened n old) ≡ take k old
front_widened k n old within = take-append-le k old (replicate (n - length old) 0) within

module _ (at : ℕ) (piece old : List ℕ) where
  length_front : length (take at (widened (at + length piece) old)) ≡ at
  length_front = length-take-le at (widened (at + length piece) old) (omega (arith, length_widened (at + length piece) old))

  -- what is read from its place on
  pub drop_put : drop at (put at piece old) ≡ piece ++ drop (at + length piece) old
  unfolding put
  drop_put =
      ap (drop at) (append_assoc (take at (widened (at + length piece) old)) piece (drop (at + length piece) (widened (at + length piece) old)))
      ∙ drop_at (take at (widened (at + length piece) old)) (piece ++ drop (at + length piece) (widened (at + length piece) old)) at length_front
      ∙ ap (λ l. piece ++ l) (behind_widened (at + length piece) old)

  -- what stands before it
  pub take_put : (k : ℕ) → k ≤ at → k ≤ length old → take k (put at piece old) ≡ take k old
  unfolding put
  take_put k within inside =
      ap (take k) (append_assoc (take at (widened (at + length piece) old)) piece (drop (at + length piece) (widened (at + length piece) old)))
      ∙ take-append-le k (take at (widened (at + length piece) old)) (piece ++ drop (at + length piece) (widened (at + length piece) old)) (omega (arith, length_front))
      ∙ take-take k at (widened (at + length piece) old) within
      ∙ front_widened k (at + length piece) old inside

  pub length_put : length (put at piece old) ≡ max (at + length piece) (length old)
  unfolding put
  length_put =
      let w : List ℕ = widened (at + length piece) old in
      omega (arith, length_front, length-append (take at w ++ piece) (drop (at + length piece) w), length-append (take at w) piece, length-drop (at + length piece) w, length_widened (at + length piece) old)

  -- what stands behind it
  pub behind_put : drop (at + length piece) (put at piece old) ≡ drop (at + length piece) old
  behind_put =
      sym (drop-drop (length piece) at (put at piece old)) ∙ ap (drop (length piece)) drop_put ∙ drop_at piece (drop (at + length piece) old) (length piece) refl

  -- it is one of those that are cut short
  pub put_torn : Torn at (length piece) old (put at piece old)
  put_torn = record {
    before = take_put (min at (length old)) (omega arith) (omega arith);
    after = behind_put;
    no_shorter = omega (arith, length_put);
    no_longer = omega (arith, length_put);
  }

pub torn_same : (at n : ℕ) (old : List ℕ) → Torn at n old old
torn_same at n old = record { before = refl; after = refl; no_shorter = omega arith; no_longer = omega arith }

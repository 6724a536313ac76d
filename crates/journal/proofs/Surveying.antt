-- Where open records end, from one to the next.
use Rattle.std.proofs.Common.{◌≡◌, ℕ, zero, suc, ◌+◌, ◌-◌, ◌≤◌, ◌<◌, List, [], ◌∷◌, ◌++◌, length, Bool, Option, None, Some, refl, ap, sym, ◌∙◌, subst, arith, length-append}
use Rattle.journal.specs.Records.{record_at, is_one, Walk, walk, walk_on, with_first, ended}
use Rattle.journal.proofs.RecordLaws.{walk_none, record_fore, Fore}

pub record_shorter : (x b rest : List ℕ) → record_at x ≡ Some (b, rest) → length x ≡ 5 + length b + length rest
record_shorter x b rest is =
    let f : Fore x b rest = record_fore x b rest is in
    omega (arith, ap length f.is, f.four, length-append f.head (b ++ rest), length-append b rest)

-- the same end from here as from the beginning
pub record Ends (n place : ℕ) (x : List ℕ) (w : Walk) : Type 0 where
  pub at : (walk n place x).place ≡ w.place
  pub gate : (walk n place x).one ≡ w.one

pub walk_more : (n m place : ℕ) (x b rest : List ℕ) (w : Walk) → n ≡ suc m → record_at x ≡ Some (b, rest) → Ends n place x w → Ends m (place + (5 + length b)) rest w
walk_more n m place x b rest w n_is is ends =
    let e : Ends (suc m) place x w = subst (λ n. Ends n place x w) n_is ends in
    let step : walk (suc m) place x ≡ with_first b (walk m (place + (5 + length b)) rest) = ap (walk_on (λ p x. walk m p x) place x) is in
    record { at = sym (ap (λ (w : Walk). w.place) step) ∙ e.at; gate = sym (ap (λ (w : Walk). w.one) step) ∙ e.gate }

pub record IsEnd (place : ℕ) (x : List ℕ) (w : Walk) : Type 0 where
  pub at : place ≡ w.place
  pub gate : is_one x ≡ w.one

pub walk_end : (n place : ℕ) (x : List ℕ) (w : Walk) → record_at x ≡ None → Ends n place x w → IsEnd place x w
walk_end n place x w none ends =
    let is = walk_none n place x none in
    record { at = sym (ap (λ (w : Walk). w.place) is) ∙ ends.at; gate = sym (ap (λ (w : Walk). w.one) is) ∙ ends.gate }

pub walk_zero : (n place : ℕ) (x : List ℕ) (w : Walk) → n ≡ 0 → Ends n place x w → IsEnd place x w
walk_zero n place x w none ends = let e = subst (λ n. Ends n place x w) none ends in record { at = e.at; gate = e.gate }

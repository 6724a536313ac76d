-- The laws of the key agreement, at the laboratory suite.
use Rattle.std.proofs.Common.{◌≡◌, ℕ, ◌==◌, List, ◌&&◌, length, Option, Some, None, true, IsSome, is_some, ap, sym, ◌∙◌}
use Rattle.suite_port.specs.Answer.{only_if}
use Rattle.suite_port.specs.LabKex.{is_lab_name, lab_secret, lab_first, lab_second, lab_finish}

-- the value that an option has, or another one
abbrev value_or : {V : Type 0} → V → Option V → V
value_or other None = other
value_or other (Some value) = value

-- where the name is known and what was drawn has 32 bytes, the other end answers
answered : (name one other : List ℕ) → is_lab_name name ≡ true → length one ≡ 32 → lab_second name other one ≡ Some (other, lab_secret one other)
answered name one other known size =
    ap (λ b. only_if (b && (length one == 32)) (other, lab_secret one other)) known
    ∙ ap (λ (n : ℕ). only_if (true && (n == 32)) (other, lab_secret one other)) size

pub lab_second_takes_first : (name one other : List ℕ) → is_lab_name name ≡ true → length one ≡ 32 → length other ≡ 32 → IsSome (lab_second name other (lab_first name one).0)
lab_second_takes_first name one other known size size' = ap is_some (answered name one other known size)

pub lab_ends_agree : (name one other xb shared : List ℕ) → is_lab_name name ≡ true → length one ≡ 32 → length other ≡ 32 → lab_second name other (lab_first name one).0 ≡ Some (xb, shared) → lab_finish name (lab_first name one).1 xb ≡ Some shared
lab_ends_agree name one other xb shared known size size' second =
    let both : Some (other, lab_secret one other) ≡ Some (xb, shared) = sym (answered name one other known size) ∙ second in
    let xb_is : other ≡ xb = ap (λ (o : Option (List ℕ × List ℕ)). (value_or (other, shared) o).0) both in
    let shared_is : lab_secret one other ≡ shared = ap (λ (o : Option (List ℕ × List ℕ)). (value_or (other, shared) o).1) both in
    let sized : length xb ≡ 32 = sym (ap length xb_is) ∙ size' in
    ap (λ b. only_if (b && (length one == 32) && (length xb == 32)) (lab_secret one xb)) known
    ∙ ap (λ (n : ℕ). only_if (true && (n == 32) && (length xb == 32)) (lab_secret one xb)) size
    ∙ ap (λ (n : ℕ). only_if (true && true && (n == 32)) (lab_secret one xb)) sized
    ∙ ap (λ x. Some (lab_secret one x)) (sym xb_is)
    ∙ ap Some shared_is

-- What both ends of a key agreement answer, by the laws of a suite.
use Rattle.std.proofs.Common.{◌≡◌, ℕ, List, Option, None, Some, Err, Bool, true, false, IsSome, refl, ap, sym, ◌∙◌, rules}
use Rattle.suite_port.specs.Answer.{Answers, Decides, only_if}
use Rattle.suite_port.specs.declared.fault.SuiteFault.{SuiteFault}
use Rattle.suite_port.specs.declared.fault.SuiteFault.TheVariants as faults

pub known_some : {V : Type 0} (known : Bool) (value other : V) → only_if known value ≡ Some other → (known ≡ true) × (value ≡ other)
known_some true value other e = (refl, search rules)
known_some false value other e = search rules

some_is : {V : Type 0} (one other : V) → Some one ≡ Some other → one ≡ other
some_is one other e = search rules

pub some_not_none : {V : Type 0} (o : Option V) → IsSome o → o ≡ None → ⊥
some_not_none None s e = search rules
some_not_none (Some v) s e = search rules

-- the other end takes what the first one sent
pub second_takes : (known : Bool) (first : List ℕ × List ℕ) (xa private sent : List ℕ) (second : List ℕ → Option (List ℕ × List ℕ))
    → only_if known first ≡ Some (xa, private) → sent ≡ xa → (known ≡ true → IsSome (second first.0)) → second sent ≡ None → ⊥
second_takes known first xa private sent second begun same takes none =
    let is : (known ≡ true) × (first ≡ (xa, private)) = known_some known first (xa, private) begun in
    some_not_none (second first.0) (takes is.0) (ap (λ (p : List ℕ × List ℕ). second p.0) is.1 ∙ ap second (sym same) ∙ none)

-- the first end finishes with the secret of the other
pub finishes : (known : Bool) (first : List ℕ × List ℕ) (xa private xb shared sent kept answer : List ℕ) (second : List ℕ → Option (List ℕ × List ℕ)) (finish : List ℕ → List ℕ → Option (List ℕ))
    → only_if known first ≡ Some (xa, private) → sent ≡ xa → kept ≡ private → answer ≡ xb → second sent ≡ Some (xb, shared)
    → ((xb' shared' : List ℕ) → known ≡ true → second first.0 ≡ Some (xb', shared') → finish first.1 xb' ≡ Some shared')
    → finish kept answer ≡ Some shared
finishes known first xa private xb shared sent kept answer second finish begun sent_is kept_is answer_is answered law =
    let is : (known ≡ true) × (first ≡ (xa, private)) = known_some known first (xa, private) begun in
    let second_is : second first.0 ≡ Some (xb, shared) = ap (λ (p : List ℕ × List ℕ). second p.0) is.1 ∙ ap second (sym sent_is) ∙ answered in
    ap (λ (k : List ℕ). finish k answer) kept_is
    ∙ ap (λ (x : List ℕ). finish private x) answer_is
    ∙ sym (ap (λ (p : List ℕ × List ℕ). finish p.1 xb) is.1)
    ∙ law xb shared is.0 second_is

pub same_value : {V : Type 0} (o : Option V) (one other : V) → o ≡ Some one → o ≡ Some other → one ≡ other
same_value o one other e f = some_is one other (sym e ∙ f)

-- a fault that is no refusal says nothing of what the suite knows
pub decides_unless : {X V : Type 0} (known : Bool) (view : X → V) (told : Option V) (fault : SuiteFault) → Answers {T = X} view told (Err fault) → (told ≡ None → ⊥) → Decides {T = ℕ} known (Err fault)
decides_unless known view told faults.NoAlgorithm answer never = elim (never answer) [ ]
decides_unless known view told faults.Failed answer never = tt {0}
decides_unless known view told faults.NoMemory answer never = tt {0}

pub value_not_none : {V : Type 0} (o : Option V) (value : V) → o ≡ Some value → o ≡ None → ⊥
value_not_none None value e f = search rules
value_not_none (Some v) value e f = search rules

-- The laws of a suite, at the laboratory suite.
use Rattle.std.proofs.Common.{◌≡◌, ℕ, ℤ, List, ◌&&◌, Option, Some, None, Bool, true, false, refl, ap, sym, ◌∙◌, is_some}
use Rattle.std.specs.Ordering.{int_eq}
use Rattle.std.specs.Str.{bytes_eq}
use Rattle.std.proofs.lemmas.Slice.Eq.{bytes_eq-Decides}
use Rattle.suite_port.specs.Answer.{only_if}
use Rattle.suite_port.specs.LabKey.{is_lab_key, signature_number, lab_algorithm, lab_signature, lab_verifies}
use Rattle.suite_port.specs.LabCertificate.{begins_key, lab_certificate, lab_key_in}

-- the number that an option has, or that of the laboratory signature
abbrev number_in : Option ℤ → ℤ
number_in None = signature_number
number_in (Some number) = number

known_is : (known : Bool) → is_some (only_if known signature_number) ≡ known
known_is true = refl
known_is false = refl

number_is : (known : Bool) → number_in (only_if known signature_number) ≡ signature_number
number_is true = refl
number_is false = refl

pub lab_verifies_signed : (key text sig : List ℕ) (alg : ℤ) → lab_algorithm key ≡ Some alg → sig ≡ lab_signature key text → lab_verifies key alg text sig ≡ Some true
lab_verifies_signed key text sig alg number same =
    let known : is_lab_key key ≡ true = sym (known_is (is_lab_key key)) ∙ ap is_some number in
    let numbered : alg ≡ signature_number = sym (ap number_in number) ∙ number_is (is_lab_key key) in
    let right : bytes_eq sig (lab_signature key text) ≡ true = (bytes_eq-Decides sig (lab_signature key text)).1 same in
    ap (λ b. only_if (b && int_eq alg signature_number) (bytes_eq sig (lab_signature key text))) known
    ∙ ap (λ (a : ℤ). only_if (true && int_eq a signature_number) (bytes_eq sig (lab_signature key text))) numbered
    ∙ ap Some right

pub lab_issued_key : (key leaf : List ℕ) → begins_key key ≡ true → leaf ≡ lab_certificate key → lab_key_in leaf ≡ Some key
lab_issued_key key leaf begins made = ap lab_key_in made ∙ ap (λ b. only_if b key) begins

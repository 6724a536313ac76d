-- Numbers in decimal digits.
use Rattle.std.proofs.Common.{◌≡◌, ℕ, ◌^◌, ◌<◌, ◌≤◌, List, [], ◌∷◌, length, get_or, Result, Ok, Err, sym, ap, ◌∙◌, subst, zero, suc, drop, arith}
use Rattle.std.proofs.lemmas.Fmt.{decimal_digit, first_decimal, decimal_nonempty, decimal-digits_value, parse-decimal, IsAscii-decimal}
use Rattle.std.proofs.lemmas.Str.Parse.{numerals_by_value, tells_digits, without_leading_plus_none}
use Rattle.std.proofs.lemmas.Str.{IsUtf8-from_ascii}
use Rattle.std.specs.Fmt.{decimal}
use Rattle.std.specs.Str.{IsUtf8}
use Rattle.std.specs.Str.Parse.{ParsesUnsigned, AllDigits, IsNumeral, digits_value, without_leading_plus}
use Rattle.fdo_msgs.specs.Words.{IsLed}

led_plus : (word : List ℕ) → IsLed word → without_leading_plus word ≡ word
led_plus [] led = absurd led
led_plus (first ∷ rest) led = without_leading_plus_none (first ∷ rest) led.0

led_zero : (word : List ℕ) → IsLed word → get_or word 0 0 ≡ 48 → length word ≡ 1
led_zero [] led is = absurd led
led_zero (first ∷ rest) led is = ap (λ (xs : List ℕ). length (first ∷ xs)) (led.1 is)

-- digits without a needless zero in front are those of the number that they write
pub led_number : (E : Type 0) (word : List ℕ) (n : ℕ) → IsLed word → ParsesUnsigned {E = E} 64 10 word (Ok n) → word ≡ decimal n
led_number E word n led parses =
    let plain : without_leading_plus word ≡ word = led_plus word led in
    let numeral = subst (λ w. IsNumeral 10 w) plain parses.0.0 in
    let value : digits_value 10 word ≡ n = ap (digits_value 10) (sym plain) ∙ sym parses.1 in
    let small : digits_value 10 word < 2 ^ 64 = omega (arith, ap (digits_value 10) plain, parses.0.1) in
    sym (decimal-digits_value (numerals_by_value (AllDigits 10) tells_digits) word numeral.1 numeral.0 (led_zero word led) small) ∙ ap decimal value

first_led : (word : List ℕ) (n : ℕ) → n < 2 ^ 64 → word ≡ decimal n → IsLed word
first_led [] n small is = let no : ⊥ = omega (arith, decimal_nonempty n small, ap length is) in absurd no
first_led (first ∷ rest) zero small is =
    let one : first ∷ rest ≡ 48 ∷ [] = is ∙ decimal_digit 0 (omega arith) in
    let digit : first ≡ 48 = ap (λ (w : List ℕ). get_or w 0 0) one in
    (λ plus. omega (arith, digit, plus), λ _. ap (drop 1) one)
first_led (first ∷ rest) (suc n) small is =
    let digit : 48 < first = omega (arith, first_decimal (suc n) (omega arith) small, ap (λ (w : List ℕ). get_or w 0 0) is) in
    (λ plus. omega (arith, plus, digit), λ none. let no : ⊥ = omega (arith, none, digit) in absurd no)

pub not_led : (word : List ℕ) (most : ℕ) → most < 2 ^ 64 → (IsLed word → ⊥) → (n : ℕ) → n ≤ most → word ≡ decimal n → ⊥
not_led word most small led n within is = led (first_led word n (omega (arith, small, within)) is)

pub not_text : (word : List ℕ) (most : ℕ) → most < 2 ^ 64 → (IsUtf8 word → ⊥) → (n : ℕ) → n ≤ most → word ≡ decimal n → ⊥
not_text word most small text n within is = text (subst IsUtf8 (sym is) (IsUtf8-from_ascii (decimal n) (IsAscii-decimal n (omega (arith, small, within)))))

-- what is parsed as one number spells no other, and what is not parsed spells none
pub other_number : (E : Type 0) (word : List ℕ) (found most : ℕ) → most < 2 ^ 64 → ParsesUnsigned {E = E} 64 10 word (Ok found) → most < found → (n : ℕ) → n ≤ most → word ≡ decimal n → ⊥
other_number E word found most small parses past n within is =
    let same : ◌≡◌ {A = Result ℕ E} (Ok found) (Ok n) = parse-decimal 64 n word (Ok found) (omega (arith, small, within)) (omega (arith, small, within)) is parses in
    let equal : found ≡ n = cc in
    omega (arith, equal, past, within)

pub no_number : (E : Type 0) (word : List ℕ) (e : E) (most : ℕ) → most < 2 ^ 64 → ParsesUnsigned {E = E} 64 10 word (Err e) → (n : ℕ) → n ≤ most → word ≡ decimal n → ⊥
no_number E word e most small parses n within is =
    let same : ◌≡◌ {A = Result ℕ E} (Err e) (Ok n) = parse-decimal 64 n word (Err e) (omega (arith, small, within)) (omega (arith, small, within)) is parses in
    cc

-- Words in lower-case hex.
use Rattle.std.proofs.Common.{◌≡◌, ℕ, ◌+◌, ◌*◌, ◌/◌, ◌%◌, ◌<◌, ◌≤◌, Bool, true, false, not, cond, ◌||◌, List, [], ◌∷◌, length, Option, Some, None, Result, Ok, Err, refl, sym, ap, ◌∙◌, suc, arith}
use Rattle.std.specs.Prelude.{slice_index, nat_lt}
use Rattle.std.specs.Result.{result_unwrap_or}
use Rattle.std.specs.List.{list_any}
use Rattle.std.proofs.lemmas.List.Sums.{AllPass-from_list_all}
use Rattle.hex.specs.declared.error.FromHexError.{FromHexError}
use Rattle.hex.specs.Hex.{IsBytes, decode_of, decode_pairs, digit_or_error, hex_digit_value, encode_lower, encode_with, lower_digits, pair_value, value_at, ◌>>=◌}
use Rattle.hex.proofs.HexLemmas.{IsDigits-lower_digits, decode_of-encode_lower, decode_of-even, decode_of-ok}
use Rattle.fdo_msgs.specs.Words.{Lacks}
use Rattle.fdo_commands.specs.Words.{is_capital}

ok_bind : {A B : Type 0} (r : Result A FromHexError) (f : A → Result B FromHexError) (y : B) → (r >>= f) ≡ Ok y → (x : A) × (r ≡ Ok x) × (f x ≡ Ok y)
ok_bind (Ok x) f y h = (x, refl, h)
ok_bind (Err e) f y h = cc h

digit_read : (c i : ℕ) (o : Option ℕ) (v : ℕ) → digit_or_error c i o ≡ Ok v → o ≡ Some v
digit_read c i (Some w) v h = ap Some (ap (λ (r : Result ℕ FromHexError). result_unwrap_or r 0) h)
digit_read c i None v h = cc h

digit_small : (c v : ℕ) → hex_digit_value c ≡ Some v → v < 16
digit_small c v h = grind arith

or_false : (a b : Bool) → a || b ≡ false → (a ≡ false) × (b ≡ false)
or_false true b h = cc
or_false false b h = (refl, h)

digit_low : (c v : ℕ) → hex_digit_value c ≡ Some v → 48 ≤ c
digit_low c v h = grind arith

-- the digit of a value that is no capital
digit_of : (c v : ℕ) → is_capital c ≡ false → hex_digit_value c ≡ Some v → c ≡ cond (nat_lt v 10) (v + 48) (v + 87)
digit_of c v small is = grind arith

one_digit : (c d v : ℕ) → is_capital c ≡ false → is_capital d ≡ false → hex_digit_value c ≡ Some v → hex_digit_value d ≡ Some v → c ≡ d
one_digit c d v pc pd hc hd = digit_of c v pc hc ∙ sym (digit_of d v pd hd)

not_true : (b : Bool) → not b ≡ true → b ≡ false
not_true true h = cc
not_true false h = refl

lower_digit : (v : ℕ) → v < 16 → is_capital (slice_index lower_digits v) ≡ false
lower_digit v small = not_true (is_capital (slice_index lower_digits v)) (AllPass-from_list_all (λ d. not (is_capital d)) lower_digits refl v 0 small)

-- the digit of a value
digit_back : (c v : ℕ) → is_capital c ≡ false → hex_digit_value c ≡ Some v → slice_index lower_digits v ≡ c
digit_back c v small is =
    let within = digit_small c v is in
    one_digit (slice_index lower_digits v) c v (lower_digit v within) small (IsDigits-lower_digits v within) is

-- no capital in a list, at its first and behind it
first_small : (c : ℕ) (rest : List ℕ) → list_any is_capital (c ∷ rest) ≡ false → (is_capital c ≡ false) × (list_any is_capital rest ≡ false)
first_small c rest none = or_false (is_capital c) (list_any is_capital rest) none

-- what pairs of digits say, without a capital, is spelled so
decoded_pairs : (i : ℕ) (word bytes : List ℕ) → list_any is_capital word ≡ false → decode_pairs i word ≡ Ok bytes → word ≡ encode_lower bytes
unfolding decode_pairs encode_with
decoded_pairs i [] bytes none h = ap encode_lower (ap (λ (r : Result (List ℕ) FromHexError). result_unwrap_or r []) h)
decoded_pairs i (a ∷ []) bytes none h = cc h
decoded_pairs i (a ∷ b ∷ rest) bytes none h =
    let first = first_small a (b ∷ rest) none in
    let second = first_small b rest first.1 in
    let byte = ok_bind (pair_value a b i) (λ byte. decode_pairs (i + 2) rest >>= λ bytes. Ok (byte ∷ bytes)) bytes h in
    let high = ok_bind (value_at a i) (λ h. value_at b (i + 1) >>= λ l. Ok (h * 16 + l)) byte.0 byte.1 in
    let low = ok_bind (value_at b (i + 1)) (λ l. Ok (high.0 * 16 + l)) byte.0 high.2 in
    let more = ok_bind (decode_pairs (i + 2) rest) (λ bytes. Ok (byte.0 ∷ bytes)) bytes byte.2 in
    let is_high = digit_read a i (hex_digit_value a) high.0 high.1 in
    let is_low = digit_read b (i + 1) (hex_digit_value b) low.0 low.1 in
    let value : high.0 * 16 + low.0 ≡ byte.0 = ap (λ (r : Result ℕ FromHexError). result_unwrap_or r 0) low.2 in
    let all : byte.0 ∷ more.0 ≡ bytes = ap (λ (r : Result (List ℕ) FromHexError). result_unwrap_or r []) more.2 in
    let small = digit_small b low.0 is_low in
    let at_high : byte.0 / 16 ≡ high.0 = omega (arith, value, small) in
    let at_low : byte.0 % 16 ≡ low.0 = omega (arith, value, small) in
    let one : slice_index lower_digits (byte.0 / 16) ≡ a = ap (slice_index lower_digits) at_high ∙ digit_back a high.0 first.0 is_high in
    let two : slice_index lower_digits (byte.0 % 16) ≡ b = ap (slice_index lower_digits) at_low ∙ digit_back b low.0 second.0 is_low in
    let others : rest ≡ encode_lower more.0 = decoded_pairs (i + 2) rest more.0 second.1 more.1 in
    ap (λ xs. a ∷ b ∷ xs) others ∙ ap (λ x. x ∷ b ∷ encode_lower more.0) (sym one) ∙ ap (λ x. slice_index lower_digits (byte.0 / 16) ∷ x ∷ encode_lower more.0) (sym two) ∙ ap encode_lower all

-- what a word without a capital decodes to is spelled so, and is bytes
pub decoded : (word bytes : List ℕ) → 0 < length word → list_any is_capital word ≡ false → decode_of word ≡ Ok bytes → (word ≡ encode_lower bytes) × IsBytes bytes × (0 < length bytes)
decoded word bytes some none h =
    let ok = decode_of-ok word bytes h in
    (decoded_pairs 0 word bytes none (sym (decode_of-even word ok.0) ∙ h), ok.3, omega (arith, ok.2, some))

lower_small : (bytes : List ℕ) → IsBytes bytes → list_any is_capital (encode_lower bytes) ≡ false
unfolding encode_with
lower_small [] all = refl
lower_small (b ∷ bytes) all =
    let high = lower_digit (b / 16) (omega (arith, all 0)) in
    let low = lower_digit (b % 16) (omega arith) in
    rw (high, low) (lower_small bytes (λ i. all (suc i)))

-- the spelling of bytes has no capital, and decodes to them
pub spelled : (word bytes : List ℕ) → IsBytes bytes → word ≡ encode_lower bytes → (list_any is_capital word ≡ false) × (decode_of word ≡ Ok bytes)
spelled word bytes all is = rw is (lower_small bytes all, decode_of-encode_lower bytes all)

-- and lacks each byte below the digits
pub spelled_lacks : (mark : ℕ) (bytes : List ℕ) → mark < 48 → IsBytes bytes → Lacks mark (encode_lower bytes)
unfolding encode_with
spelled_lacks mark [] low all = tt
spelled_lacks mark (b ∷ bytes) low all =
    let far : (v : ℕ) → v < 16 → slice_index lower_digits v ≡ mark → ⊥ = λ v small is. omega (arith, low, is, digit_low (slice_index lower_digits v) v (IsDigits-lower_digits v small)) in
    (far (b / 16) (omega (arith, all 0)), (far (b % 16) (omega arith), spelled_lacks mark bytes low (λ i. all (suc i))))

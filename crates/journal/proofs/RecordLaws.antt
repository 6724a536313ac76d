-- Records one behind another, and what may follow them.
use Rattle.std.proofs.Common.{◌≡◌, ◌⊎◌, inl, inr, ℕ, zero, suc, ◌+◌, ◌^◌, ◌≤◌, ◌<◌, ◌==◌, ◌&&◌, nat_lt, List, [], ◌∷◌, ◌++◌, length, take, drop, Bool, true, false, Option, None, Some, refl, ap, sym, ◌∙◌, subst, arith, append_assoc, length-append, length-drop}
use Rattle.std.proofs.lemmas.List.{append-nil, drop_at, drop-drop, take_all, take-append-le, take-append-drop, length-take-le}
use Rattle.std.proofs.lemmas.Bool.{cases_eq, cases_lt}
use Rattle.std.proofs.lemmas.Bool.Decides.{nat_tests}
use Rattle.byteorder.specs.Endian.{big_number, big_bytes}
use Rattle.byteorder.specs.Numbers.{big_from-append, big_number-reads_back, length-bytes_high_first}
use Rattle.journal.specs.Records.{record_at, is_one, Walk, ended, walk_on, with_first, walk, framed}

-- ---- one record

pub closed_record : (g : ℕ) (rest : List ℕ) → (g ≡ 1 → ⊥) → record_at (g ∷ rest) ≡ None
unfolding record_at
closed_record g rest closed = grind (arith, nat_tests)

pub open_record : (rest : List ℕ) → 4 + big_number 4 rest < length rest → record_at (1 ∷ rest) ≡ Some (take (big_number 4 rest) (drop 4 rest), drop (4 + big_number 4 rest) rest)
unfolding record_at
open_record rest long =
    let whole : nat_lt (4 + big_number 4 rest) (length rest) ≡ true = whole_is (4 + big_number 4 rest) (length rest) long in
    rw whole refl
  where
    whole_is : (n l : ℕ) → n < l → nat_lt n l ≡ true
    whole_is n l long = grind (arith, nat_tests)

short_record : (rest : List ℕ) → length rest ≤ 4 + big_number 4 rest → record_at (1 ∷ rest) ≡ None
unfolding record_at
short_record rest short =
    let broken : nat_lt (4 + big_number 4 rest) (length rest) ≡ false = broken_is (4 + big_number 4 rest) (length rest) short in
    rw broken refl
  where
    broken_is : (n l : ℕ) → l ≤ n → nat_lt n l ≡ false
    broken_is n l short = grind (arith, nat_tests)

no_record : record_at [] ≡ None
unfolding record_at
no_record = refl

-- the parts of an open record
pub record Fore (x b rest : List ℕ) : Type 0 where
  pub head : List ℕ
  pub four : length head ≡ 4
  pub number : big_number 4 head ≡ length b
  pub is : x ≡ 1 ∷ (head ++ (b ++ rest))
  pub some : 0 < length rest

pub record_again : (head b rest : List ℕ) → length head ≡ 4 → big_number 4 head ≡ length b → 0 < length rest → record_at (1 ∷ (head ++ (b ++ rest))) ≡ Some (b, rest)
record_again head b rest four number some =
    let t : List ℕ = head ++ (b ++ rest) in
    let n : big_number 4 t ≡ length b = big_from-append 4 head (b ++ rest) (omega (arith, four)) ∙ number in
    let behind : drop 4 t ≡ b ++ rest = drop_at head (b ++ rest) 4 four in
    let body : take (big_number 4 t) (drop 4 t) ≡ b =
    ap (λ k. take k (drop 4 t)) n ∙ ap (take (length b)) behind ∙ take-append-le (length b) b rest (omega arith) ∙ take_all (length b) b (omega arith) in
    let later : drop (4 + big_number 4 t) t ≡ rest =
    ap (λ k. drop (4 + k) t) n ∙ ap (λ k. drop k t) (four_more (length b)) ∙ sym (drop-drop (length b) 4 t) ∙ ap (drop (length b)) behind ∙ drop_at b rest (length b) refl in
    open_record t (omega (arith, n, four, some, length-append head (b ++ rest), length-append b rest))
    ∙ ap (λ l. Some (take (big_number 4 t) (drop 4 t), l)) later ∙ ap (λ y. Some (y, rest)) body
  where
    four_more : (n : ℕ) → 4 + n ≡ 4 + n
    four_more n = refl

pub absent : {X : Type 0} (r : List ℕ × List ℕ) → None ≡ Some r → X
absent r is = let no : ⊥ = cc in absurd no

pub record_fore : (x b rest : List ℕ) → record_at x ≡ Some (b, rest) → Fore x b rest
record_fore [] b rest is = absent (b, rest) (sym no_record ∙ is)
record_fore (g ∷ t) b rest is = elim (cases_eq g 1) [
  | inl one ↦ elim (cases_lt (4 + big_number 4 t) (length t)) [
    | inl long ↦ parts long one (some_parts (sym (open_record t long) ∙ ap (λ g. record_at (g ∷ t)) (sym one) ∙ is))
    | inr short ↦ absent (b, rest) (sym (short_record t short) ∙ ap (λ g. record_at (g ∷ t)) (sym one) ∙ is)
  ]
  | inr closed ↦ absent (b, rest) (sym (closed_record g t closed) ∙ is)
]
  where
    some_same : (p q : List ℕ × List ℕ) → Some p ≡ Some q → p ≡ q
    some_same p q is = cc

    some_parts : {y z : List ℕ} → ◌≡◌ {A = Option (List ℕ × List ℕ)} (Some (y, z)) (Some (b, rest)) → (y ≡ b) × (z ≡ rest)
    some_parts {y} {z} is = let same : ◌≡◌ {A = List ℕ × List ℕ} (y, z) (b, rest) = some_same (y, z) (b, rest) is in (ap (λ p. p.0) same, ap (λ p. p.1) same)

    parts : 4 + big_number 4 t < length t → g ≡ 1 → (take (big_number 4 t) (drop 4 t) ≡ b) × (drop (4 + big_number 4 t) t ≡ rest) → Fore (g ∷ t) b rest
    parts long one same =
        let n : ℕ = big_number 4 t in
        let four : length (take 4 t) ≡ 4 = length-take-le 4 t (omega arith) in
        let whole : t ≡ take 4 t ++ drop 4 t = sym (take-append-drop 4 t) in
        let inside : drop 4 t ≡ b ++ rest = sym (take-append-drop n (drop 4 t)) ∙ ap (λ l. l ++ drop n (drop 4 t)) same.0 ∙ ap (λ l. b ++ l) (drop-drop n 4 t ∙ same.1) in
        let length_is : length b ≡ n = ap length (sym same.0) ∙ length-take-le n (drop 4 t) (omega (arith, length-drop 4 t)) in
        record {
          head = take 4 t;
          four = four;
          number = sym (big_from-append 4 (take 4 t) (drop 4 t) (omega (arith, four))) ∙ ap (big_number 4) (sym whole) ∙ sym length_is;
          is = ap (λ g. g ∷ t) one ∙ ap (λ l. 1 ∷ l) (whole ∙ ap (λ l. take 4 t ++ l) inside);
          some = omega (arith, ap length (sym same.1), length-drop (4 + n) t);
        }

-- a record that is written
pub framed_length : (body : List ℕ) → length (framed body) ≡ 5 + length body
unfolding framed
framed_length body = omega (arith, length-append (big_bytes 4 (length body)) (body ++ 0 ∷ []), length-append body (0 ∷ []), length-bytes_high_first 4 (length body))

pub framed_is : (body more : List ℕ) → framed body ++ more ≡ big_bytes 4 (length body) ++ (body ++ 0 ∷ more)
unfolding framed
framed_is body more = append_assoc (big_bytes 4 (length body)) (body ++ 0 ∷ []) more ∙ ap (λ l. big_bytes 4 (length body) ++ l) (append_assoc body (0 ∷ []) more)

pub framed_record : (body more : List ℕ) → length body < 2 ^ 32 → record_at (1 ∷ (framed body ++ more)) ≡ Some (body, 0 ∷ more)
framed_record body more short =
    ap (λ l. record_at (1 ∷ l)) (framed_is body more)
    ∙ record_again (big_bytes 4 (length body)) body (0 ∷ more) (length-bytes_high_first 4 (length body)) (number body short) (omega arith)
  where
    number : (body : List ℕ) → length body < 2 ^ 32 → big_number 4 (big_bytes 4 (length body)) ≡ length body
    number body short = ap (big_number 4) (sym (append-nil (big_bytes 4 (length body)))) ∙ big_number-reads_back 4 (length body) [] short

-- ---- all that are open

abbrev pub Reads : List (List ℕ) → List ℕ → List ℕ → Type 0
Reads [] x y = (x ≡ y) × (record_at x ≡ None)
Reads (b ∷ bs) x y = (rest : List ℕ) × (record_at x ≡ Some (b, rest)) × Reads bs rest y

abbrev pub size : List (List ℕ) → ℕ
size [] = 0
size (b ∷ bs) = 5 + length b + size bs

pub record Found (x : List ℕ) : Type 0 where
  pub bodies : List (List ℕ)
  pub rest : List ℕ
  pub reads : Reads bodies x rest

fore_shorter : (x b rest : List ℕ) → Fore x b rest → length x ≡ 5 + length b + length rest
fore_shorter x b rest f = omega (arith, ap length f.is, f.four, length-append f.head (b ++ rest), length-append b rest)

option_cases : (o : Option (List ℕ × List ℕ)) → (o ≡ None) ⊎ ((r : List ℕ × List ℕ) × (o ≡ Some r))
option_cases None = inl refl
option_cases (Some r) = inr (r, refl)

pub found : (n : ℕ) (x : List ℕ) → length x ≤ n → Found x
found zero [] short = record { bodies = []; rest = []; reads = (refl, no_record) }
found zero (g ∷ t) short = absurd (omega arith)
found (suc n) x short = elim (option_cases (record_at x)) [
  | inl none ↦ record { bodies = []; rest = x; reads = (refl, none) }
  | inr r ↦
      let later = found n r.0.1 (omega (arith, fore_shorter x r.0.0 r.0.1 (record_fore x r.0.0 r.0.1 r.1))) in
      record { bodies = r.0.0 ∷ later.bodies; rest = later.rest; reads = (r.0.1, r.1, later.reads) }
]

pub walk_none : (n place : ℕ) (x : List ℕ) → record_at x ≡ None → walk n place x ≡ ended place x
walk_none zero place x none = refl
walk_none (suc n) place x none = ap (walk_on (λ p x. walk n p x) place x) none

pub walk_is : (bs : List (List ℕ)) (n place : ℕ) (x y : List ℕ) → length bs ≤ n → Reads bs x y → walk n place x ≡ record { bodies = bs; place = place + size bs; one = is_one y }
walk_is [] n place x y few reads = walk_none n place x reads.1 ∙ ap (λ y. record { bodies = []; place = place; one = is_one y }) reads.0 ∙ ap (λ p. record { bodies = []; place = p; one = is_one y }) (nothing place)
  where
    nothing : (p : ℕ) → p ≡ p + 0
    nothing p = omega arith
walk_is (b ∷ bs) zero place x y few reads = absurd (omega arith)
walk_is (b ∷ bs) (suc n) place x y few reads =
    ap (walk_on (λ p x. walk n p x) place x) reads.1 ∙ ap (with_first b) (walk_is bs n (place + (5 + length b)) reads.0 y (omega arith) reads.2)
    ∙ ap (λ p. record { bodies = b ∷ bs; place = p; one = is_one y }) (sums place (length b) (size bs))
  where
    sums : (p b s : ℕ) → p + (5 + b) + s ≡ p + (5 + b + s)
    sums p b s = omega arith

-- whatever follows them
pub record Front (bs : List (List ℕ)) (x y : List ℕ) : Type 0 where
  pub pre : List ℕ
  pub is : x ≡ pre ++ y
  pub long : length pre ≡ size bs
  pub again : (cs : List (List ℕ)) (more z : List ℕ) → 0 < length more → Reads cs more z → Reads (bs ++ cs) (pre ++ more) z
  pub some : 0 < length x → 0 < length y
  pub none : record_at y ≡ None

pub front : (bs : List (List ℕ)) (x y : List ℕ) → Reads bs x y → Front bs x y
front [] x y reads = record {
  pre = [];
  is = reads.0;
  long = refl;
  again = λ cs more z some later. later;
  some = λ some. subst (λ l. 0 < length l) reads.0 some;
  none = ap record_at (sym reads.0) ∙ reads.1;
}
front (b ∷ bs) x y reads =
    let f : Fore x b reads.0 = record_fore x b reads.0 reads.1 in
    let later : Front bs reads.0 y = front bs reads.0 y reads.2 in
    record {
      pre = 1 ∷ (f.head ++ (b ++ later.pre));
      is = f.is ∙ ap (λ l. 1 ∷ (f.head ++ (b ++ l))) later.is ∙ ap (λ l. 1 ∷ l) (sym (regrouped f.head b later.pre y));
      long = omega (arith, f.four, later.long, length-append f.head (b ++ later.pre), length-append b later.pre);
      again = λ cs more z some more_reads. (
        later.pre ++ more,
        ap (λ l. record_at (1 ∷ l)) (regrouped f.head b later.pre more)
            ∙ record_again f.head b (later.pre ++ more) f.four f.number (omega (arith, some, length-append later.pre more)),
        later.again cs more z some more_reads,
      );
      some = λ any. later.some f.some;
      none = later.none;
    }
  where
    regrouped : (h b p m : List ℕ) → (h ++ (b ++ p)) ++ m ≡ h ++ (b ++ (p ++ m))
    regrouped h b p m = append_assoc h (b ++ p) m ∙ ap (λ l. h ++ l) (append_assoc b p m)

pub size_few : (bs : List (List ℕ)) → length bs ≤ size bs
size_few [] = omega arith
size_few (b ∷ bs) = omega (arith, size_few bs)

pub reads_few : (bs : List (List ℕ)) (x y : List ℕ) → Reads bs x y → length bs ≤ length x
reads_few bs x y reads =
    let f = front bs x y reads in
    omega (arith, size_few bs, f.long, ap length f.is, length-append f.pre y)

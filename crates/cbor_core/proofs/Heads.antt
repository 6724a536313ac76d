-- A head that is read is a head that was spelled, and a head that is spelled is read.
use Rattle.std.proofs.Common.{◌≡◌, ℕ, zero, suc, ◌+◌, ◌*◌, ◌%◌, ◌^◌, ◌-◌, ◌<◌, Bool, true, false, cond, ltb, eqb, List, [], ◌∷◌, ◌++◌, Ok, refl, sym, ap, subst, ◌∙◌, arith, inl, inr}
use Rattle.std.specs.Int.{Width, w8, w16, w32, w64, to_be_bytes}
use Rattle.std.proofs.lemmas.Bool.{cases_lt, ltb-false, le-ltb, lt-ltb, eqb-true, eqb-false}
use Rattle.cbor_core.specs.declared.head.Major.{Major}
use Rattle.cbor_core.specs.declared.head.Major.TheVariants as major
use Rattle.cbor_core.specs.declared.head.Size.{Size}
use Rattle.cbor_core.specs.declared.head.Size.TheVariants as size
use Rattle.cbor_core.specs.declared.head.Head.{Head}
use Rattle.cbor_core.specs.declared.head.Head.TheVariants as heads
use Rattle.cbor_core.specs.Head.{major_of, size_of, low_of, high_of}
use Rattle.cbor_core.specs.Reading.{◌>>=◌, number_at, argument_at, other_at, head_at, breaks}
use Rattle.cbor_core.specs.Spelling.{code, info_in, bytes_in, FitsIn, is_shortest, head_in, IsSimple}
use Rattle.cbor_core.proofs.Bytes.{IsBytes, IsBytes-rest, IsWide, wide8, wide16, wide32, wide64, number_takes, number_again, bind_ok, done, ok_is, takes_none, HasText}

-- ---- first bytes

-- what additional information of 0 to 31 means
abbrev IsInfo : Size → ℕ → Type 0
IsInfo size.Inside low = low < 24
IsInfo size.One low = low ≡ 24
IsInfo size.Two low = low ≡ 25
IsInfo size.Four low = low ≡ 26
IsInfo size.Eight low = low ≡ 27
IsInfo size.Reserved low = Unit {0}
IsInfo size.Indefinite low = low ≡ 31

info_above : (k : ℕ) → k < 8 → IsInfo (size_of (24 + k)) (24 + k)
unfolding size_of
info_above zero h = refl
info_above (suc zero) h = refl
info_above (suc (suc zero)) h = refl
info_above (suc (suc (suc zero))) h = refl
info_above (suc (suc (suc (suc zero)))) h = tt
info_above (suc (suc (suc (suc (suc zero))))) h = tt
info_above (suc (suc (suc (suc (suc (suc zero)))))) h = tt
info_above (suc (suc (suc (suc (suc (suc (suc zero))))))) h = refl
info_above (suc (suc (suc (suc (suc (suc (suc (suc k)))))))) h = absurd (omega arith)

inside : (low : ℕ) → low < 24 → size_of low ≡ size.Inside
unfolding size_of
inside low lt = rw (lt-ltb low 24 lt) refl

is_info : (low : ℕ) → low < 32 → IsInfo (size_of low) low
is_info low lt = elim (cases_lt low 24) [
  | inl below ↦ subst (λ s. IsInfo s low) (sym (inside low below)) below
  | inr above ↦ let e : 24 + (low - 24) ≡ low = omega arith in subst (λ k. IsInfo (size_of k) k) e (info_above (low - 24) (omega arith))
]

code_major : (n : ℕ) → n < 7 → code (major_of n) ≡ n
unfolding major_of
code_major zero h = refl
code_major (suc zero) h = refl
code_major (suc (suc zero)) h = refl
code_major (suc (suc (suc zero))) h = refl
code_major (suc (suc (suc (suc zero)))) h = refl
code_major (suc (suc (suc (suc (suc zero))))) h = refl
code_major (suc (suc (suc (suc (suc (suc zero)))))) h = refl
code_major (suc (suc (suc (suc (suc (suc (suc n))))))) h = absurd (omega arith)

major_code : (m : Major) → major_of (code m) ≡ m
unfolding major_of
major_code major.Unsigned = refl
major_code major.Negative = refl
major_code major.Bytes = refl
major_code major.Text = refl
major_code major.Array = refl
major_code major.Map = refl
major_code major.Tag = refl

no_other : (m : Major) → eqb (code m) 7 ≡ false
no_other major.Unsigned = refl
no_other major.Negative = refl
no_other major.Bytes = refl
no_other major.Text = refl
no_other major.Array = refl
no_other major.Map = refl
no_other major.Tag = refl

high_is : (c low : ℕ) → low < 32 → high_of (32 * c + low) ≡ c
high_is c low lt = omega arith

low_is : (c low : ℕ) → low < 32 → low_of (32 * c + low) ≡ low
low_is c low lt = omega arith

-- ---- what is read was spelled

abbrev pub SpellsHead : Head → List ℕ → Type 0
SpellsHead (heads.Sized m s n) text = (form : Size) × FitsIn form n × (s ≡ is_shortest form n) × (text ≡ head_in m form n)
SpellsHead (heads.Open m) text = text ≡ (32 * code m + 31) ∷ []
SpellsHead (heads.Simple n) text = IsSimple n text
SpellsHead heads.Float text = Unit {0}
SpellsHead heads.Break text = Unit {0}
SpellsHead heads.Reserved text = Unit {0}

abbrev ReadsHead : ℕ → Head × List ℕ → List ℕ → Type 0
ReadsHead first x rest = HasText (λ arg. SpellsHead x.0 (first ∷ arg)) rest x.1

wide_found : (w : Width) (limit : ℕ) (wide : IsWide w limit) (place first : ℕ) (make : ℕ → Head) (rest : List ℕ) (x : Head × List ℕ) → IsBytes rest
    → ((n : ℕ) → n < limit → SpellsHead (make n) (first ∷ to_be_bytes w n)) → (number_at place w rest >>= λ n. Ok (make n.0, n.1)) ≡ Ok x → ReadsHead first x rest
wide_found w limit wide place first make rest x fits spelled e =
    let b = bind_ok (number_at place w rest) (λ n. Ok (make n.0, n.1)) x e in
    let t = number_takes w limit wide place rest b.0.0 b.0.1 fits b.1 in
    subst (λ (y : Head × List ℕ). ReadsHead first y rest) (ok_is (make b.0.0, b.0.1) x b.2) (record { text = to_be_bytes w b.0.0; spelled = spelled b.0.0 t.1; taken = t.0 })

none_found : (first : ℕ) (h : Head) (rest : List ℕ) (x : Head × List ℕ) → IsBytes rest → SpellsHead h (first ∷ []) → done (h, rest) ≡ Ok x → ReadsHead first x rest
none_found first h rest x fits spelled e = subst (λ (y : Head × List ℕ). ReadsHead first y rest) (ok_is (h, rest) x e) (record { text = []; spelled = spelled; taken = takes_none rest fits })

argument_found : (place : ℕ) (m : Major) (s : Size) (low : ℕ) (rest : List ℕ) (x : Head × List ℕ) → IsInfo s low → IsBytes rest
    → argument_at place m s low rest ≡ Ok x → ReadsHead (32 * code m + low) x rest
unfolding argument_at
argument_found place m size.Inside low rest x info fits e = none_found (32 * code m + low) (heads.Sized m true low) rest x fits (size.Inside, info, refl, refl) e
argument_found place m size.One low rest x info fits e = rw info (wide_found w8 (2 ^ 8) wide8 place (32 * code m + 24) (λ n. heads.Sized m (is_shortest size.One n) n) rest x fits (λ n lt. (size.One, lt, refl, refl)) e)
argument_found place m size.Two low rest x info fits e = rw info (wide_found w16 (2 ^ 16) wide16 place (32 * code m + 25) (λ n. heads.Sized m (is_shortest size.Two n) n) rest x fits (λ n lt. (size.Two, lt, refl, refl)) e)
argument_found place m size.Four low rest x info fits e = rw info (wide_found w32 (2 ^ 32) wide32 place (32 * code m + 26) (λ n. heads.Sized m (is_shortest size.Four n) n) rest x fits (λ n lt. (size.Four, lt, refl, refl)) e)
argument_found place m size.Eight low rest x info fits e = rw info (wide_found w64 (2 ^ 64) wide64 place (32 * code m + 27) (λ n. heads.Sized m (is_shortest size.Eight n) n) rest x fits (λ n lt. (size.Eight, lt, refl, refl)) e)
argument_found place m size.Reserved low rest x info fits e = none_found (32 * code m + low) heads.Reserved rest x fits tt e
argument_found place m size.Indefinite low rest x info fits e = none_found (32 * code m + low) (heads.Open m) rest x fits (ap (λ k. (32 * code m + k) ∷ []) info) e

abbrev simple_or : ℕ → Head
simple_or n = cond (ltb n 32) heads.Reserved (heads.Simple n)

simple_wide : (n : ℕ) → n < 2 ^ 8 → SpellsHead (simple_or n) (248 ∷ to_be_bytes w8 n)
simple_wide n lt = go (ltb n 32) refl
  where
    go : (b : Bool) → ltb n 32 ≡ b → SpellsHead (cond b heads.Reserved (heads.Simple n)) (248 ∷ to_be_bytes w8 n)
    go true e = tt
    go false e = let small : n % 256 ≡ n = omega arith in inr (ltb-false n 32 e, lt, ap (λ k. 248 ∷ k ∷ []) small)

other_found : (place : ℕ) (s : Size) (low : ℕ) (rest : List ℕ) (x : Head × List ℕ) → IsInfo s low → IsBytes rest → other_at place s low rest ≡ Ok x → ReadsHead (224 + low) x rest
unfolding other_at
other_found place size.Inside low rest x info fits e = none_found (224 + low) (heads.Simple low) rest x fits (inl (info, refl)) e
other_found place size.One low rest x info fits e = rw info (wide_found w8 (2 ^ 8) wide8 place 248 simple_or rest x fits simple_wide e)
other_found place size.Two low rest x info fits e = wide_found w16 (2 ^ 16) wide16 place (224 + low) (λ n. heads.Float) rest x fits (λ n lt. tt) e
other_found place size.Four low rest x info fits e = wide_found w32 (2 ^ 32) wide32 place (224 + low) (λ n. heads.Float) rest x fits (λ n lt. tt) e
other_found place size.Eight low rest x info fits e = wide_found w64 (2 ^ 64) wide64 place (224 + low) (λ n. heads.Float) rest x fits (λ n lt. tt) e
other_found place size.Reserved low rest x info fits e = none_found (224 + low) heads.Reserved rest x fits tt e
other_found place size.Indefinite low rest x info fits e = none_found (224 + low) heads.Break rest x fits tt e

pub head_found : (place : ℕ) (bytes : List ℕ) (x : Head × List ℕ) → IsBytes bytes → head_at place bytes ≡ Ok x → HasText (SpellsHead x.0) bytes x.1
unfolding head_at
head_found place [] x fits e = absurd cc
head_found place (first ∷ rest) x fits e = go (eqb (high_of first) 7) refl e
  where
    low : low_of first < 32
    low = omega arith

    whole : ReadsHead first x rest → HasText (SpellsHead x.0) (first ∷ rest) x.1
    whole h = record { text = first ∷ h.text; spelled = h.spelled; taken = record { parts = ap (λ t. first ∷ t) h.taken.parts; rest_fits = h.taken.rest_fits } }

    go : (b : Bool) → eqb (high_of first) 7 ≡ b → cond b (other_at place (size_of (low_of first)) (low_of first) rest) (argument_at place (major_of (high_of first)) (size_of (low_of first)) (low_of first) rest) ≡ Ok x
        → HasText (SpellsHead x.0) (first ∷ rest) x.1
    go true is r =
        let high : high_of first ≡ 7 = eqb-true _ _ is in
        let e : 224 + low_of first ≡ first = omega arith in
        whole (subst (λ f. ReadsHead f x rest) e (other_found place (size_of (low_of first)) (low_of first) rest x (is_info (low_of first) low) (IsBytes-rest first rest fits) r))
    go false is r =
        let apart : high_of first ≡ 7 → ⊥ = eqb-false _ _ is in
        let high : high_of first < 7 = omega (arith, fits 0) in
        let e : 32 * code (major_of (high_of first)) + low_of first ≡ first = rw (code_major (high_of first) high) (omega arith) in
        whole (subst (λ f. ReadsHead f x rest) e (argument_found place (major_of (high_of first)) (size_of (low_of first)) (low_of first) rest x (is_info (low_of first) low) (IsBytes-rest first rest fits) r))

-- ---- what is spelled is read

size_back : (form : Size) (n : ℕ) → FitsIn form n → size_of (info_in form n) ≡ form
unfolding size_of
size_back size.Inside n fits = inside n fits
size_back size.One n fits = refl
size_back size.Two n fits = refl
size_back size.Four n fits = refl
size_back size.Eight n fits = refl
size_back size.Reserved n fits = absurd fits
size_back size.Indefinite n fits = absurd fits

info_small : (form : Size) (n : ℕ) → FitsIn form n → info_in form n < 32
info_small size.Inside n fits = omega arith
info_small size.One n fits = omega arith
info_small size.Two n fits = omega arith
info_small size.Four n fits = omega arith
info_small size.Eight n fits = omega arith
info_small size.Reserved n fits = absurd fits
info_small size.Indefinite n fits = absurd fits

argument_again : (place : ℕ) (m : Major) (form : Size) (n : ℕ) (rest : List ℕ) → FitsIn form n
    → argument_at place m form (info_in form n) (bytes_in form n ++ rest) ≡ Ok (heads.Sized m (is_shortest form n) n, rest)
unfolding argument_at
argument_again place m size.Inside n rest fits = refl
argument_again place m size.One n rest fits = rw (number_again w8 (2 ^ 8) wide8 place n rest fits) refl
argument_again place m size.Two n rest fits = rw (number_again w16 (2 ^ 16) wide16 place n rest fits) refl
argument_again place m size.Four n rest fits = rw (number_again w32 (2 ^ 32) wide32 place n rest fits) refl
argument_again place m size.Eight n rest fits = rw (number_again w64 (2 ^ 64) wide64 place n rest fits) refl
argument_again place m size.Reserved n rest fits = absurd fits
argument_again place m size.Indefinite n rest fits = absurd fits

pub head_again : (place : ℕ) (m : Major) (form : Size) (n : ℕ) (rest : List ℕ) → FitsIn form n → head_at place (head_in m form n ++ rest) ≡ Ok (heads.Sized m (is_shortest form n) n, rest)
unfolding head_at
head_again place m form n rest fits =
    let small = info_small form n fits in
    rw (high_is (code m) (info_in form n) small, low_is (code m) (info_in form n) small, no_other m, major_code m, size_back form n fits) (argument_again place m form n rest fits)

pub open_again : (place : ℕ) (m : Major) (rest : List ℕ) → head_at place ((32 * code m + 31) ∷ rest) ≡ Ok (heads.Open m, rest)
unfolding head_at major_of size_of argument_at
open_again place major.Unsigned rest = refl
open_again place major.Negative rest = refl
open_again place major.Bytes rest = refl
open_again place major.Text rest = refl
open_again place major.Array rest = refl
open_again place major.Map rest = refl
open_again place major.Tag rest = refl

pub simple_again : (place n : ℕ) (text rest : List ℕ) → IsSimple n text → head_at place (text ++ rest) ≡ Ok (heads.Simple n, rest)
unfolding head_at other_at size_of
simple_again place n text rest (inl h) = rw (h.1, high_is 7 n (omega (arith, h.0)), low_is 7 n (omega (arith, h.0)), inside n h.0) refl
simple_again place n text rest (inr h) =
    let small : n % 256 ≡ n = omega (arith, h.1) in
    let again : number_at place w8 (n ∷ rest) ≡ Ok (n, rest) = subst (λ k. number_at place w8 (k ∷ rest) ≡ Ok (n, rest)) small (number_again w8 (2 ^ 8) wide8 place n rest h.1) in
    ap (λ t. head_at place (t ++ rest)) h.2 ∙ rw (again, le-ltb n 32 h.0) refl

-- ---- breaks

pub break_is : (place : ℕ) (rest : List ℕ) → head_at place (255 ∷ rest) ≡ Ok (heads.Break, rest)
unfolding head_at size_of other_at
break_is place rest = refl

pub no_break : (bytes : List ℕ) → ((rest : List ℕ) → bytes ≡ 255 ∷ rest → ⊥) → breaks bytes ≡ false
no_break [] h = refl
no_break (b ∷ bytes) h = go (eqb b 255) refl
  where
    go : (t : Bool) → eqb b 255 ≡ t → t ≡ false
    go true e = absurd (h bytes (ap (λ k. k ∷ bytes) (eqb-true _ _ e)))
    go false e = refl

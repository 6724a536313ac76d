-- The item at the front of an input.
use Rattle.std.proofs.Common.{◌≡◌, ℕ, ◌+◌, ◌-◌, ◌^◌, ◌<◌, ◌≤◌, Bool, true, false, List, [], ◌++◌, ◌↔◌, length, take, drop, Result, Ok, Err, refl, sym, ap, subst, ◌∙◌, arith, IfOk}
use Rattle.std.proofs.lemmas.List.{length-append, length-take, length-drop, take-append-drop, take_at}
use Rattle.cbor_core.specs.declared.fault.CborFault.{CborFault}
use Rattle.cbor_core.specs.declared.item.Item.{Item}
use Rattle.cbor_core.specs.Deterministic.{det}
use Rattle.cbor_core.specs.Norm.{norm, IsFit, IsReadBack}
use Rattle.cbor_core.specs.Reading.{Gives, item_at, first_item}
use Rattle.cbor_core.specs.Spelling.{SpellsWithin}
use Rattle.cbor_core.proofs.Bytes.{IsBytes, bind_ok, ok_is}
use Rattle.cbor_core.proofs.Found.{item_found}
use Rattle.cbor_core.proofs.Again.{item_again}
use Rattle.cbor_core.proofs.Strict.{strict_det}
use Rattle.cbor_core.proofs.Fits.{fit_spells}
use Rattle.cbor_core.proofs.Loose.{loosely}
use Rattle.cbor_core.proofs.SpelledFits.{spelled_fit}

abbrev pub IsSpelled : Bool → List ℕ → Item × ℕ → Type 0
IsSpelled strict bytes x = (x.1 ≤ length bytes) × SpellsWithin strict 16 x.0 (take x.1 bytes)

pub first_found : (strict : Bool) (bytes : List ℕ) (x : Item × ℕ) → IsBytes bytes → first_item strict bytes ≡ Ok x → IsSpelled strict bytes x
first_found strict bytes x fits e =
    let b = bind_ok (item_at strict (length bytes) 16 bytes) (λ x. Ok (x.0, length bytes - length x.1)) x e in
    let t = item_found strict (length bytes) 16 bytes b.0 fits b.1 in
    let len : length bytes ≡ length t.text + length b.0.1 = ap length t.taken.parts ∙ length-append t.text b.0.1 in
    let n : length bytes - length b.0.1 ≡ length t.text = omega arith in
    let front : take (length bytes - length b.0.1) bytes ≡ t.text = ap (λ k. take k bytes) n ∙ ap (take (length t.text)) t.taken.parts ∙ take_at t.text b.0.1 (length t.text) refl in
    subst (IsSpelled strict bytes) (ok_is (b.0.0, length bytes - length b.0.1) x b.2) (omega arith, subst (SpellsWithin strict 16 b.0.0) (sym front) t.spelled)

pub first_again : (strict : Bool) (bytes : List ℕ) (x : Item) (n : ℕ) → n ≤ length bytes → SpellsWithin strict 16 x (take n bytes) → first_item strict bytes ≡ Ok (x, n)
first_again strict bytes x n le h =
    let read : item_at strict (length bytes) 16 bytes ≡ Ok (x, drop n bytes) = ap (item_at strict (length bytes) 16) (sym (take-append-drop n bytes)) ∙ item_again strict (length bytes) 16 x (take n bytes) (drop n bytes) h in
    let len : length bytes - length (drop n bytes) ≡ n = omega (arith, length-drop n bytes) in
    rw (read, len) refl

pub is_found : (strict : Bool) (bytes : List ℕ) (r : Result (Item × ℕ) CborFault) → IsBytes bytes → Gives (λ x. (x.0, x.1)) r (first_item strict bytes) → IfOk r (IsSpelled strict bytes)
is_found strict bytes (Ok x) fits e = first_found strict bytes x fits e
is_found strict bytes (Err f) fits e = tt

-- no spelling is a proper prefix of another, and bytes spell at most one item
pub one_reading : (strict : Bool) (x y : Item) (a b rest more : List ℕ) → SpellsWithin strict 16 x a → SpellsWithin strict 16 y b → a ++ rest ≡ b ++ more → (x ≡ y) × (a ≡ b)
one_reading strict x y a b rest more h k e =
    let same = ok_is (x, rest) (y, more) (sym (item_again strict 0 16 x a rest h) ∙ ap (item_at strict 0 16) e ∙ item_again strict 0 16 y b more k) in
    let rests : rest ≡ more = ap (λ (p : Item × List ℕ). p.1) same in
    let len : length a + length rest ≡ length b + length more = sym (length-append a rest) ∙ ap length e ∙ length-append b more in
    let short : length a ≡ length b = omega (arith, ap length rests) in
    (ap (λ (p : Item × List ℕ). p.0) same, sym (take_at a rest (length a) refl) ∙ ap (take (length a)) e ∙ take_at b more (length a) (sym short))

-- ---- the deterministic side

abbrev pub IsDetOf : List ℕ → Item × ℕ → Type 0
IsDetOf bytes x = (x.1 ≤ length bytes) × (take x.1 bytes ≡ det x.0) × (norm x.0 ≡ x.0)

pub is_det : (bytes : List ℕ) (r : Result (Item × ℕ) CborFault) → IsBytes bytes → Gives (λ x. (x.0, x.1)) r (first_item true bytes) → IfOk r (IsDetOf bytes)
is_det bytes (Ok x) fits e =
    let h = first_found true bytes x fits e in
    let d = strict_det 16 x.0 (take x.1 bytes) h.1 in
    (h.0, d.text_is, d.normed)
is_det bytes (Err f) fits e = tt

pub det_again : (bytes : List ℕ) (x : Item) (n : ℕ) → n ≤ length bytes → IsFit x → take n bytes ≡ det x → first_item true bytes ≡ Ok (norm x, n)
det_again bytes x n le fit e = first_again true bytes (norm x) n le (subst (SpellsWithin true 16 (norm x)) (sym e) (fit_spells 16 x fit))

front_again : (strict : Bool) (x : Item) (text rest : List ℕ) → SpellsWithin strict 16 x text → first_item strict (text ++ rest) ≡ Ok (x, length text)
front_again strict x text rest h = first_again strict (text ++ rest) x (length text) (omega (arith, length-append text rest)) (subst (SpellsWithin strict 16 x) (sym (take_at text rest (length text) refl)) h)

pub read_back : (x : Item) (text : List ℕ) → text ≡ det x → IsFit x → IsReadBack x text
read_back x text e fit rest =
    let h : SpellsWithin true 16 (norm x) text = subst (SpellsWithin true 16 (norm x)) (sym e) (fit_spells 16 x fit) in
    (front_again true (norm x) text rest h, front_again false (norm x) text rest (loosely 16 (norm x) text h))

pub equal_norms : (x y : Item) → IsFit x → IsFit y → (det x ≡ det y) ↔ (norm x ≡ norm y)
equal_norms x y fx fy =
    let hx = fit_spells 16 x fx in
    let hy = fit_spells 16 y fy in (
      λ e. (one_reading true (norm x) (norm y) (det x) (det y) [] [] hx hy (ap (λ t. t ++ []) e)).0,
      λ e. (strict_det 16 (norm x) (det x) hx).text_is ∙ ap det e ∙ sym (strict_det 16 (norm y) (det y) hy).text_is,
    )

pub is_fit : (strict : Bool) (bytes : List ℕ) (r : Result (Item × ℕ) CborFault) → IsBytes bytes → length bytes < 2 ^ 64 → Gives (λ x. (x.0, x.1)) r (first_item strict bytes) → IfOk r (λ x. IsFit x.0)
is_fit strict bytes (Ok x) fits small e =
    let h = first_found strict bytes x fits e in
    let few : length (take x.1 bytes) < 2 ^ 64 = omega (arith, length-take x.1 bytes) in
    spelled_fit 16 x.0 (take x.1 bytes) few (either strict x.0 (take x.1 bytes) h.1)
  where
    either : (strict : Bool) (x : Item) (text : List ℕ) → SpellsWithin strict 16 x text → SpellsWithin false 16 x text
    either true x text h = loosely 16 x text h
    either false x text h = h
is_fit strict bytes (Err f) fits small e = tt

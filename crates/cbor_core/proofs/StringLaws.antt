-- Strings and their chunks: what is read was spelled, and what is spelled is read.
use Rattle.std.proofs.Common.{◌≡◌, ℕ, ◌-◌, Bool, true, false, cond, ltb, List, [], ◌∷◌, ◌++◌, length, take, drop, Ok, Err, refl, sym, ap, subst, ◌∙◌, append_assoc, arith}
use Rattle.std.specs.List.{concat}
use Rattle.std.proofs.lemmas.Bool.{ltb-false, le-ltb}
use Rattle.std.proofs.lemmas.List.{take_at, drop_at, length-append, append-nil}
use Rattle.std.proofs.lemmas.List.Folds.{concat-append}
use Rattle.cbor_core.specs.declared.fault.CborFault.TheVariants as fault
use Rattle.cbor_core.specs.declared.head.Major.{Major}
use Rattle.cbor_core.specs.declared.head.Major.TheVariants as major
use Rattle.cbor_core.specs.declared.head.Head.{Head}
use Rattle.cbor_core.specs.declared.head.Head.TheVariants as heads
use Rattle.cbor_core.specs.Reading.{◌>>=◌, head_at, is_content, content_at, foreign_at, chunk_in, chunk_step, breaks}
use Rattle.cbor_core.specs.Spelling.{IsHead, IsString, IsChunk, head_in, is_shortest}
use Rattle.cbor_core.proofs.Bytes.{IsBytes, bind_ok, ok_is, guard_ok, check_ok, Takes, takes_then, content_takes, HasText}
use Rattle.cbor_core.proofs.Heads.{SpellsHead, head_found, head_again, break_is, no_break}
use Rattle.cbor_core.proofs.RowLaws.{HasNext}

-- a content of n bytes was taken
pub record HasContent (m : Major) (n : ℕ) (bytes : List ℕ) (x : List ℕ × List ℕ) : Type 0 where
  pub len : length x.0 ≡ n
  pub is_fine : is_content m x.0 ≡ true
  pub taken : Takes bytes x.0 x.1

pub content_found : (place : ℕ) (m : Major) (n : ℕ) (bytes : List ℕ) (x : List ℕ × List ℕ) → IsBytes bytes → content_at place m n bytes ≡ Ok x → HasContent m n bytes x
content_found place m n bytes x fits e =
    let g = guard_ok (ltb (length bytes) n) (fault.Truncated place) (cond (is_content m (take n bytes)) (Ok (take n bytes, drop n bytes)) (Err (fault.Malformed place))) x e in
    let c = check_ok (is_content m (take n bytes)) (fault.Malformed place) (Ok (take n bytes, drop n bytes)) x g.1 in
    let t = content_takes n bytes (ltb-false _ _ g.0) fits in
    subst (HasContent m n bytes) (ok_is (take n bytes, drop n bytes) x c.1) (record { len = t.1; is_fine = c.0; taken = t.0 })

pub content_again : (place : ℕ) (m : Major) (content rest : List ℕ) → is_content m content ≡ true → content_at place m (length content) (content ++ rest) ≡ Ok (content, rest)
content_again place m content rest fine =
    let long : ltb (length (content ++ rest)) (length content) ≡ false = le-ltb _ _ (omega (arith, length-append content rest)) in
    rw (long, take_at content rest (length content) refl, drop_at content rest (length content) refl, fine) refl

foreign_fails : (place n : ℕ) (bytes : List ℕ) (x : List ℕ × List ℕ) → foreign_at place n bytes ≡ Ok x → ⊥
foreign_fails place n bytes x e = go (ltb (length bytes) n) e
  where
    go : (b : Bool) → cond b (Err (fault.Truncated place)) (Err (fault.Malformed place)) ≡ Ok x → ⊥
    go true r = cc
    go false r = cc

-- a chunk that was read has a head of its string's type
record IsOfChunk (m : Major) (place : ℕ) (h : Head) (bytes : List ℕ) (x : List ℕ × List ℕ) : Type 0 where
  pub n : ℕ
  pub s : Bool
  pub head_is : h ≡ heads.Sized m s n
  pub has_content : content_at place m n bytes ≡ Ok x

byte_chunk : (place : ℕ) (h : Head) (bytes : List ℕ) (x : List ℕ × List ℕ) → chunk_in place major.Bytes h bytes ≡ Ok x → IsOfChunk major.Bytes place h bytes x
byte_chunk place (heads.Sized major.Bytes s n) bytes x e = record { n = n; s = s; head_is = refl; has_content = e }
byte_chunk place (heads.Sized major.Text s n) bytes x e = absurd (foreign_fails place n bytes x e)
byte_chunk place (heads.Sized major.Unsigned s n) bytes x e = absurd cc
byte_chunk place (heads.Sized major.Negative s n) bytes x e = absurd cc
byte_chunk place (heads.Sized major.Array s n) bytes x e = absurd cc
byte_chunk place (heads.Sized major.Map s n) bytes x e = absurd cc
byte_chunk place (heads.Sized major.Tag s n) bytes x e = absurd cc
byte_chunk place (heads.Open m) bytes x e = absurd cc
byte_chunk place (heads.Simple n) bytes x e = absurd cc
byte_chunk place heads.Float bytes x e = absurd cc
byte_chunk place heads.Break bytes x e = absurd cc
byte_chunk place heads.Reserved bytes x e = absurd cc

text_chunk : (place : ℕ) (h : Head) (bytes : List ℕ) (x : List ℕ × List ℕ) → chunk_in place major.Text h bytes ≡ Ok x → IsOfChunk major.Text place h bytes x
text_chunk place (heads.Sized major.Text s n) bytes x e = record { n = n; s = s; head_is = refl; has_content = e }
text_chunk place (heads.Sized major.Bytes s n) bytes x e = absurd (foreign_fails place n bytes x e)
text_chunk place (heads.Sized major.Unsigned s n) bytes x e = absurd cc
text_chunk place (heads.Sized major.Negative s n) bytes x e = absurd cc
text_chunk place (heads.Sized major.Array s n) bytes x e = absurd cc
text_chunk place (heads.Sized major.Map s n) bytes x e = absurd cc
text_chunk place (heads.Sized major.Tag s n) bytes x e = absurd cc
text_chunk place (heads.Open m) bytes x e = absurd cc
text_chunk place (heads.Simple n) bytes x e = absurd cc
text_chunk place heads.Float bytes x e = absurd cc
text_chunk place heads.Break bytes x e = absurd cc
text_chunk place heads.Reserved bytes x e = absurd cc

-- the major types of strings
abbrev pub IsStringType : Major → Type 0
IsStringType major.Bytes = Unit {0}
IsStringType major.Text = Unit {0}
IsStringType _ = ⊥

of_chunk : (m : Major) → IsStringType m → (place : ℕ) (h : Head) (bytes : List ℕ) (x : List ℕ × List ℕ) → chunk_in place m h bytes ≡ Ok x → IsOfChunk m place h bytes x
of_chunk major.Bytes kind = byte_chunk
of_chunk major.Text kind = text_chunk
of_chunk major.Unsigned kind = absurd kind
of_chunk major.Negative kind = absurd kind
of_chunk major.Array kind = absurd kind
of_chunk major.Map kind = absurd kind
of_chunk major.Tag kind = absurd kind

chunk_as : (m : Major) → IsStringType m → (place n : ℕ) (s : Bool) (bytes : List ℕ) → chunk_in place m (heads.Sized m s n) bytes ≡ content_at place m n bytes
chunk_as major.Bytes kind place n s bytes = refl
chunk_as major.Text kind place n s bytes = refl
chunk_as major.Unsigned kind place n s bytes = absurd kind
chunk_as major.Negative kind place n s bytes = absurd kind
chunk_as major.Array kind place n s bytes = absurd kind
chunk_as major.Map kind place n s bytes = absurd kind
chunk_as major.Tag kind place n s bytes = absurd kind

-- a head that was read is a head
pub is_head : (strict : Bool) (m : Major) (n : ℕ) (s : Bool) (text : List ℕ) → (strict ≡ true → s ≡ true) → SpellsHead (heads.Sized m s n) text → IsHead strict m n text
is_head strict m n s text short h = record { form = h.0; fits = h.1; shortest = λ e. sym h.2 ∙ short e; bytes = h.3 }

-- a head and a content behind it are a string
pub string_found : (strict : Bool) (m : Major) (n : ℕ) (s : Bool) (bytes mid : List ℕ) (x : List ℕ × List ℕ) → (strict ≡ true → s ≡ true)
    → HasText (SpellsHead (heads.Sized m s n)) bytes mid → HasContent m n mid x → HasText (IsString strict m x.0) bytes x.1
string_found strict m n s bytes mid x short h c = record {
  text = h.text ++ x.0;
  spelled = record {
    head = h.text;
    has_head = subst (λ k. IsHead strict m k h.text) (sym c.len) (is_head strict m n s h.text short h.spelled);
    is_fine = c.is_fine;
    bytes = refl;
  };
  taken = takes_then bytes h.text mid x.0 x.1 h.taken c.taken;
}

joined : (before : List (List ℕ)) (x : List ℕ) → concat (before ++ x ∷ []) ≡ concat before ++ x
joined before x = concat-append before (x ∷ []) ∙ ap (λ t. concat before ++ t) (append-nil x)

pub chunk_found : (total : ℕ) (m : Major) → IsStringType m → (before : List (List ℕ)) (bytes : List ℕ) (next : List ℕ × List ℕ) → IsBytes bytes
    → chunk_step total m (concat before) bytes ≡ Ok next → HasNext (chunk_step total m) concat (IsChunk m) before bytes next
unfolding chunk_step
chunk_found total m kind before bytes next fits e =
    let place = total - length bytes in
    let b = bind_ok (head_at place bytes) (λ h. chunk_in place m h.0 h.1 >>= λ c. Ok (concat before ++ c.0, c.1)) next e in
    let c = bind_ok (chunk_in place m b.0.0 b.0.1) (λ c. Ok (concat before ++ c.0, c.1)) next b.2 in
    let h = head_found place bytes b.0 fits b.1 in
    let o = of_chunk m kind place b.0.0 b.0.1 c.0 c.1 in
    let content = content_found place m o.n b.0.1 c.0 h.taken.rest_fits o.has_content in
    let head : HasText (SpellsHead (heads.Sized m o.s o.n)) bytes b.0.1 = subst (λ k. HasText (SpellsHead k) bytes b.0.1) o.head_is h in
    subst (HasNext (chunk_step total m) concat (IsChunk m) before bytes) (ok_is (concat before ++ c.0.0, c.0.1) next c.2) (record {
      x = c.0.0;
      grown = sym (joined before c.0.0);
      has_text = string_found false m o.n o.s bytes b.0.1 c.0 (λ e. absurd cc) head content;
    })

pub chunk_again : (total : ℕ) (m : Major) → IsStringType m → (before : List (List ℕ)) (x text rest : List ℕ) → IsChunk m before x text
    → chunk_step total m (concat before) (text ++ rest) ≡ Ok (concat (before ++ x ∷ []), rest)
unfolding chunk_step
chunk_again total m kind before x text rest h =
    let place = total - length (text ++ rest) in
    let apart : text ++ rest ≡ head_in m h.has_head.form (length x) ++ (x ++ rest) = ap (λ t. t ++ rest) (h.bytes ∙ ap (λ t. t ++ x) h.has_head.bytes) ∙ append_assoc (head_in m h.has_head.form (length x)) x rest in
    let head : head_at place (text ++ rest) ≡ Ok (heads.Sized m (is_shortest h.has_head.form (length x)) (length x), x ++ rest) = ap (head_at place) apart ∙ head_again place m h.has_head.form (length x) (x ++ rest) h.has_head.fits in
    rw (head, chunk_as m kind place (length x) (is_shortest h.has_head.form (length x)) (x ++ rest), content_again place m x rest h.is_fine, joined before x) refl

broken : (total : ℕ) (m : Major) → IsStringType m → (front rest : List ℕ) (next : List ℕ × List ℕ) → chunk_step total m front (255 ∷ rest) ≡ Ok next → ⊥
unfolding chunk_step
broken total m kind front rest next e =
    let place = total - length (255 ∷ rest) in
    let b = bind_ok (head_at place (255 ∷ rest)) (λ h. chunk_in place m h.0 h.1 >>= λ c. Ok (front ++ c.0, c.1)) next e in
    let c = bind_ok (chunk_in place m b.0.0 b.0.1) (λ c. Ok (front ++ c.0, c.1)) next b.2 in
    let is : (heads.Break, rest) ≡ b.0 = ok_is (heads.Break, rest) b.0 (sym (break_is place rest) ∙ b.1) in
    let o = of_chunk m kind place b.0.0 b.0.1 c.0 c.1 in
    let same : heads.Break ≡ heads.Sized m o.s o.n = ap (λ (p : Head × List ℕ). p.0) is ∙ o.head_is in
    absurd (cc same)

-- a chunk begins with no break, and takes a byte
pub chunk_starts : (total : ℕ) (m : Major) → IsStringType m → (front bytes : List ℕ) (next : List ℕ × List ℕ) → chunk_step total m front bytes ≡ Ok next → breaks bytes ≡ false
chunk_starts total m kind front bytes next e = no_break bytes (λ rest is. broken total m kind front rest next (subst (λ t. chunk_step total m front t ≡ Ok next) is e))

pub chunk_some : (total : ℕ) (m : Major) → (front : List ℕ) (next : List ℕ × List ℕ) → chunk_step total m front [] ≡ Ok next → ⊥
unfolding chunk_step head_at
chunk_some total m front next e = cc

-- What is spelled is read, whatever follows.
use Rattle.std.proofs.Common.{◌≡◌, ℕ, zero, suc, ◌+◌, ◌*◌, ◌-◌, ◌≤◌, Bool, true, false, List, [], ◌∷◌, ◌++◌, length, Result, Ok, Err, refl, sym, ap, subst, ◌∙◌, append_assoc, arith, inl, inr}
use Rattle.std.specs.List.{concat}
use Rattle.std.proofs.lemmas.List.{length-append}
use Rattle.cbor_core.specs.declared.fault.CborFault.{CborFault}
use Rattle.cbor_core.specs.declared.fault.CborFault.TheVariants as fault
use Rattle.cbor_core.specs.declared.head.Major.{Major}
use Rattle.cbor_core.specs.declared.head.Major.TheVariants as major
use Rattle.cbor_core.specs.declared.head.Head.{Head}
use Rattle.cbor_core.specs.declared.head.Head.TheVariants as heads
use Rattle.cbor_core.specs.declared.item.Item.{Item, out-Item, roll-Item, roll-out-Item}
use Rattle.cbor_core.specs.declared.item.Item.TheOpen.{Item-F}
use Rattle.cbor_core.specs.declared.item.Item.TheVariants as items
use Rattle.cbor_core.specs.Deterministic.{det}
use Rattle.cbor_core.specs.Reading.{Read, ◌>>=◌, head_at, content_at, chunk_step, breaks, row_at, open_at, item_step, key_spellings, is_among, is_below_one, admitted, pair_step, demanded, sized_in, open_in, item_in, buried_in, item_at}
use Rattle.cbor_core.specs.Spelling.{code, is_shortest, IsHead, IsCounted, IsOpen, IsString, IsChunk, IsPair, SpellsLayer, SpellsWithin}
use Rattle.cbor_core.proofs.Bytes.{bind_ok}
use Rattle.cbor_core.proofs.Heads.{head_again, open_again, simple_again, break_is, no_break}
use Rattle.cbor_core.proofs.StringLaws.{content_again, chunk_again, chunk_starts, chunk_some}
use Rattle.cbor_core.proofs.RowLaws as rows

meets : (strict b : Bool) (place : ℕ) → (strict ≡ true → b ≡ true) → demanded strict b place ≡ Ok tt
meets true b place h = rw (h refl) refl
meets false b place h = refl

admits : (strict : Bool) (place : ℕ) (keys : List (List ℕ)) (key : List ℕ) → is_among keys key ≡ false → (strict ≡ true → is_below_one keys key ≡ false) → admitted strict place keys key ≡ Ok tt
admits true place keys key fresh ascending = rw (fresh, ascending refl) refl
admits false place keys key fresh ascending = rw fresh refl

module _ (strict : Bool) (total : ℕ) (read : List ℕ → Read Item) (spells : Item → List ℕ → Type 0)
    (again : (x : Item) (text rest : List ℕ) → spells x text → read (text ++ rest) ≡ Ok (x, rest))
    (starts : (rest : List ℕ) (x : Item × List ℕ) → read (255 ∷ rest) ≡ Ok x → ⊥)
    (some : (x : Item × List ℕ) → read [] ≡ Ok x → ⊥) where
  step_again : (before : List Item) (x : Item) (text rest : List ℕ) → spells x text → item_step read before (text ++ rest) ≡ Ok (before ++ x ∷ [], rest)
  step_again before x text rest h = rw (again x text rest h) refl

  step_starts : (front : List Item) (bytes : List ℕ) (next : List Item × List ℕ) → item_step read front bytes ≡ Ok next → breaks bytes ≡ false
  step_starts front bytes next e = no_break bytes (λ rest is.
      let b = bind_ok (read bytes) (λ x. Ok (front ++ x.0 ∷ [], x.1)) next e in
      starts rest b.0 (sym (ap read is) ∙ b.1))

  step_some : (front : List Item) (next : List Item × List ℕ) → item_step read front [] ≡ Ok next → ⊥
  step_some front next e = let b = bind_ok (read []) (λ x. Ok (front ++ x.0 ∷ [], x.1)) next e in some b.0 b.1

  pair_again : (before : List (Item × Item)) (p : Item × Item) (text rest : List ℕ) → IsPair strict spells before p text → pair_step strict total read before (text ++ rest) ≡ Ok (before ++ p ∷ [], rest)
  unfolding pair_step
  pair_again before p text rest h =
      let place = total - length (text ++ rest) in
      let apart : text ++ rest ≡ h.key ++ (h.value ++ rest) = ap (λ t. t ++ rest) h.bytes ∙ append_assoc h.key h.value rest in
      let key : read (text ++ rest) ≡ Ok (p.0, h.value ++ rest) = ap read apart ∙ again p.0 h.key (h.value ++ rest) h.has_key in
      rw (key, admits strict place (key_spellings before) (det p.0) h.fresh h.ascending, again p.1 h.value rest h.has_value) refl

  pair_starts : (front : List (Item × Item)) (bytes : List ℕ) (next : List (Item × Item) × List ℕ) → pair_step strict total read front bytes ≡ Ok next → breaks bytes ≡ false
  unfolding pair_step
  pair_starts front bytes next e = no_break bytes (λ rest is.
      let b = bind_ok (read bytes) (λ key. admitted strict (total - length bytes) (key_spellings front) (det key.0) >>= λ u. read key.1 >>= λ value. Ok (front ++ (key.0, value.0) ∷ [], value.1)) next e in
      starts rest b.0 (sym (ap read is) ∙ b.1))

  pair_some : (front : List (Item × Item)) (next : List (Item × Item) × List ℕ) → pair_step strict total read front [] ≡ Ok next → ⊥
  unfolding pair_step
  pair_some front next e =
      let b = bind_ok (read []) (λ key. admitted strict (total - 0) (key_spellings front) (det key.0) >>= λ u. read key.1 >>= λ value. Ok (front ++ (key.0, value.0) ∷ [], value.1)) next e in
      some b.0 b.1

  -- what a head that is spelled says, and what is behind it
  head_is : (m : Major) (n : ℕ) (text rest : List ℕ) (h : IsHead strict m n text) (place : ℕ) → head_at place (text ++ rest) ≡ Ok (heads.Sized m (is_shortest h.form n) n, rest)
  head_is m n text rest h place = ap (λ t. head_at place (t ++ rest)) h.bytes ∙ head_again place m h.form n rest h.fits

  -- what a reading gives at a head and what is behind it
  record IsRead (x : Item) (bytes rest : List ℕ) : Type 0 where
    pub head : Head
    pub mid : List ℕ
    pub has_head : (place : ℕ) → head_at place bytes ≡ Ok (head, mid)
    pub has_content : (place : ℕ) → item_in strict total read place head mid ≡ Ok (x, rest)

  same : (x y : Item) (bytes rest : List ℕ) → x ≡ y → IsRead x bytes rest → IsRead y bytes rest
  same x y bytes rest e h = subst (λ z. IsRead z bytes rest) e h

  sized_again : (m : Major) (n : ℕ) (x : Item) (head mid text rest : List ℕ) (h : IsHead strict m n head) → text ≡ head ++ mid
      → ((s : Bool) (place : ℕ) → (strict ≡ true → s ≡ true) → sized_in strict total read place m n s mid ≡ Ok (x, rest)) → IsRead x text rest
  sized_again m n x head mid text rest h e content = record {
    head = heads.Sized m (is_shortest h.form n) n;
    mid = mid;
    has_head = λ place. ap (head_at place) e ∙ head_is m n head mid h place;
    has_content = λ place. content (is_shortest h.form n) place h.shortest;
  }

  loose_meets : (place : ℕ) → strict ≡ false → demanded strict false place ≡ Ok tt
  loose_meets place loose = meets strict false place (λ e. absurd (cc (loose, e)))

  string_again : (m : Major) (x : Item) (content text rest : List ℕ) → (h : IsString strict m content text)
      → ((s : Bool) (place : ℕ) → (strict ≡ true → s ≡ true) → content_at place m (length content) (content ++ rest) ≡ Ok (content, rest) → sized_in strict total read place m (length content) s (content ++ rest) ≡ Ok (x, rest))
      → IsRead x (text ++ rest) rest
  string_again m x content text rest h reads = sized_again m (length content) x h.head (content ++ rest) (text ++ rest) rest h.has_head
      (ap (λ t. t ++ rest) h.bytes ∙ append_assoc h.head content rest) (λ s place short. reads s place short (content_again place m content rest h.is_fine))

  open_row : {A B : Type 0} (m : Major) (elements : List A → A → List ℕ → Type 0) (step : B → List ℕ → Read B) (grow : List A → B)
      → ((before : List A) (x : A) (text rest : List ℕ) → elements before x text → step (grow before) (text ++ rest) ≡ Ok (grow (before ++ x ∷ []), rest))
      → ((front : B) (bytes : List ℕ) (next : B × List ℕ) → step front bytes ≡ Ok next → breaks bytes ≡ false)
      → ((front : B) (next : B × List ℕ) → step front [] ≡ Ok next → ⊥)
      → (xs : List A) (x : Item) (text rest : List ℕ) → (h : IsOpen elements strict m xs text)
      → ((mid : List ℕ) (place : ℕ) → demanded strict false place ≡ Ok tt → open_at step total (length mid) (grow []) mid ≡ Ok (grow xs, rest) → open_in strict total read place m mid ≡ Ok (x, rest))
      → IsRead x (text ++ rest) rest
  open_row m elements step grow one begins empty xs x text rest h reads =
      let mid = h.row ++ 255 ∷ rest in
      let apart : text ++ rest ≡ (32 * code m + 31) ∷ mid = ap (λ t. t ++ rest) h.bytes ∙ ap (λ t. (32 * code m + 31) ∷ t) (append_assoc h.row (255 ∷ []) rest) in
      let long : length xs ≤ length h.row = rows.row_long step grow elements one empty xs [] h.row h.has_row in
      let len : length mid ≡ length h.row + suc (length rest) = length-append h.row (255 ∷ rest) in
      let row : open_at step total (length mid) (grow []) mid ≡ Ok (grow xs, rest) = rows.open_again step grow elements one begins total xs [] (length mid) h.row rest (omega arith) h.has_row in
      record {
        head = heads.Open m;
        mid = mid;
        has_head = λ place. ap (head_at place) apart ∙ open_again place m mid;
        has_content = λ place. reads mid place (loose_meets place h.loose) row;
      }

  counted_row : {A : Type 0} (m : Major) (elements : List A → A → List ℕ → Type 0) (step : List A → List ℕ → Read (List A))
      → ((before : List A) (x : A) (text rest : List ℕ) → elements before x text → step before (text ++ rest) ≡ Ok (before ++ x ∷ [], rest))
      → (xs : List A) (x : Item) (text rest : List ℕ) → (h : IsCounted elements strict m xs text)
      → ((s : Bool) (mid : List ℕ) (place : ℕ) → (strict ≡ true → s ≡ true) → row_at step (length xs) [] mid ≡ Ok (xs, rest) → sized_in strict total read place m (length xs) s mid ≡ Ok (x, rest))
      → IsRead x (text ++ rest) rest
  counted_row m elements step one xs x text rest h reads = sized_again m (length xs) x h.head (h.row ++ rest) (text ++ rest) rest h.has_head
      (ap (λ t. t ++ rest) h.bytes ∙ append_assoc h.head h.row rest)
      (λ s place short. reads s (h.row ++ rest) place short (rows.row_again step (λ xs. xs) elements one xs [] h.row rest h.has_row))

  layer_again : (f : Item-F Item) (text rest : List ℕ) → SpellsLayer strict spells f text → IsRead (roll-Item f) (text ++ rest) rest
  layer_again (Item-F.Uint n) text rest h = same (items.Uint n) _ _ _ (sym (items.rolls-Uint n)) (sized_again major.Unsigned n (items.Uint n) text rest (text ++ rest) rest h refl (λ s place short. rw (meets strict s place short) refl))
  layer_again (Item-F.Nint n) text rest h = same (items.Nint n) _ _ _ (sym (items.rolls-Nint n)) (sized_again major.Negative n (items.Nint n) text rest (text ++ rest) rest h refl (λ s place short. rw (meets strict s place short) refl))
  layer_again (Item-F.Bytes b) text rest (inl h) = same (items.Bytes b) _ _ _ (sym (items.rolls-Bytes b)) (string_again major.Bytes (items.Bytes b) b text rest h (λ s place short e. rw (e, meets strict s place short) refl))
  layer_again (Item-F.Bytes b) text rest (inr h) = same (items.Bytes b) _ _ _ (sym (items.rolls-Bytes b))
      (open_row major.Bytes (IsChunk major.Bytes) (chunk_step total major.Bytes) concat (chunk_again total major.Bytes tt) (chunk_starts total major.Bytes tt) (chunk_some total major.Bytes) h.chunks (items.Bytes b) text rest h.has_chunks
      (λ mid place loose e. rw (loose, e, h.joined) refl))
  layer_again (Item-F.Text b) text rest (inl h) = same (items.Text b) _ _ _ (sym (items.rolls-Text b)) (string_again major.Text (items.Text b) b text rest h (λ s place short e. rw (e, meets strict s place short) refl))
  layer_again (Item-F.Text b) text rest (inr h) = same (items.Text b) _ _ _ (sym (items.rolls-Text b))
      (open_row major.Text (IsChunk major.Text) (chunk_step total major.Text) concat (chunk_again total major.Text tt) (chunk_starts total major.Text tt) (chunk_some total major.Text) h.chunks (items.Text b) text rest h.has_chunks
      (λ mid place loose e. rw (loose, e, h.joined) refl))
  layer_again (Item-F.Array xs) text rest (inl h) = same (items.Array xs) _ _ _ (sym (items.rolls-Array xs))
      (counted_row major.Array (λ before. spells) (item_step read) step_again xs (items.Array xs) text rest h (λ s mid place short e. rw (meets strict s place short, e) refl))
  layer_again (Item-F.Array xs) text rest (inr h) = same (items.Array xs) _ _ _ (sym (items.rolls-Array xs))
      (open_row major.Array (λ before. spells) (item_step read) (λ xs. xs) step_again step_starts step_some xs (items.Array xs) text rest h (λ mid place loose e. rw (loose, e) refl))
  layer_again (Item-F.Map ps) text rest (inl h) = same (items.Map ps) _ _ _ (sym (items.rolls-Map ps))
      (counted_row major.Map (IsPair strict spells) (pair_step strict total read) pair_again ps (items.Map ps) text rest h (λ s mid place short e. rw (meets strict s place short, e) refl))
  layer_again (Item-F.Map ps) text rest (inr h) = same (items.Map ps) _ _ _ (sym (items.rolls-Map ps))
      (open_row major.Map (IsPair strict spells) (pair_step strict total read) (λ xs. xs) pair_again pair_starts pair_some ps (items.Map ps) text rest h (λ mid place loose e. rw (loose, e) refl))
  layer_again (Item-F.Tag t x) text rest h = same (items.Tag t x) _ _ _ (sym (items.rolls-Tag t x))
      (sized_again major.Tag t (items.Tag t x) h.head (h.content ++ rest) (text ++ rest) rest h.has_head (ap (λ u. u ++ rest) h.bytes ∙ append_assoc h.head h.content rest)
      (λ s place short. rw (meets strict s place short, again x h.content rest h.has_content) refl))
  layer_again (Item-F.Simple n) text rest h = same (items.Simple n) _ _ _ (sym (items.rolls-Simple n))
      (record { head = heads.Simple n; mid = rest; has_head = λ place. simple_again place n text rest h; has_content = λ place. refl })

pub err_not_ok : {A : Type 0} (r : Result A CborFault) (f : CborFault) (x : A) → r ≡ Err f → r ≡ Ok x → ⊥
err_not_ok r f x a b = cc (a, b)

-- no item begins with a break, and none is empty
pub item_starts : (strict : Bool) (total levels : ℕ) (rest : List ℕ) (x : Item × List ℕ) → item_at strict total levels (255 ∷ rest) ≡ Ok x → ⊥
unfolding item_at
item_starts strict total zero rest x e =
    let place = total - length (255 ∷ rest) in
    let at : (head_at place (255 ∷ rest) >>= λ h. buried_in place h.0 h.1) ≡ Err (fault.Malformed place) = rw (break_is place rest) refl in
    err_not_ok _ (fault.Malformed place) x at e
item_starts strict total (suc levels) rest x e =
    let place = total - length (255 ∷ rest) in
    let at : (head_at place (255 ∷ rest) >>= λ h. item_in strict total (item_at strict total levels) place h.0 h.1) ≡ Err (fault.Malformed place) = rw (break_is place rest) refl in
    err_not_ok _ (fault.Malformed place) x at e

pub item_some : (strict : Bool) (total levels : ℕ) (x : Item × List ℕ) → item_at strict total levels [] ≡ Ok x → ⊥
unfolding item_at head_at
item_some strict total zero x e = cc
item_some strict total (suc levels) x e = cc

pub item_again : (strict : Bool) (total levels : ℕ) (x : Item) (text rest : List ℕ) → SpellsWithin strict levels x text → item_at strict total levels (text ++ rest) ≡ Ok (x, rest)
unfolding item_at SpellsWithin
item_again strict total zero x text rest h = absurd h
item_again strict total (suc levels) x text rest h =
    let place = total - length (text ++ rest) in
    let read = layer_again strict total (item_at strict total levels) (SpellsWithin strict levels) (item_again strict total levels) (item_starts strict total levels) (item_some strict total levels) (out-Item x) text rest h in
    rw (read.has_head place, read.has_content place, roll-out-Item x) refl
